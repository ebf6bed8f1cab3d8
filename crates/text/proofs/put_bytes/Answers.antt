-- `text::put_bytes` meets its contract. Assumes nothing.
use native.Mathlib.Omega.{arith}
use Rattle.std.proofs.Common.{◌≡◌, ◌+◌, ◌-◌, length, refl}
use Rattle.std.proofs.lemmas.Slice.{put_mid-paste}
use Rattle.text.proofs.Putting.{puts, leaves}
use Rattle.text.proofs.put_bytes.Goals as goal

pub returns-then-out-at : goal.returns-then-out-at
returns-then-out-at c = leaves _ _ _ (omega arith)

pub returns-then-out-at-2 : goal.returns-then-out-at-2
returns-then-out-at-2 c = leaves _ _ _ (omega arith)

pub returns : goal.returns
returns c =
    let a = c.args in
    let size : length a.from.now ≡ a.at + length a.from.now - a.at = omega arith in
    let e = put_mid-paste a.at (a.at + length a.from.now - a.at) a.out.now c.copy_from_slice.new.self a.from.now (length a.from.now) c.copy_from_slice.ensures.after size refl in
    rw e (puts a.out.now a.at a.from.now (omega arith))
