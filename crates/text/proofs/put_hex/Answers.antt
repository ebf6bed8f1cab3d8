-- `text::put_hex` meets its contract. Assumes nothing.
use Rattle.std.proofs.Common.{refl, arith, length-set}
use Rattle.text.specs.Digits.{hex_text}
use Rattle.text.proofs.Spelling.{eight_on, eight_all}
use Rattle.text.proofs.put_hex.Goals as goal

pub loop-i-init : goal.loop-i-init
unfolding hex_text
loop-i-init c = (refl, refl)

pub loop-i-preserved : goal.loop-i-preserved
loop-i-preserved c =
    let i = c.loop-i.invariant in
    (simp length-set i.0, eight_on _ _ _ _ i.0 (omega arith) c.digit.ensures i.1)

pub returns : goal.returns
returns c = let i = c.loop-i.invariant in rw (eight_all _ _ _ i.0 (omega arith) i.1) at c.put_bytes.ensures
