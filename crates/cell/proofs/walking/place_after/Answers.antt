use Rattle.cell.proofs.Walks.{none_left}
use Rattle.table.specs.Table.{conditions_at, condition_end}
use native.Mathlib.Omega.{arith}
use mathlib.Core.Path.{◌≡◌, ap}
use Prim.Native.Nat.{◌+◌, ◌*◌}
use Rattle.cell.proofs.walking.place_after.Goals as goal

pub returns-then-n-lt1-clause-place : goal.returns-then-n-lt1-clause-place
returns-then-n-lt1-clause-place c = none_left _ _ _ _ c.if-n-lt1.true

pub returns-clause-place : goal.returns-clause-place
returns-clause-place c =
    let a = c.args in
    let e : a.p + (3 + 3 * c.followers.result) ≡ condition_end a.ws.now a.p = rw (c.followers.ensures.0, c.word_at.ensures) (omega arith) in
    ap (conditions_at _ _) e
