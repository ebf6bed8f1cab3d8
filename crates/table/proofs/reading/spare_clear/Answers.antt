use Rattle.words.specs.Tests.{◌or◌}
use Rattle.table.specs.Check.{spare_clear}
use mathlib.Core.Path.{◌≡◌}
use native.Mathlib.Omega.{arith}
use borrow.Author.Tests.{eq-eqb, ne_eqb}
use Rattle.table.proofs.reading.spare_clear.Goals as goal

pub returns-then-part-eq2 : goal.returns-then-part-eq2
unfolding spare_clear ◌or◌
returns-then-part-eq2 c =
    let two : c.part.result ≡ 2 = omega (arith, c.if-part-eq2.true) in
    simp (← c.part.ensures, eq-eqb _ _ two)

pub returns : goal.returns
unfolding spare_clear ◌or◌
returns c = simp (← c.part.ensures, ne_eqb _ _ c.if-part-eq2.false, ← c.part-2.ensures)
