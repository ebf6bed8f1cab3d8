use Rattle.words.specs.Tests.{◌and◌}
use Rattle.table.specs.Check.{form_fits}
use Prim.Native.Nat.{◌≤◌, ◌<◌}
use mathlib.Core.Path.{◌≡◌}
use native.Mathlib.Omega.{arith}
use lib.Dec.{leb}
use borrow.Author.Tests.{lt-leb, le-leb}
use Rattle.table.proofs.reading.form_fits.Goals as goal

pub returns-then-part-gt2 : goal.returns-then-part-gt2
unfolding form_fits ◌and◌
returns-then-part-gt2 c =
    let over : 2 < c.part.result = omega (arith, c.if-part-gt2.true) in
    simp (← c.part.ensures, lt-leb _ _ over)

pub returns-then-fraction-gt16 : goal.returns-then-fraction-gt16
unfolding form_fits ◌and◌
returns-then-fraction-gt16 c =
    let known : c.part.result ≤ 2 = omega (arith, c.if-part-gt2.false) in
    simp (← c.part.ensures, le-leb _ _ known, ← c.part-fraction.ensures, lt-leb _ _ c.if-fraction-gt16.true)

pub returns : goal.returns
unfolding form_fits ◌and◌
returns c =
    let known : c.part.result ≤ 2 = omega (arith, c.if-part-gt2.false) in
    let within : leb c.part-fraction.result c.part-width.result ≡ form_fits c.args.w =
    simp (← c.part.ensures, le-leb _ _ known, ← c.part-fraction.ensures, le-leb _ _ c.if-fraction-gt16.false, ← c.part-width.ensures) in
    within
