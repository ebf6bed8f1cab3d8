use Rattle.std.proofs.Common.{rules}
use mathlib.Core.Path.{◌≡◌, sym, ◌∙◌}
use native.Mathlib.Omega.{arith}
use Rattle.cell.proofs.Loops.{best_one, best_end, best_other, best_same, weight_none}
use Rattle.cell.specs.Decide.{weight_of}
use Rattle.words.specs.Tests.{best}
use Rattle.cell.proofs.testing.heaviest.Goals as goal
use Rattle.cell.proofs.testing.heaviest.Goals.{then-weight-other, else-weight-other}

pub returns-then-is_empty : goal.returns-then-is_empty
returns-then-is_empty c = weight_none _ _ _ (search rules)

pub loop-i-init : goal.loop-i-init
loop-i-init c = (omega arith, sym (best_one _), c.weigh-weight.ensures)

pub loop-i-preserved : goal.loop-i-preserved
loop-i-preserved c =
    let l = c.loop-i in
    let v = weight_of c.args.masks.now c.args.fixed in
    elim c.if-weight-other.branch [
      | then-weight-other w ↦ rw (w.bit-is, w.weight-is) (omega arith, best_other v l.i l.bit l.weight _ l.invariant.1 l.invariant.2 c.weigh-other.ensures w.if-weight-other.true, c.weigh-other.ensures)
      | else-weight-other w ↦ rw (w.bit-is, w.weight-is) (omega arith, best_same v l.i l.bit l.weight _ l.invariant.1 l.invariant.2 c.weigh-other.ensures w.if-weight-other.false, l.invariant.2)
    ]

pub returns-then-weight-gt0 : goal.returns-then-weight-gt0
returns-then-weight-gt0 c =
    let l = c.loop-i in
    (l.invariant.1 ∙ best_end _ l.i _ (omega arith) l.invariant.0 c.loop-i-test.false, rw (← l.invariant.2) c.if-weight-gt0.true)

pub returns-else-weight-gt0 : goal.returns-else-weight-gt0
returns-else-weight-gt0 c =
    let l = c.loop-i in
    let v = weight_of c.args.masks.now c.args.fixed in
    let p : l.bit ≡ best v c.args.width = l.invariant.1 ∙ best_end v l.i _ (omega arith) l.invariant.0 c.loop-i-test.false in
    let z : v l.bit ≡ 0 = omega (arith, l.invariant.2) in
    rw (← p) z
