use Rattle.choice.specs.Status.{Stated}
use native.Mathlib.Omega.{arith}
use Rattle.selection.proofs.statuses.Goals as goal

pub returns : goal.returns
unfolding Stated
returns c = λ j h. c.loop-k.invariant.1 j (omega (arith, c.min-k-end.ensures, c.loop-k-test.false))
