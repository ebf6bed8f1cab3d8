use Rattle.numbers.specs.Whole.{on_side}
use native.Mathlib.Omega.{arith}
use Rattle.numbers.proofs.Side.distance.Goals as goal

pub returns-then-self : goal.returns-then-self
unfolding on_side
returns-then-self c = rw c.if-self.true (omega arith)

pub returns-else-self : goal.returns-else-self
unfolding on_side
returns-else-self c = rw c.if-self.false
