use Rattle.std.proofs.Common.{arith}
use Rattle.std.proofs.lemmas.Grind.{common_steps}
use Rattle.halves.specs.Common.{both_of}
use Rattle.halves.proofs.both.Goals as goal

pub returns-then-eq : goal.returns-then-eq
unfolding both_of
returns-then-eq c = grind (arith, common_steps)

pub returns : goal.returns
unfolding both_of
returns c = grind (arith, common_steps)
