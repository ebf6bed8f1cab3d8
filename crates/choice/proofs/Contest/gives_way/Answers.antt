use Rattle.std.proofs.Common.{rules}
use Rattle.words.specs.Tests.{◌or◌}
use Rattle.choice.specs.Rule.{gives_way}
use Rattle.choice.proofs.Contest.gives_way.Goals as goal

pub returns-then-eq : goal.returns-then-eq
unfolding gives_way ◌or◌
returns-then-eq c = search rules

pub returns-else-eq : goal.returns-else-eq
unfolding gives_way ◌or◌
returns-else-eq c = search rules
