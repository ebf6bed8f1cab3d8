use Rattle.std.proofs.Common.{rules}
use Rattle.words.specs.Tests.{◌and◌}
use Rattle.words.specs.Words.{includes}
use Rattle.choice.specs.Rule.{matches}
use Rattle.cell.specs.Cell.{implies}
use Rattle.cell.proofs.Cell.implies.Goals as goal

pub returns-then-self-mask : goal.returns-then-self-mask
unfolding implies includes matches ◌and◌
returns-then-self-mask c = search rules

pub returns-else-self-mask : goal.returns-else-self-mask
unfolding implies includes matches ◌and◌
returns-else-self-mask c = search rules
