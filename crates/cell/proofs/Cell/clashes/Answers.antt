use Rattle.std.proofs.Common.{rules}
use Rattle.cell.specs.Cell.{clashes}
use Rattle.cell.proofs.Cell.clashes.Goals as goal

pub returns : goal.returns
unfolding clashes
returns c = search rules
