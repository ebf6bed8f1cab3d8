use Rattle.std.proofs.Common.{rules}
use Rattle.std.proofs.iter.runs.Sources.{ranges}
use Rattle.choice.specs.Rule.{gives_way}
use Rattle.choice.proofs.Contest.beats.Goals as goal

pub returns : goal.returns
unfolding gives_way
returns c = search (rules, ranges)
