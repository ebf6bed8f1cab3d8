-- There are fewer tests than nodes seen.
use Rattle.std.proofs.Common.{◌<◌}
use Rattle.compare.proofs.paths.tests.Given as goal

abbrev pub invariant-loop-index : goal.invariant-loop-index
invariant-loop-index l = l.count < l.index
