-- No more words are left than there were.
use Rattle.std.proofs.Common.{◌≤◌, length}
use Rattle.probe.proofs.output.Lines.lines.Given as goal

abbrev pub invariant-loop-rest : goal.invariant-loop-rest
invariant-loop-rest g l = length l.rest.words.now ≤ length l.asked.words.now

abbrev pub decreases-loop-rest : goal.decreases-loop-rest
decreases-loop-rest g l = length l.rest.words.now
