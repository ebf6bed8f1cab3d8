-- Fewer words are left than there were.
use Rattle.std.proofs.Common.{◌<◌, length}
use Rattle.probe.proofs.input.Piece.take_request.Given as goal

abbrev pub invariant-loop-i : goal.invariant-loop-i
invariant-loop-i l = length l.self.words.now < length l.fn.self.words.now
