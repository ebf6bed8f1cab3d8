-- The line has room for a refusal's.
use Rattle.std.proofs.Common.{arith, sym, length-take-le}
use Rattle.text.proofs.Putting.{within}
use Rattle.mktree.proofs.print_refusal.Goals as goal

pub slice_bounds-line-end : goal.slice_bounds-line-end
slice_bounds-line-end g c = within c.put_refusal-end.ensures (omega arith)

pub slice_bounds-write-end : goal.slice_bounds-write-end
slice_bounds-write-end g c = sym (length-take-le _ _ (within c.put_refusal-end.ensures (omega arith)))
