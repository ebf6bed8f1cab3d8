-- The line has room for a word's.
use Rattle.std.proofs.Common.{arith, sym, length-take-le}
use Rattle.text.proofs.Putting.{within}
use Rattle.mktree.proofs.print_tree.Goals as goal

pub slice_bounds-line-end : goal.slice_bounds-line-end
slice_bounds-line-end g c = within c.put_tree_line-end.ensures (omega arith)

pub slice_bounds-put-end : goal.slice_bounds-put-end
slice_bounds-put-end g c = sym (length-take-le _ _ (within c.put_tree_line-end.ensures (omega arith)))
