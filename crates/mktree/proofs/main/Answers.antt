-- No more words are written than there is room for.
use Rattle.std.proofs.Common.{sym, length-take-le}
use Rattle.words.proofs.Filling.{fills_within}
use Rattle.mktree.proofs.main.Goals as goal

pub slice_bounds-space-end-2 : goal.slice_bounds-space-end-2
slice_bounds-space-end-2 c = fills_within c.words_of-n.ensures

pub slice_bounds-print_tree_of-end-2 : goal.slice_bounds-print_tree_of-end-2
slice_bounds-print_tree_of-end-2 c = sym (length-take-le _ _ (fills_within c.words_of-n.ensures))
