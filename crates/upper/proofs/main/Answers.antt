-- No more words are written than there is room for.
use Rattle.std.proofs.Common.{sym, length-take-le}
use Rattle.words.proofs.Filling.{fills_within}
use Rattle.upper.proofs.main.Goals as goal

pub slice_bounds-space-end : goal.slice_bounds-space-end
slice_bounds-space-end c = fills_within c.words_of-n.ensures

pub slice_bounds-found_in-end : goal.slice_bounds-found_in-end
slice_bounds-found_in-end c = sym (length-take-le _ _ (fills_within c.words_of-n.ensures))
