use Rattle.choice.specs.Rule.{matches}
use Rattle.selection.proofs.matches.Goals as goal

pub returns : goal.returns
unfolding matches
returns c = rw (c.word_at.ensures, c.word_at-2.ensures)
