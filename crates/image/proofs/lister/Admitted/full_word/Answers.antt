use mathlib.Core.Path.{refl, ◌∙◌}
use Rattle.image.specs.Address.{word_at}
use Rattle.image.proofs.lister.Admitted.full_word.Goals as goal

pub returns : goal.returns
unfolding word_at
returns c = c.both_halves.ensures ∙ rw (c.half.ensures, c.half-2.ensures, c.after.ensures) refl
