use mathlib.Core.Path.{refl, ◌∙◌}
use Rattle.image.specs.Items.{item_at}
use Rattle.image.proofs.lister.Admitted.item_at.Goals as goal

pub returns : goal.returns
unfolding item_at
returns c = c.item_of.ensures ∙ rw (c.picked_at.ensures, c.end.ensures) refl
