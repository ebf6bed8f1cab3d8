use borrow.Author.Rules.{rules}
use Rattle.words.specs.Tests.{◌or◌}
use Rattle.image.specs.Listing.{image_size}
use Rattle.image.proofs.refusals.image_size.Goals as goal

pub returns-then-size-eq16 : goal.returns-then-size-eq16
unfolding image_size ◌or◌
returns-then-size-eq16 c = search rules

pub returns-else-size-eq16 : goal.returns-else-size-eq16
unfolding image_size ◌or◌
returns-else-size-eq16 c = search rules
