use Rattle.std.proofs.Common.{rules}
use Rattle.words.specs.Tests.{◌and◌}
use Rattle.image.specs.Listing.{image_good}
use Rattle.image.proofs.refusals.image_good.Goals as goal

pub returns-then-image-eq0 : goal.returns-then-image-eq0
unfolding image_good ◌and◌
returns-then-image-eq0 c = search rules

pub returns-else-image-eq0 : goal.returns-else-image-eq0
unfolding image_good ◌and◌
returns-else-image-eq0 c = search rules
