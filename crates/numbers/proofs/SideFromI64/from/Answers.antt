use mathlib.Core.Path.{◌∙◌}
use mir.Facts.{to_z-of_z}
use Rattle.numbers.proofs.Sides.{read_fits, above_size, below_size}
use Rattle.numbers.proofs.SideFromI64.from.Goals as goal

pub returns-then-below : goal.returns-then-below
returns-then-below c = rw c.if-below.true (below_size _ (read_fits c.ranges.number) c.if-below.true ∙ to_z-of_z c.ranges.number)

pub returns : goal.returns
returns c = rw c.if-below.false (above_size _ (read_fits c.ranges.number) c.if-below.false ∙ to_z-of_z c.ranges.number)
