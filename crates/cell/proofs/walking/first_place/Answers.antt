use Rattle.cell.proofs.Walks.{none_left}
use Rattle.table.specs.Table.{conditions_at}
use mathlib.Core.Path.{ap}
use Rattle.cell.proofs.walking.first_place.Goals as goal

pub returns-then-n-lt1-clause-place : goal.returns-then-n-lt1-clause-place
returns-then-n-lt1-clause-place c = none_left _ _ _ _ c.if-n-lt1.true

pub returns : goal.returns
returns c = record { place = ap (conditions_at _ _) c.conditions_at.ensures.0; near = c.conditions_at.ensures.1 }
