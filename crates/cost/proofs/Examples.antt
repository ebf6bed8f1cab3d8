-- Cycles, computed on the smallest table that has them, and on the same table of kind 1. Assumes nothing.
use mathlib.Core.Path.{◌≡◌, refl}
use Rattle.words.specs.Outcome.{result, refused}
use Rattle.table.specs.Table.{table_of}
use Rattle.table.specs.Check.{read_table}
use Rattle.table.specs.Worked.{printed, costed}
use Rattle.table.proofs.Examples.{opened}
use Rattle.cost.specs.Cost.{cycles_of}
use Rattle.cost.specs.Recosted.{uncosted, bare}

costs : cycles_of (read_table costed) 0 ≡ result 77
unfolding opened cycles_of
costs = refl

no_second : cycles_of (read_table costed) 1 ≡ refused 11 0 0
unfolding opened cycles_of
no_second = refl

kind_one_costs : cycles_of (read_table printed) 0 ≡ result 0
unfolding opened cycles_of
kind_one_costs = refl

-- they differ in cycles only: what Costs.antt says of two such tables holds of these
twins : bare (table_of printed) ≡ bare (table_of costed)
unfolding opened bare uncosted
twins = refl
