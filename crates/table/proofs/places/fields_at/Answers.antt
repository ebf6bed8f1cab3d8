use Rattle.table.specs.Table.{fields_place}
use native.Mathlib.Omega.{arith}
use mathlib.Core.Path.{sym, ◌∙◌}
use Rattle.table.proofs.places.fields_at.Goals as goal

pub returns-then-has_cycles : goal.returns-then-has_cycles
unfolding fields_place
returns-then-has_cycles c = (rw (sym c.has_cycles.ensures ∙ c.if-has_cycles.true), omega arith)

pub returns-else-has_cycles : goal.returns-else-has_cycles
unfolding fields_place
returns-else-has_cycles c = (rw (sym c.has_cycles.ensures ∙ c.if-has_cycles.false), omega arith)
