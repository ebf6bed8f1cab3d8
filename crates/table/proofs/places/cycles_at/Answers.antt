use Rattle.table.specs.Table.{cycles_at}
use mathlib.Core.Path.{sym, ◌∙◌}
use Rattle.table.proofs.places.cycles_at.Goals as goal

pub returns-then-not-has_cycles : goal.returns-then-not-has_cycles
unfolding cycles_at
returns-then-not-has_cycles c = rw (sym c.has_cycles.ensures ∙ c.if-not-has_cycles.true)

pub returns : goal.returns
unfolding cycles_at
returns c = rw (sym c.has_cycles.ensures ∙ c.if-not-has_cycles.false) c.word_at.ensures
