use Rattle.table.proofs.Laws.{passed_on, goes_on, stops}
use Rattle.table.specs.Check.{cycles_check}
use mathlib.Core.Path.{sym, ◌∙◌}
use Rattle.table.proofs.reading.Reader.cycles.Goals as goal

pub returns-then-not-has_cycles : goal.returns-then-not-has_cycles
unfolding cycles_check
returns-then-not-has_cycles c = rw (sym c.has_cycles.ensures ∙ c.if-not-has_cycles.true)

pub returns-in_err-has : goal.returns-in_err-has
unfolding cycles_check
returns-in_err-has c = passed_on _ _ c.from_residual.ensures.1 ∙ rw (sym c.has_cycles.ensures ∙ c.if-not-has_cycles.false) (stops _ _ _ _ c.in_err-has.ensures.check)

pub returns : goal.returns
unfolding cycles_check
returns c = rw (sym c.has_cycles.ensures ∙ c.if-not-has_cycles.false, ← c.word.ensures) (goes_on _ _ _ c.in_ok-has.ensures.check c.need.ensures.check)
