use Rattle.table.proofs.Laws.{passed_on, goes_on, stops}
use Rattle.table.specs.Check.{condition_check}
use mathlib.Core.Path.{◌∙◌}
use Rattle.table.proofs.reading.Reader.condition.Goals as goal

pub returns-in_err-has-clause-check : goal.returns-in_err-has-clause-check
unfolding condition_check
returns-in_err-has-clause-check c = passed_on _ _ c.from_residual.ensures.1 ∙ stops _ _ _ _ c.in_err-has.ensures.check

pub returns-in_err-need-clause-check : goal.returns-in_err-need-clause-check
unfolding condition_check
returns-in_err-need-clause-check c = passed_on _ _ c.from_residual-in_err-need.ensures.1 ∙ simp (← c.word-w.ensures, ← c.part-n.ensures, ← c.is_of.ensures) (goes_on _ _ _ c.in_ok-has.ensures.check (stops _ _ _ _ c.in_err-need.ensures.check))

pub returns-in_err-need-2-clause-check : goal.returns-in_err-need-2-clause-check
unfolding condition_check
returns-in_err-need-2-clause-check c = passed_on _ _ c.from_residual-in_err-need-2.ensures.1 ∙ simp (← c.word-w.ensures, ← c.part-n.ensures, ← c.is_of.ensures, ← c.part.ensures) (goes_on _ _ _ c.in_ok-has.ensures.check (goes_on _ _ _ c.in_ok-need.ensures.check (stops _ _ _ _ c.in_err-need-2.ensures.check)))

pub returns-in_err-need-3-clause-check : goal.returns-in_err-need-3-clause-check
unfolding condition_check
returns-in_err-need-3-clause-check c = passed_on _ _ c.from_residual-in_err-need-3.ensures.1 ∙ simp (← c.word-w.ensures, ← c.part-n.ensures, ← c.is_of.ensures, ← c.part.ensures) (goes_on _ _ _ c.in_ok-has.ensures.check (goes_on _ _ _ c.in_ok-need.ensures.check (goes_on _ _ _ c.in_ok-need-2.ensures.check (stops _ _ _ _ c.in_err-need-3.ensures.check))))

pub returns-in_err-pattern-clause-check : goal.returns-in_err-pattern-clause-check
unfolding condition_check
returns-in_err-pattern-clause-check c = passed_on _ _ c.from_residual-in_err-pattern.ensures.1 ∙ simp (← c.word-w.ensures, ← c.part-n.ensures, ← c.is_of.ensures, ← c.part.ensures) (goes_on _ _ _ c.in_ok-has.ensures.check (goes_on _ _ _ c.in_ok-need.ensures.check (goes_on _ _ _ c.in_ok-need-2.ensures.check (goes_on _ _ _ c.in_ok-need-3.ensures.check (stops _ _ _ _ c.in_err-pattern.ensures)))))

pub returns-in_err-unmatchings-clause-check : goal.returns-in_err-unmatchings-clause-check
unfolding condition_check
returns-in_err-unmatchings-clause-check c = passed_on _ _ c.from_residual-in_err-unmatchings.ensures.1 ∙ simp (← c.word-w.ensures, ← c.part-n.ensures, ← c.is_of.ensures, ← c.part.ensures) (goes_on _ _ _ c.in_ok-has.ensures.check (goes_on _ _ _ c.in_ok-need.ensures.check (goes_on _ _ _ c.in_ok-need-2.ensures.check (goes_on _ _ _ c.in_ok-need-3.ensures.check (goes_on _ _ _ c.in_ok-pattern.ensures (c.in_err-unmatchings.ensures))))))

pub returns-clause-check : goal.returns-clause-check
unfolding condition_check
returns-clause-check c = simp (← c.word-w.ensures, ← c.part-n.ensures, ← c.is_of.ensures, ← c.part.ensures) (goes_on _ _ _ c.in_ok-has.ensures.check (goes_on _ _ _ c.in_ok-need.ensures.check (goes_on _ _ _ c.in_ok-need-2.ensures.check (goes_on _ _ _ c.in_ok-need-3.ensures.check (goes_on _ _ _ c.in_ok-pattern.ensures (c.in_ok-unmatchings.ensures))))))
