use Rattle.table.proofs.Laws.{passed_on, goes_on, stops}
use Rattle.table.specs.Check.{first_check}
use mathlib.Core.Path.{◌∙◌}
use Rattle.table.proofs.reading.first_word.Goals as goal

pub returns-in_err-need : goal.returns-in_err-need
unfolding first_check
returns-in_err-need c = passed_on _ _ c.from_residual.ensures.1 ∙ stops _ _ _ _ c.in_err-need.ensures.check

pub returns-in_err-need-2 : goal.returns-in_err-need-2
unfolding first_check
returns-in_err-need-2 c = passed_on _ _ c.from_residual-in_err-need-2.ensures.1 ∙ goes_on _ _ _ c.in_ok-need.ensures.check (stops _ _ _ _ c.in_err-need-2.ensures.check)

pub returns-in_err-need-3 : goal.returns-in_err-need-3
unfolding first_check
returns-in_err-need-3 c = passed_on _ _ c.from_residual-in_err-need-3.ensures.1 ∙ simp (← c.word_at-w.ensures, ← c.part-width.ensures, ← c.is_first.ensures) (goes_on _ _ _ c.in_ok-need.ensures.check (goes_on _ _ _ c.in_ok-need-2.ensures.check (stops _ _ _ _ c.in_err-need-3.ensures.check)))

pub returns-in_err-need-4 : goal.returns-in_err-need-4
unfolding first_check
returns-in_err-need-4 c = passed_on _ _ c.from_residual-in_err-need-4.ensures.1 ∙ simp (← c.word_at-w.ensures, ← c.part-width.ensures, ← c.is_first.ensures, ← c.part.ensures) (goes_on _ _ _ c.in_ok-need.ensures.check (goes_on _ _ _ c.in_ok-need-2.ensures.check (goes_on _ _ _ c.in_ok-need-3.ensures.check (stops _ _ _ _ c.in_err-need-4.ensures.check))))

pub returns-in_err-need-5 : goal.returns-in_err-need-5
unfolding first_check
returns-in_err-need-5 c = passed_on _ _ c.from_residual-in_err-need-5.ensures.1 ∙ simp (← c.word_at-w.ensures, ← c.part-width.ensures, ← c.is_first.ensures, ← c.part.ensures, ← c.part-2.ensures) (goes_on _ _ _ c.in_ok-need.ensures.check (goes_on _ _ _ c.in_ok-need-2.ensures.check (goes_on _ _ _ c.in_ok-need-3.ensures.check (goes_on _ _ _ c.in_ok-need-4.ensures.check (stops _ _ _ _ c.in_err-need-5.ensures.check)))))

pub returns-in_err-need-6 : goal.returns-in_err-need-6
unfolding first_check
returns-in_err-need-6 c = passed_on _ _ c.from_residual-in_err-need-6.ensures.1 ∙ simp (← c.word_at-w.ensures, ← c.part-width.ensures, ← c.is_first.ensures, ← c.part.ensures, ← c.part-2.ensures) (goes_on _ _ _ c.in_ok-need.ensures.check (goes_on _ _ _ c.in_ok-need-2.ensures.check (goes_on _ _ _ c.in_ok-need-3.ensures.check (goes_on _ _ _ c.in_ok-need-4.ensures.check (goes_on _ _ _ c.in_ok-need-5.ensures.check (stops _ _ _ _ c.in_err-need-6.ensures.check))))))

pub returns : goal.returns
unfolding first_check
returns c = simp (← c.word_at-w.ensures, ← c.part-width.ensures, ← c.is_first.ensures, ← c.part.ensures, ← c.part-2.ensures) (goes_on _ _ _ c.in_ok-need.ensures.check (goes_on _ _ _ c.in_ok-need-2.ensures.check (goes_on _ _ _ c.in_ok-need-3.ensures.check (goes_on _ _ _ c.in_ok-need-4.ensures.check (goes_on _ _ _ c.in_ok-need-5.ensures.check (goes_on _ _ _ c.in_ok-need-6.ensures.check (c.need-7.ensures.check)))))))
