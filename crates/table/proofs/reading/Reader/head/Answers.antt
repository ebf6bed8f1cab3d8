use Rattle.table.proofs.Laws.{passed_on, goes_on, stops}
use Rattle.table.specs.Check.{head_check}
use mathlib.Core.Path.{◌∙◌}
use Rattle.table.proofs.reading.Reader.head.Goals as goal

pub returns-in_err-has : goal.returns-in_err-has
unfolding head_check
returns-in_err-has c = passed_on _ _ c.from_residual.ensures.1 ∙ stops _ _ _ _ c.in_err-has.ensures.check

pub returns-in_err-need : goal.returns-in_err-need
unfolding head_check
returns-in_err-need c = passed_on _ _ c.from_residual-in_err-need.ensures.1 ∙ simp (← c.word-w.ensures, ← c.part-size.ensures, ← c.is_of.ensures) (goes_on _ _ _ c.in_ok-has.ensures.check (stops _ _ _ _ c.in_err-need.ensures.check))

pub returns-in_err-need-2 : goal.returns-in_err-need-2
unfolding head_check
returns-in_err-need-2 c = passed_on _ _ c.from_residual-in_err-need-2.ensures.1 ∙ simp (← c.word-w.ensures, ← c.part-size.ensures, ← c.is_of.ensures) (goes_on _ _ _ c.in_ok-has.ensures.check (goes_on _ _ _ c.in_ok-need.ensures.check (stops _ _ _ _ c.in_err-need-2.ensures.check)))

pub returns-in_err-need-3 : goal.returns-in_err-need-3
unfolding head_check
returns-in_err-need-3 c = passed_on _ _ c.from_residual-in_err-need-3.ensures.1 ∙ simp (← c.word-w.ensures, ← c.part-size.ensures, ← c.is_of.ensures) (goes_on _ _ _ c.in_ok-has.ensures.check (goes_on _ _ _ c.in_ok-need.ensures.check (goes_on _ _ _ c.in_ok-need-2.ensures.check (stops _ _ _ _ c.in_err-need-3.ensures.check))))

pub returns-in_err-need-4 : goal.returns-in_err-need-4
unfolding head_check
returns-in_err-need-4 c = passed_on _ _ c.from_residual-in_err-need-4.ensures.1 ∙ simp (← c.word-w.ensures, ← c.part-size.ensures, ← c.is_of.ensures, ← c.part.ensures) (goes_on _ _ _ c.in_ok-has.ensures.check (goes_on _ _ _ c.in_ok-need.ensures.check (goes_on _ _ _ c.in_ok-need-2.ensures.check (goes_on _ _ _ c.in_ok-need-3.ensures.check (stops _ _ _ _ c.in_err-need-4.ensures.check)))))

pub returns : goal.returns
unfolding head_check
returns c = simp (← c.word-w.ensures, ← c.part-size.ensures, ← c.is_of.ensures, ← c.part.ensures, ← c.part-2.ensures) (goes_on _ _ _ c.in_ok-has.ensures.check (goes_on _ _ _ c.in_ok-need.ensures.check (goes_on _ _ _ c.in_ok-need-2.ensures.check (goes_on _ _ _ c.in_ok-need-3.ensures.check (goes_on _ _ _ c.in_ok-need-4.ensures.check (c.need-5.ensures.check))))))
