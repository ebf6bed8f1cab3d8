use Rattle.table.proofs.Laws.{passed_on, goes_on, stops}
use Rattle.table.specs.Check.{unmatching_check}
use mathlib.Core.Path.{◌∙◌}
use Rattle.table.proofs.reading.Reader.unmatching.Goals as goal

pub returns-in_err-has : goal.returns-in_err-has
unfolding unmatching_check
returns-in_err-has c = passed_on _ _ c.from_residual.ensures.1 ∙ stops _ _ _ _ c.in_err-has.ensures.check

pub returns-in_err-need : goal.returns-in_err-need
unfolding unmatching_check
returns-in_err-need c = passed_on _ _ c.from_residual-in_err-need.ensures.1 ∙ simp (← c.word-w.ensures, ← c.is_of.ensures) (goes_on _ _ _ c.in_ok-has.ensures.check (stops _ _ _ _ c.in_err-need.ensures.check))

pub returns-in_err-need-2 : goal.returns-in_err-need-2
unfolding unmatching_check
returns-in_err-need-2 c = passed_on _ _ c.from_residual-in_err-need-2.ensures.1 ∙ simp (← c.word-w.ensures, ← c.is_of.ensures, ← c.part.ensures) (goes_on _ _ _ c.in_ok-has.ensures.check (goes_on _ _ _ c.in_ok-need.ensures.check (stops _ _ _ _ c.in_err-need-2.ensures.check)))

pub returns : goal.returns
unfolding unmatching_check
returns c = simp (← c.word-w.ensures, ← c.is_of.ensures, ← c.part.ensures) (goes_on _ _ _ c.in_ok-has.ensures.check (goes_on _ _ _ c.in_ok-need.ensures.check (goes_on _ _ _ c.in_ok-need-2.ensures.check (c.pattern.ensures))))
