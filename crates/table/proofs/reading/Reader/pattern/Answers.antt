use Rattle.table.proofs.Laws.{passed_on, goes_on, stops}
use Rattle.table.specs.Check.{pattern_check}
use mathlib.Core.Path.{◌∙◌}
use Rattle.words.specs.Words.{includes}
use Rattle.table.proofs.reading.Reader.pattern.Goals as goal

pub returns-in_err-has : goal.returns-in_err-has
unfolding pattern_check includes
returns-in_err-has c = passed_on _ _ c.from_residual.ensures.1 ∙ stops _ _ _ _ c.in_err-has.ensures.check

pub returns-in_err-need : goal.returns-in_err-need
unfolding pattern_check includes
returns-in_err-need c = passed_on _ _ c.from_residual-in_err-need.ensures.1 ∙ simp (← c.word-mask.ensures, ← c.word-value.ensures) (goes_on _ _ _ c.in_ok-has.ensures.check (stops _ _ _ _ c.in_err-need.ensures.check))

pub returns : goal.returns
unfolding pattern_check includes
returns c = simp (← c.word-mask.ensures, ← c.word-value.ensures) (goes_on _ _ _ c.in_ok-has.ensures.check (goes_on _ _ _ c.in_ok-need.ensures.check (c.need-2.ensures.check)))
