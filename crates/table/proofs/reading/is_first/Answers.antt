use Rattle.words.specs.Tests.{◌or◌}
use mathlib.Core.Path.{sym, ◌∙◌}
use Rattle.table.proofs.reading.is_first.Goals as goal

pub returns-then-is_of : goal.returns-then-is_of
unfolding ◌or◌
returns-then-is_of c = c.if-is_of.true ∙ rw (sym c.is_of.ensures ∙ c.if-is_of.true)

pub returns-else-is_of : goal.returns-else-is_of
unfolding ◌or◌
returns-else-is_of c = c.is_of-else-is_of.ensures ∙ rw (sym c.is_of.ensures ∙ c.if-is_of.false)
