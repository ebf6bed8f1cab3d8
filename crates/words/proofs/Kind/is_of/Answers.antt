use mathlib.Core.Path.{sym, ◌∙◌}
use Rattle.words.proofs.Numbered.{number_at, other_number}
use Rattle.words.proofs.Parts.{part_lt}
use Rattle.words.proofs.Kind.is_of.Goals as goal

pub returns-in-Some : goal.returns-in-Some
returns-in-Some c = rw (c.number.ensures, c.number-in-Some.ensures, number_at _ _ (part_lt c.args.w 28 4) (sym c.of.ensures ∙ c.in-Some.is))

pub returns-in-None : goal.returns-in-None
returns-in-None c = sym (other_number _ _ (sym c.of.ensures ∙ c.in-None.is))
