-- What the code's patterns, conditions and walks over them are.
use Rattle.std.specs.Prelude.{List}
use Rattle.table.specs.Table.{Pattern, Condition, pattern_at, condition_at, unmatching_at, conditions_at}
use Rattle.cell.specs.declared.items.Pattern as Stood
use Rattle.cell.specs.declared.items.Patterns.{Patterns}
use Rattle.cell.specs.declared.items.Condition as Place
use Rattle.cell.specs.declared.items.Conditions.{Conditions}

abbrev pub pattern_of : Stood.Pattern → Pattern
pattern_of p = pattern_at p.words.now p.at

-- what a walk over unmatching patterns has left
abbrev pub patterns_left : Patterns → List Pattern
patterns_left s = unmatching_at s.words.now s.left s.at

abbrev pub condition_of : Place.Condition → Condition
condition_of k = condition_at k.words.now k.at

-- what a walk over conditions has left
abbrev pub conditions_left : Conditions → List Condition
conditions_left s = conditions_at s.words.now s.left s.at
