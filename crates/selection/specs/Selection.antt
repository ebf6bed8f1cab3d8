-- Which entry of a table a word selects ('Selection').
use Rattle.std.specs.Prelude.{ℕ, Bool, not, List}
use Rattle.words.specs.Tests.{◌and◌, any_of}
use Rattle.table.specs.Table.{Condition, Entry}
use Rattle.choice.specs.Rule.{Choice, matches, judge}

-- "A condition is satisfied when the word matches its matching pattern and none of its unmatching patterns."
unfoldable pub satisfied : ℕ → Condition → Bool
satisfied w k = matches w k.matching and not (any_of (matches w) k.unmatching)

-- "An entry claims a word that matches its opcode pattern and satisfies none of its conditions."
unfoldable pub claims : ℕ → Entry → Bool
claims w e = matches w e.opcode and not (any_of (satisfied w) e.conditions)

-- "The selected entry is the claiming one that is more specific than every other claiming one. With no claim the answer is nothing.
-- With claims and no such entry the word is ambiguous."
unfoldable pub select : List Entry → ℕ → Choice
select es w = judge es (claims w) (claims w)
