-- What an entry's cycles are (document 02, No. 3).
use Rattle.std.specs.Prelude.{ℕ, cond, ltb, length}
use Rattle.words.specs.Outcome.{Outcome, result, faulty, refused}
use Rattle.table.specs.Table.{Table, entry_number}

-- "A new call gives an entry's cycles, or after the table's faults 11 for no such entry."
unfoldable pub cycles_of : Outcome Table → ℕ → Outcome ℕ
cycles_of (faulty n p) e = faulty n p
cycles_of (refused n p w) e = refused n p w
cycles_of (result t) e = cond (ltb e (length t.entries)) (result (entry_number t.entries e).cycles) (refused 11 0 0)
