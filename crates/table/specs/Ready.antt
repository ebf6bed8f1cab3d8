-- What a caller knows of a table that the reader accepted.
use Rattle.std.specs.Prelude.{ℕ, ◌<◌, ◌≡◌, List, get_or}
use Rattle.words.specs.Words.{word}
use Rattle.table.specs.Table.{width_of, count_of, entry_place}
use Rattle.table.specs.Check.{fine, table_check}

-- a table without fault, its entries' places, its width and their number
pub record Ready (ws places : List ℕ) (width count : ℕ) : Type 0 where
  pub good : table_check ws ≡ fine
  pub wide : width ≡ width_of (word ws 0)
  pub number : count ≡ count_of (word ws 0)
  pub each : (k : ℕ) → k < count → get_or places k 0 ≡ entry_place ws k
