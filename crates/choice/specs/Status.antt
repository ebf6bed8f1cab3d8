-- What an entry is in a cell, and an array of what entries are.
use Rattle.std.specs.Prelude.{ℕ, ◌<◌, ◌≡◌, Bool, true, false, List, get_or}
use Rattle.choice.specs.declared.Status.{Status}
use Rattle.choice.specs.declared.Status.TheVariants.{Dead, Sure, Open}

-- it is sure; it is open; "Live means sure or open"
abbrev pub is_sure : Status → Bool
is_sure Dead = false
is_sure Sure = true
is_sure Open = false

abbrev pub is_open : Status → Bool
is_open Dead = false
is_open Sure = false
is_open Open = true

abbrev pub is_live : Status → Bool
is_live Dead = false
is_live Sure = true
is_live Open = true

-- entry j of the array is
abbrev pub sure_in : List Status → ℕ → Bool
sure_in s j = is_sure (get_or s j Dead)

abbrev pub open_in : List Status → ℕ → Bool
open_in s j = is_open (get_or s j Dead)

abbrev pub live_in : List Status → ℕ → Bool
live_in s j = is_live (get_or s j Dead)

-- the array has the status of each of n entries
unfoldable pub Stated : (ℕ → Status) → ℕ → List Status → Type 0
Stated status n s = (j : ℕ) → j < n → get_or s j Dead ≡ status j
