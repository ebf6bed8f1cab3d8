-- The judge's answer, by the places at which the entries stand; and what its private functions state.
use Rattle.std.specs.Prelude.{ℕ, ◌<◌, ◌≡◌, Bool, true, false, List, get_or, Option, Some, None}
use Rattle.table.specs.Table.{Entry, entry_at}
use Rattle.table.specs.declared.Entries.{Entries}
use Rattle.choice.specs.Rule.{Choice, names, nothing, ambiguous, beats_at}
use Rattle.choice.specs.declared.Verdict.{Verdict}

-- the entry that stands at place j of the array
abbrev pub entry_placed : List ℕ → List ℕ → ℕ → Entry
entry_placed ws places j = entry_at ws (get_or places j 0)

-- entry j of the entries
abbrev pub entry_of : Entries → ℕ → Entry
entry_of es = entry_placed es.words.now es.places

-- the choice that each case of the answer is
abbrev pub said_verdict : Verdict → Choice
said_verdict (Verdict.Names i) = names i
said_verdict Verdict.Nothing = nothing
said_verdict Verdict.Stuck = ambiguous

-- the first of n that is live; or none is
abbrev pub FirstLive : (ℕ → Bool) → ℕ → Option ℕ → Type 0
FirstLive live n (Some r) = (r < n) × (live r ≡ true) × ((j : ℕ) → j < r → live j ≡ false)
FirstLive live n None = (j : ℕ) → j < n → live j ≡ false

-- entry r is live, and no other live entry beats all the others
pub record Leads (entry : ℕ → Entry) (live : ℕ → Bool) (n r : ℕ) : Type 0 where
  pub bound : r < n
  pub here : live r ≡ true
  pub only : (j : ℕ) → j < n → live j ≡ true → beats_at entry live n j ≡ true → j ≡ r
