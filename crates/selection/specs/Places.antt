-- The choice among entries by the places at which they stand.
use Rattle.std.specs.Prelude.{ℕ, ◌<◌, ◌≡◌, cond, List, get_or, Option, Result}
use Rattle.words.specs.declared.Refusal.{Refusal}
use Rattle.table.specs.Table.{Entry}
use Rattle.choice.specs.Rule.{Choice, judge_at}
use Rattle.choice.specs.declared.Status.{Status}
use Rattle.choice.specs.declared.Status.TheVariants.{Dead, Sure}
use Rattle.choice.specs.Judged.{entry_placed}
use Rattle.selection.specs.Selection.{claims}
use Rattle.selection.specs.Lookup.{looked_up, looked_in, said_found, IfFound}
use Rattle.selection.specs.declared.Found.{Found}

-- a word is the cell that fixes every bit: an entry that claims it is sure, any other is dead
unfoldable pub status_for : ℕ → Entry → Status
status_for w e = cond (claims w e) Sure Dead

-- what is chosen among the n entries at these places
unfoldable pub chosen_at : List ℕ → List ℕ → ℕ → ℕ → Choice
chosen_at ws places n w = judge_at (entry_placed ws places) (λ j. claims w (entry_placed ws places j)) (λ j. claims w (entry_placed ws places j)) n

-- the answer on n entries; the entry that is answered is one of them, and its place is its own
pub record Chosen (ws places : List ℕ) (n w : ℕ) (r : Result (Option Found) Refusal) : Type 0 where
  pub answer : said_found r ≡ looked_up w (chosen_at ws places n w)
  pub place : IfFound r (λ f. f.place ≡ get_or places f.entry 0)
  pub bound : IfFound r (λ f. f.entry < n)

-- the same of n entries and a width
pub record FindsAmong (ws places : List ℕ) (width n w : ℕ) (r : Result (Option Found) Refusal) : Type 0 where
  pub answer : said_found r ≡ looked_in width w (chosen_at ws places n w)
  pub place : IfFound r (λ f. f.place ≡ get_or places f.entry 0)
  pub bound : IfFound r (λ f. f.entry < n)
