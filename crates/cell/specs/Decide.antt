-- What the functions state, by the places at which the entries stand, for any words and places.
-- For a table without fault it is the step of its entries (`step_ready`, `settled_ready` in proofs/Deciding.antt).
use Rattle.std.specs.Prelude.{ℕ, ◌<◌, ◌≡◌, Bool, not, cond, List, get_or, length, Option, Some, None}
use Rattle.words.specs.Tests.{◌and◌, exists, how_many, best}
use Rattle.words.specs.Words.{bit}
use Rattle.table.specs.Table.{Entry}
use Rattle.choice.specs.Rule.{names, nothing, ambiguous}
use Rattle.choice.specs.declared.Status.{Status}
use Rattle.choice.specs.declared.Status.TheVariants.{Dead, Sure, Open}
use Rattle.cell.specs.Cell.{Cell, dead, sure}
use Rattle.cell.specs.Step.{Step, end, split, in_open}
use Rattle.cell.specs.declared.Cell as Fixed
use Rattle.cell.specs.declared.Decision.{Decision}

-- the cell that the code's cell is
abbrev pub cell_of : Fixed.Cell → Cell
cell_of c = record { fixed = c.fixed; bits = c.bits }

-- "dead if ..", "sure if ..", "else open"
unfoldable pub status_of : Cell → Entry → Status
status_of c e = cond (dead c e) Dead (cond (sure c e) Sure Open)

-- the step that each case of the answer is
abbrev pub said_decision : Decision → Step
said_decision (Decision.Names i) = end (names i)
said_decision Decision.Nothing = end nothing
said_decision Decision.Conflict = end ambiguous
said_decision (Decision.Test i) = split i

-- ---- step 4: the bit to test

-- how many masks have bit i; none where it is fixed
unfoldable pub votes_for : List ℕ → ℕ → ℕ
votes_for masks i = how_many (λ j. bit (get_or masks j 0) i) (length masks)

unfoldable pub weight_of : List ℕ → ℕ → ℕ → ℕ
weight_of masks fixed i = cond (bit fixed i) 0 (votes_for masks i)

-- the bit below the width that has the greatest weight, if there is any weight
abbrev pub Heaviest : (ℕ → ℕ) → ℕ → Option ℕ → Type 0
Heaviest weight width (Some b) = (b ≡ best weight width) × (0 < weight b)
Heaviest weight width None = weight (best weight width) ≡ 0

-- bit i is "in any pattern of an open condition of an open entry"
unfoldable pub in_some : (ℕ → Entry) → (ℕ → Bool) → ℕ → Cell → ℕ → Bool
in_some entry isOpen n c i = exists (λ j. isOpen j and in_open c i (entry j)) n

-- 1 if the unfixed bit i is in the mask
unfoldable pub unfixed_in : ℕ → ℕ → ℕ → ℕ
unfixed_in mask fixed i = cond (bit mask i and not (bit fixed i)) 1 0
