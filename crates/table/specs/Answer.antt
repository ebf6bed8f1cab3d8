-- What the answers of the code mean.
use Rattle.std.specs.Prelude.{ℕ, cond, ◌≡◌, List, ltb, length, get_or, Result, Ok, Err, IfOk}
use Rattle.words.specs.Outcome.{Outcome, result, faulty, refused, number_of, said_as}
use Rattle.words.specs.declared.Fault.{Fault}
use Rattle.words.specs.declared.Refusal.{Refusal}
use Rattle.table.specs.Table.{Table, entry_place}
use Rattle.table.specs.Check.{Check, fine, fault, read_table}
use Rattle.table.specs.declared.Table as Held
use Rattle.table.specs.declared.reading.Flaw.{Flaw}

-- ---- a field's word by itself

-- the number of a fault, 0 without one
unfoldable pub fault_number : Check → ℕ
fault_number fine = 0
fault_number (fault n p) = n

abbrev pub said_fault : Result Unit Fault → ℕ
said_fault (Ok a) = 0
said_fault (Err f) = number_of f

-- ---- the public call

-- what a table without fault gives: its width and its number of entries
pub record Shape : Type 0 where
  pub width : ℕ
  pub entries : ℕ

abbrev pub shape : Held.Table → Shape
shape t = record { width = t.width; entries = t.entries.count }

-- what the answer says: the table's shape, or the paper's number and place
abbrev pub said : Result Held.Table Refusal → Outcome Shape
said = said_as shape

-- what the definition says of the table's shape
abbrev pub shape_of : Outcome Table → Outcome Shape
shape_of (result t) = result (record { width = t.width; entries = length t.entries })
shape_of (faulty n p) = faulty n p
shape_of (refused n p w) = refused n p w

-- entry k's place; 0 where the table has no entry k, or is refused
abbrev pub place_of : Outcome Table → List ℕ → ℕ → ℕ
place_of (result t) ws k = cond (ltb k (length t.entries)) (entry_place ws k) 0
place_of (faulty n p) ws k = 0
place_of (refused n p w) ws k = 0

-- reading answers what the definition says; a table has the words that were read, and each entry's place and else zeros
pub record Reads (ws : List ℕ) (r : Result Held.Table Refusal) : Type 0 where
  pub answer : said r ≡ shape_of (read_table ws)
  pub places : IfOk r (λ t. (k : ℕ) → get_or t.entries.places k 0 ≡ place_of (read_table ws) ws k)
  pub words : IfOk r (λ t. t.entries.words.now ≡ ws)

-- ---- its parts

-- what a check of the code says
abbrev pub checked : {A : Type 0} → Result A Flaw → Check
checked (Ok a) = fine
checked (Err f) = fault (number_of f.fault) f.place

-- the place of each of the first k entries, and zeros
abbrev pub Placed : List ℕ → ℕ → List ℕ → Type 0
Placed ws k places = (j : ℕ) → get_or places j 0 ≡ cond (ltb j k) (entry_place ws j) 0
