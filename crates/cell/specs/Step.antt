-- What to do with a cell: steps 1 to 4 ('The tree of a table').
use Rattle.std.specs.Prelude.{ℕ, Bool, true, false, not, cond, List, eqb, length}
use Rattle.words.specs.Tests.{◌and◌, ◌or◌, any_of, exists, how_many, best}
use Rattle.words.specs.Words.{bit}
use Rattle.table.specs.Table.{Condition, Entry, entry_number}
use Rattle.choice.specs.Rule.{Choice, names, nothing, ambiguous, judge_at}
use Rattle.cell.specs.Cell.{Cell, open_condition, live, sure, open_entry}

-- ---- the bit to test

-- how many bits below the width a mask leaves unfixed
unfoldable pub free : ℕ → ℕ → ℕ
free width fixed = how_many (λ i. not (bit fixed i)) width

-- bit i is in a pattern of the condition; in a pattern of an open condition of the entry
unfoldable pub in_condition : ℕ → Condition → Bool
in_condition i k = bit k.matching.mask i or any_of (λ p. bit p.mask i) k.unmatching

unfoldable pub in_open : Cell → ℕ → Entry → Bool
in_open c i e = any_of (λ k. open_condition c k and in_condition i k) e.conditions

-- n entries by their numbers: `entry j` is entry number j, and `isOpen j` says whether it is open

-- in the opcode masks of how many open entries the unfixed bit i is; 0 if it is fixed
unfoldable pub votes_at : (ℕ → Entry) → (ℕ → Bool) → ℕ → ℕ → ℕ → ℕ
votes_at entry isOpen n fixed i = cond (bit fixed i) 0 (how_many (λ j. isOpen j and bit (entry j).opcode.mask i) n)

-- 1 if the unfixed bit i is in a pattern of an open condition of an open entry
unfoldable pub wanted_at : (ℕ → Entry) → (ℕ → Bool) → ℕ → Cell → ℕ → ℕ
wanted_at entry isOpen n c i = cond (bit c.fixed i) 0 (cond (exists (λ j. isOpen j and in_open c i (entry j)) n) 1 0)

-- "The bit is the unfixed one in the opcode masks of the most open entries, highest on a tie. If no such mask has an unfixed bit,
-- it is the highest unfixed bit in any pattern of an open condition of an open entry."
unfoldable pub tested_at : (ℕ → Entry) → (ℕ → Bool) → ℕ → ℕ → Cell → ℕ
tested_at entry isOpen n width c =
    let b = best (votes_at entry isOpen n c.fixed) width in
    let d = best (wanted_at entry isOpen n c) width in
    cond (eqb (votes_at entry isOpen n c.fixed b) 0) d b

-- ---- the steps

pub data Step : Type 0 where
  end : Choice → Step
  split : ℕ → Step

-- "1. A sure entry more specific than every other live one: a leaf naming it. 2. No live entry: a leaf naming nothing.
-- 3. No open entry: a conflict leaf. 4. Test a bit"
abbrev pub step_of : Choice → Bool → ℕ → Step
step_of (names e) o i = end (names e)
step_of nothing o i = end nothing
step_of ambiguous false i = end ambiguous
step_of ambiguous true i = split i

-- steps 1 and 2; all steps
unfoldable pub settled_at : (ℕ → Entry) → ℕ → Cell → Choice
settled_at entry n c = judge_at entry (λ j. sure c (entry j)) (λ j. live c (entry j)) n

unfoldable pub step_at : (ℕ → Entry) → ℕ → ℕ → Cell → Step
step_at entry n width c =
    step_of (settled_at entry n c) (exists (λ j. open_entry c (entry j)) n) (tested_at entry (λ j. open_entry c (entry j)) n width c)

-- of the entries of a table
unfoldable pub step : List Entry → ℕ → Cell → Step
step es width c = step_at (entry_number es) (length es) width c
