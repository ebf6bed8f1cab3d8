-- Tables that differ in cycles only (document 02, No. 3).
use Rattle.std.specs.Prelude.{ℕ, zero, suc, ◌+◌, ◌*◌, ◌^◌, ◌≤◌, ◌<◌, ◌≡◌, List, [], ◌∷◌, ◌++◌, map, length}
use Rattle.std.proofs.Math.Seq.{slice}
use Rattle.words.specs.Words.{word}
use Rattle.table.specs.Table.{Entry, Table, count_of, cycles_place, entry_place}

-- an entry without its cycles, as in a table of kind 1: "with cycles 0"
unfoldable pub uncosted : Entry → Entry
uncosted e = record { label = e.label; size = e.size; opcode = e.opcode; cycles = 0; fields = e.fields; conditions = e.conditions }

-- a table without cycles; two tables "differ in cycles only" where this is the same of both
unfoldable pub bare : Table → Table
bare t = record { width = t.width; entries = map uncosted t.entries }

-- ---- the same of words

-- the words of a kind 6 table, and others that differ in the cycles words only, each at most 65,535: as many, the same first word, and of each
-- entry the same words but for its cycles
pub record OtherCycles (ws vs : List ℕ) : Type 0 where
  pub as_many : length vs ≡ length ws
  pub first : word vs 0 ≡ word ws 0
  pub same : (k : ℕ) → k < count_of (word ws 0) → (i : ℕ) → entry_place ws k ≤ i → i < entry_place ws (suc k) → (i ≡ cycles_place ws (entry_place ws k) → ⊥)
      → word vs i ≡ word ws i
  pub cycles : (k : ℕ) → k < count_of (word ws 0) → word vs (cycles_place ws (entry_place ws k)) ≤ 65535

-- the twin of a kind 1 table: "kind 6 in place of kind 1", and "after each entry's value word, a word with its cycles"
unfoldable pub twin_from : (ℕ → ℕ) → List ℕ → ℕ → ℕ → List ℕ
twin_from cycles ws zero k = []
twin_from cycles ws (suc n) k =
    (slice (entry_place ws k) (entry_place ws k + 3) ws ++ (cycles k ∷ slice (entry_place ws k + 3) (entry_place ws (suc k)) ws)) ++ twin_from cycles ws n (suc k)

unfoldable pub twin : (ℕ → ℕ) → List ℕ → List ℕ
twin cycles ws = (word ws 0 + 5 * 2 ^ 28) ∷ twin_from cycles ws (count_of (word ws 0)) 0
