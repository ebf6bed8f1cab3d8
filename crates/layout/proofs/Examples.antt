-- The example tables of document 01: their words from what they say, and what these words say, computed. Assumes nothing.
use mathlib.Core.Path.{◌≡◌, refl}
use mathlib.Core.List.{List, [], ◌∷◌, ◌++◌}
use lib.ListN.{take, drop}
use Prim.Native.Nat.{ℕ}
use Rattle.words.specs.Outcome.{result}
use Rattle.table.specs.Table.{Entry, table_of}
use Rattle.table.specs.Check.{read_table}
use Rattle.table.specs.Worked.{printed, costed, worked}
use Rattle.table.proofs.Examples.{opened}
use Rattle.layout.specs.Layout.{all_words, pattern_words, field_head, unmatched_words, condition_head, condition_words, entry_head, cycles_words, entry_words, table_head, table_words, total, entry_size}

-- the words of a table, with every definition open
unfoldable laid : ℕ → ℕ → List Entry → List ℕ
unfolding opened all_words pattern_words field_head unmatched_words condition_head condition_words entry_head cycles_words entry_words table_head table_words
laid kind width es = table_words kind width es

-- ---- the table that is printed, and the same with 77 cycles

abbrev entry : ℕ → Entry
entry n =
    record {
      label = 5;
      size = 2;
      opcode = record { mask = 2; value = 2 };
      cycles = n;
      fields = record { low = 0; width = 1; form = 0; fraction = 0 } ∷ [];
      conditions = [];
    }

printed_words : table_words 1 2 (entry 0 ∷ []) ≡ printed
unfolding laid
printed_words = refl

printed_reads : read_table (table_words 1 2 (entry 0 ∷ [])) ≡ result (record { width = 2; entries = entry 0 ∷ [] })
unfolding laid
printed_reads = refl

costed_words : table_words 6 2 (entry 77 ∷ []) ≡ costed
unfolding laid
costed_words = refl

costed_reads : read_table (table_words 6 2 (entry 77 ∷ [])) ≡ result (record { width = 2; entries = entry 77 ∷ [] })
unfolding laid
costed_reads = refl

-- a kind 1 list as kind 6, and as kind 1 a list with cycles, which does not say them
with_zero : table_words 6 2 (entry 0 ∷ []) ≡ 0x60010002 ∷ 0x20050210 ∷ 2 ∷ 2 ∷ 0 ∷ 0x30000001 ∷ []
unfolding laid
with_zero = refl

cycles_lost : read_table (table_words 1 2 (entry 77 ∷ [])) ≡ result (record { width = 2; entries = entry 0 ∷ [] })
unfolding laid
cycles_lost = refl

-- a field of fixed point
formed_words : table_words 1 2 (record {
  label = 5;
  size = 2;
  opcode = record { mask = 2; value = 2 };
  cycles = 0;
  fields = record { low = 0; width = 1; form = 2; fraction = 1 } ∷ [];
  conditions = [];
} ∷ [])
    ≡ 0x10010002 ∷ 0x20050210 ∷ 2 ∷ 2 ∷ 0x32010001 ∷ []
unfolding laid
formed_words = refl

-- ---- the worked table

worked_words : table_words 1 8 (table_of worked).entries ≡ worked
unfolding laid
worked_words = refl

worked_reads : read_table (table_words 1 8 (table_of worked).entries) ≡ result (table_of worked)
unfolding laid
worked_reads = refl

-- how many words its entries take: 6 and 12, 6 and 3, 5, 5, 4, 4 and 6
worked_size : total (entry_size 1) (table_of worked).entries ≡ 51
unfolding laid total entry_size
worked_size = refl

-- without B: the words but B's
abbrev but_b : List Entry
but_b = take 1 (table_of worked).entries ++ drop 2 (table_of worked).entries

without_b : table_words 1 8 but_b ≡ 0x10060008 ∷ (drop 1 (take 19 worked) ++ drop 28 worked)
unfolding laid
without_b = refl

without_reads : read_table (table_words 1 8 but_b) ≡ result (record { width = 8; entries = but_b })
unfolding laid
without_reads = refl
