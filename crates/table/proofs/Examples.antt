-- The definition of reading, computed on the example tables of document 01 and on the smallest table for each fault. Assumes nothing.
use mathlib.Core.Path.{◌≡◌, refl}
use mathlib.Core.List.{List, [], ◌∷◌, ◌++◌, map}
use Prim.Native.Nat.{ℕ, ◌<◌}
use native.Mathlib.Omega.{arith}
use lib.ListN.{length}
use borrow.Author.Tests.{le-leb, lt-leb}
use Rattle.words.specs.Tests.{◌and◌, ◌or◌}
use Rattle.words.specs.Words.{part, run, includes}
use Rattle.words.specs.Outcome.{Outcome, result, faulty}
use Rattle.table.specs.Table.{Pattern, Field, Condition, Entry, Table, field_bits, fields_at, unmatching_at, conditions_at, conditions_end, has_cycles, fields_place, cycles_at, entries_at}
use Rattle.table.specs.Check.{◌then◌, need, pattern_check, unmatching_check, unmatchings_check, condition_check, conditions_check, spare_clear, form_fits, field_word, field_rule, field_check, fields_check, head_check, cycles_check, entry_check, entries_check, first_check, table_check, read_table}
use Rattle.table.specs.Answer.{shape_of}
use Rattle.table.specs.Worked.{printed, costed, worked}
use Rattle.table.proofs.Laws.{checks}

-- what reading a table says, with every definition open
unfoldable pub opened : List ℕ → Outcome Table
unfolding part run includes field_bits fields_at unmatching_at conditions_at conditions_end has_cycles fields_place cycles_at entries_at ◌and◌ ◌or◌ ◌then◌ need pattern_check unmatching_check unmatchings_check condition_check conditions_check spare_clear form_fits field_word field_rule field_check fields_check head_check cycles_check entry_check entries_check first_check table_check
opened ws = read_table ws

abbrev pattern : ℕ → ℕ → Pattern
pattern m v = record { mask = m; value = v }

-- a plain field
abbrev field : ℕ → ℕ → Field
field l w = record { low = l; width = w; form = 0; fraction = 0 }

-- ---- the tables of document 01

printed_reads :
    read_table printed
    ≡ result (record { width = 2; entries = record { label = 5; size = 2; opcode = pattern 2 2; cycles = 0; fields = field 0 1 ∷ []; conditions = [] } ∷ [] })
unfolding opened
printed_reads = refl

-- with cycles
costed_reads :
    read_table costed
    ≡ result (record { width = 2; entries = record { label = 5; size = 2; opcode = pattern 2 2; cycles = 77; fields = field 0 1 ∷ []; conditions = [] } ∷ [] })
unfolding opened
costed_reads = refl

-- with a field of fixed point, whose one bit is a fraction bit
formed_reads :
    read_table (0x10010002 ∷ 0x20050210 ∷ 2 ∷ 2 ∷ 0x32010001 ∷ [])
    ≡ result (record {
      width = 2;
      entries = record { label = 5; size = 2; opcode = pattern 2 2; cycles = 0; fields = record { low = 0; width = 1; form = 2; fraction = 1 } ∷ []; conditions = [] } ∷ [];
    })
unfolding opened
formed_reads = refl

-- an entry of the worked table
abbrev entry : ℕ → Pattern → List Field → List Condition → Entry
entry l p fs ks = record { label = l; size = 8; opcode = p; cycles = 0; fields = fs; conditions = ks }

abbrev a : Field
a = field 4 2

abbrev b : Field
b = field 2 2

abbrev c : Field
c = field 0 2

abbrev f : Field
f = field 6 1

-- a = 11 excludes
abbrev taken : Condition
taken = record { matching = pattern 0x30 0x30; unmatching = [] }

worked_reads :
    read_table worked
    ≡ result (record {
      width = 8;
      entries =
          entry 0x41 (pattern 0xc0 0x00) (a ∷ b ∷ c ∷ []) (record { matching = pattern 0x30 0x00; unmatching = pattern 0x03 0x00 ∷ pattern 0x03 0x03 ∷ [] } ∷ taken ∷ [])
          ∷ entry 0x42 (pattern 0xc0 0x40) (a ∷ b ∷ c ∷ []) (taken ∷ [])
          ∷ entry 0x43 (pattern 0xc3 0x80) (a ∷ b ∷ []) []
          ∷ entry 0x44 (pattern 0xc3 0x81) (a ∷ b ∷ []) []
          ∷ entry 0x45 (pattern 0xf3 0x01) (b ∷ []) []
          ∷ entry 0x46 (pattern 0xf3 0x02) (b ∷ []) []
          ∷ entry 0x47 (pattern 0xb0 0x30) (f ∷ b ∷ c ∷ []) []
          ∷ [];
    })
unfolding opened
worked_reads = refl

-- ---- the smallest table for each fault: all are refused, with these numbers and places

abbrev refusals : List (List ℕ) → List (Outcome Table)
refusals tables = map read_table tables

-- number 1: empty; kind 2; a spare bit; 257 entries; width 0 and 33
first_words_lem :
    refusals ([] ∷ (0x20000008 ∷ []) ∷ (0x10000108 ∷ []) ∷ (0x11010008 ∷ []) ∷ (0x10000000 ∷ []) ∷ (0x10000021 ∷ []) ∷ [])
    ≡ faulty 1 0 ∷ faulty 1 0 ∷ faulty 1 0 ∷ faulty 1 0 ∷ faulty 1 0 ∷ faulty 1 0 ∷ []
unfolding opened
first_words_lem = refl

-- a table of no entries is good, and so is an empty mask
bare : map shape_of (refusals ((0x10000020 ∷ []) ∷ (0x10010002 ∷ 0x20000210 ∷ 0 ∷ 0 ∷ 0x30000002 ∷ []) ∷ []))
    ≡ result (record { width = 32; entries = 0 }) ∷ result (record { width = 2; entries = 1 }) ∷ []
unfolding opened
bare = refl

-- an entry of width 2 with a field and a condition with an unmatching pattern: eleven words, good
abbrev whole : List ℕ
whole = 0x10010002 ∷ 0x20000211 ∷ 2 ∷ 2 ∷ 0x30000001 ∷ 0x40000001 ∷ 2 ∷ 2 ∷ 0x50000000 ∷ 1 ∷ 1 ∷ []

whole_good : shape_of (read_table whole) ≡ result (record { width = 2; entries = 1 })
unfolding opened
whole_good = refl

-- ends early: cut before each of its words but the first, 2 with the length
cut :
    refusals (
    (0x10010002 ∷ [])
    ∷ (0x10010002 ∷ 0x20000211 ∷ [])
    ∷ (0x10010002 ∷ 0x20000211 ∷ 2 ∷ [])
    ∷ (0x10010002 ∷ 0x20000211 ∷ 2 ∷ 2 ∷ [])
    ∷ (0x10010002 ∷ 0x20000211 ∷ 2 ∷ 2 ∷ 0x30000001 ∷ [])
    ∷ (0x10010002 ∷ 0x20000211 ∷ 2 ∷ 2 ∷ 0x30000001 ∷ 0x40000001 ∷ [])
    ∷ (0x10010002 ∷ 0x20000211 ∷ 2 ∷ 2 ∷ 0x30000001 ∷ 0x40000001 ∷ 2 ∷ [])
    ∷ (0x10010002 ∷ 0x20000211 ∷ 2 ∷ 2 ∷ 0x30000001 ∷ 0x40000001 ∷ 2 ∷ 2 ∷ [])
    ∷ (0x10010002 ∷ 0x20000211 ∷ 2 ∷ 2 ∷ 0x30000001 ∷ 0x40000001 ∷ 2 ∷ 2 ∷ 0x50000000 ∷ [])
    ∷ (0x10010002 ∷ 0x20000211 ∷ 2 ∷ 2 ∷ 0x30000001 ∷ 0x40000001 ∷ 2 ∷ 2 ∷ 0x50000000 ∷ 1 ∷ [])
    ∷ []
    )
    ≡ faulty 2 1 ∷ faulty 2 2 ∷ faulty 2 3 ∷ faulty 2 4 ∷ faulty 2 5 ∷ faulty 2 6 ∷ faulty 2 7 ∷ faulty 2 8 ∷ faulty 2 9 ∷ faulty 2 10 ∷ []
unfolding opened
cut = refl

-- number 2 at an entry's head: kind 3; length 0; length over the width; 9 fields; 9 conditions
heads :
    refusals ((0x10010002 ∷ 0x30000211 ∷ []) ∷ (0x10010002 ∷ 0x20000011 ∷ []) ∷ (0x10010002 ∷ 0x20000311 ∷ []) ∷ (0x10010002 ∷ 0x20000290 ∷ []) ∷ (0x10010002 ∷ 0x20000209 ∷ []) ∷ [])
    ≡ faulty 2 1 ∷ faulty 2 1 ∷ faulty 2 1 ∷ faulty 2 1 ∷ faulty 2 1 ∷ []
unfolding opened
heads = refl

-- number 2 at the head of a field, a condition, an unmatching pattern: kind, spare bit; 9 unmatching patterns; a word left over
parts :
    refusals (
    (0x10010002 ∷ 0x20000211 ∷ 2 ∷ 2 ∷ 0x40000001 ∷ [])
    ∷ (0x10010002 ∷ 0x20000211 ∷ 2 ∷ 2 ∷ 0x30010001 ∷ [])
    ∷ (0x10010002 ∷ 0x20000211 ∷ 2 ∷ 2 ∷ 0x30000001 ∷ 0x50000001 ∷ [])
    ∷ (0x10010002 ∷ 0x20000211 ∷ 2 ∷ 2 ∷ 0x30000001 ∷ 0x40000011 ∷ [])
    ∷ (0x10010002 ∷ 0x20000211 ∷ 2 ∷ 2 ∷ 0x30000001 ∷ 0x40000009 ∷ [])
    ∷ (0x10010002 ∷ 0x20000211 ∷ 2 ∷ 2 ∷ 0x30000001 ∷ 0x40000001 ∷ 2 ∷ 2 ∷ 0x60000000 ∷ [])
    ∷ (0x10010002 ∷ 0x20000211 ∷ 2 ∷ 2 ∷ 0x30000001 ∷ 0x40000001 ∷ 2 ∷ 2 ∷ 0x50000001 ∷ [])
    ∷ (whole ++ (0 ∷ []))
    ∷ []
    )
    ≡ faulty 2 4 ∷ faulty 2 4 ∷ faulty 2 5 ∷ faulty 2 5 ∷ faulty 2 5 ∷ faulty 2 8 ∷ faulty 2 8 ∷ faulty 2 11 ∷ []
unfolding opened
parts = refl

-- number 3, at the mask: a mask outside the own bits (length 1 of width 2), a value outside the mask; of an opcode, a matching, an unmatching pattern
patterns :
    refusals (
    (0x10010002 ∷ 0x20000110 ∷ 1 ∷ 0 ∷ [])
    ∷ (0x10010002 ∷ 0x20000211 ∷ 2 ∷ 1 ∷ [])
    ∷ (0x10010002 ∷ 0x20000211 ∷ 2 ∷ 2 ∷ 0x30000001 ∷ 0x40000001 ∷ 4 ∷ 0 ∷ [])
    ∷ (0x10010002 ∷ 0x20000211 ∷ 2 ∷ 2 ∷ 0x30000001 ∷ 0x40000001 ∷ 2 ∷ 3 ∷ [])
    ∷ (0x10010002 ∷ 0x20000211 ∷ 2 ∷ 2 ∷ 0x30000001 ∷ 0x40000001 ∷ 2 ∷ 2 ∷ 0x50000000 ∷ 4 ∷ 0 ∷ [])
    ∷ (0x10010002 ∷ 0x20000211 ∷ 2 ∷ 2 ∷ 0x30000001 ∷ 0x40000001 ∷ 2 ∷ 2 ∷ 0x50000000 ∷ 1 ∷ 2 ∷ [])
    ∷ []
    )
    ≡ faulty 3 2 ∷ faulty 3 2 ∷ faulty 3 6 ∷ faulty 3 6 ∷ faulty 3 9 ∷ faulty 3 9 ∷ []
unfolding opened
patterns = refl

-- number 4, at the field: width 0; below and above the own bits; over the mask; over an earlier field. At the entry: not covered, with and without fields
fields :
    refusals (
    (0x10010003 ∷ 0x20000210 ∷ 4 ∷ 0 ∷ 0x30000100 ∷ [])
    ∷ (0x10010003 ∷ 0x20000210 ∷ 4 ∷ 0 ∷ 0x30000001 ∷ [])
    ∷ (0x10010003 ∷ 0x20000210 ∷ 4 ∷ 0 ∷ 0x30000103 ∷ [])
    ∷ (0x10010003 ∷ 0x20000210 ∷ 4 ∷ 0 ∷ 0x30000102 ∷ [])
    ∷ (0x10010003 ∷ 0x20000320 ∷ 4 ∷ 0 ∷ 0x30000002 ∷ 0x30000101 ∷ [])
    ∷ (0x10010003 ∷ 0x20000310 ∷ 4 ∷ 0 ∷ 0x30000001 ∷ [])
    ∷ (0x10010003 ∷ 0x20000300 ∷ 6 ∷ 0 ∷ [])
    ∷ []
    )
    ≡ faulty 4 4 ∷ faulty 4 4 ∷ faulty 4 4 ∷ faulty 4 4 ∷ faulty 4 5 ∷ faulty 4 1 ∷ faulty 4 1 ∷ []
unfolding opened
fields = refl

-- forms. Good: two's complement; fixed point without fraction bits, and with 16. Number 2: a spare bit of form 1, and of form 3, which is 4 too.
-- Number 4: forms 3 and 15; more fraction bits than the width; 17 of them
forms :
    map shape_of (
    refusals (
    (0x10010002 ∷ 0x20000210 ∷ 2 ∷ 2 ∷ 0x31000001 ∷ [])
    ∷ (0x10010002 ∷ 0x20000210 ∷ 2 ∷ 2 ∷ 0x32000001 ∷ [])
    ∷ (0x10010020 ∷ 0x20002010 ∷ 0x80000000 ∷ 0 ∷ 0x3210001f ∷ [])
    ∷ (0x10010002 ∷ 0x20000210 ∷ 2 ∷ 2 ∷ 0x31010001 ∷ [])
    ∷ (0x10010002 ∷ 0x20000210 ∷ 2 ∷ 2 ∷ 0x33010001 ∷ [])
    ∷ (0x10010002 ∷ 0x20000210 ∷ 2 ∷ 2 ∷ 0x33000001 ∷ [])
    ∷ (0x10010002 ∷ 0x20000210 ∷ 2 ∷ 2 ∷ 0x3f000001 ∷ [])
    ∷ (0x10010002 ∷ 0x20000210 ∷ 2 ∷ 2 ∷ 0x32020001 ∷ [])
    ∷ (0x10010020 ∷ 0x20002010 ∷ 0x80000000 ∷ 0 ∷ 0x3211001f ∷ [])
    ∷ []
    )
    )
    ≡ result (record { width = 2; entries = 1 }) ∷ result (record { width = 2; entries = 1 }) ∷ result (record { width = 32; entries = 1 })
    ∷ faulty 2 4 ∷ faulty 2 4 ∷ faulty 4 4 ∷ faulty 4 4 ∷ faulty 4 4 ∷ faulty 4 4 ∷ []
unfolding opened
forms = refl

-- kind 6. Good: no entries; cycles 0 and 65,535. Number 2: cycles of 17 bits, and of 32, at their word; none, with the length, of an entry
-- with a field and of one without
cycles :
    map shape_of (
    refusals (
    (0x60000002 ∷ [])
    ∷ (0x60010001 ∷ 0x20000100 ∷ 1 ∷ 1 ∷ 0 ∷ [])
    ∷ (0x60010001 ∷ 0x20000100 ∷ 1 ∷ 1 ∷ 0xffff ∷ [])
    ∷ (0x60010001 ∷ 0x20000100 ∷ 1 ∷ 1 ∷ 0x10000 ∷ [])
    ∷ (0x60010001 ∷ 0x20000100 ∷ 1 ∷ 1 ∷ 0xffffffff ∷ [])
    ∷ (0x60010002 ∷ 0x20000210 ∷ 2 ∷ 2 ∷ [])
    ∷ (0x60010001 ∷ 0x20000100 ∷ 1 ∷ 1 ∷ [])
    ∷ []
    )
    )
    ≡ result (record { width = 2; entries = 0 }) ∷ result (record { width = 1; entries = 1 }) ∷ result (record { width = 1; entries = 1 })
    ∷ faulty 2 4 ∷ faulty 2 4 ∷ faulty 2 4 ∷ faulty 2 4 ∷ []
unfolding opened
cycles = refl

-- kind 6, two faults: a value outside its mask comes before the cycles; they come before the field, and before the cover of no fields
cycles_first :
    refusals ((0x60010002 ∷ 0x20000210 ∷ 2 ∷ 1 ∷ 0x10000 ∷ []) ∷ (0x60010002 ∷ 0x20000210 ∷ 2 ∷ 2 ∷ 0x10000 ∷ 0x30000002 ∷ []) ∷ (0x60010002 ∷ 0x20000200 ∷ 2 ∷ 2 ∷ 0x10000 ∷ []) ∷ [])
    ≡ faulty 3 2 ∷ faulty 2 4 ∷ faulty 2 4 ∷ []
unfolding opened
cycles_first = refl

-- two faults: the first in reading order. A spare bit of a field whose bits are wrong too is 2; a last field's own fault comes before the cover;
-- a bad mask whose value is missing is 2 with the length
firsts :
    refusals (
    (0x10010003 ∷ 0x20000210 ∷ 4 ∷ 0 ∷ 0x30010100 ∷ [])
    ∷ (0x10010003 ∷ 0x20000320 ∷ 4 ∷ 0 ∷ 0x30000001 ∷ 0x30000001 ∷ [])
    ∷ (0x10010002 ∷ 0x20000110 ∷ 1 ∷ [])
    ∷ []
    )
    ≡ faulty 2 4 ∷ faulty 4 5 ∷ faulty 2 3 ∷ []
unfolding opened
firsts = refl

-- a table of more than 16,384 words is 1, whatever they are
too_long : (ws : List ℕ) → 16384 < length ws → read_table ws ≡ faulty 1 0
unfolding table_check first_check
too_long ws h = let l = le-leb 1 (length ws) (omega arith) in simp (l, lt-leb _ _ h, checks)
