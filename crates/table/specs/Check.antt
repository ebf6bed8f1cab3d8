-- The faults of a table, numbers 1 to 4, in reading order ('Causes, numbers, places').
use Rattle.std.specs.Prelude.{ℕ, zero, suc, ◌+◌, ◌-◌, Bool, true, false, cond, List, eqb, leb, length}
use Rattle.std.specs.Int.Bits.{bit_and, bit_or}
use Rattle.words.specs.Tests.{◌and◌, ◌or◌}
use Rattle.words.specs.Words.{word, bits, includes}
use Rattle.words.specs.Outcome.{Outcome, result, faulty}
use Rattle.table.specs.Table.{Table, kind_of, count_of, width_of, size_of, fields_of, conditions_of, unmatching_of, field_low, field_width, field_bits, form_of, fraction_of, condition_end, has_cycles, opcode_place, cycles_place, fields_place, conditions_place, entry_end, table_of, own_bits}

-- nothing faulty, or the first fault: its number and its place
pub data Check : Type 0 where
  fine : Check
  fault : (number place : ℕ) → Check

infixr 40 ◌then◌
-- "the first faulty place, reading forward"
unfoldable pub ◌then◌ : Check → Check → Check
fine then b = b
fault n p then b = fault n p

-- the fault, unless the test holds
unfoldable pub need : Bool → ℕ → ℕ → Check
need true n p = fine
need false n p = fault n p

-- the n words from p on are there; else the "table ends early": 2 with the "table length"
abbrev pub has : List ℕ → ℕ → ℕ → Check
has ws p n = need (leb (p + n) (length ws)) 2 (length ws)

-- "Every mask of an entry lies in its own bits, and a value has no bit outside its mask": 3 with the "index of the mask";
-- "a mask only once its value is there"
unfoldable pub pattern_check : List ℕ → ℕ → ℕ → Check
pattern_check ws own p =
    has ws p 2
    then need (includes own (word ws p)) 3 p
    then need (includes (word ws p) (word ws (p + 1))) 3 p

-- an unmatching pattern: "bits not named are zero"
unfoldable pub unmatching_check : List ℕ → ℕ → ℕ → Check
unmatching_check ws own p =
    has ws p 1
    then need (eqb (kind_of (word ws p)) 5) 2 p
    then need (eqb (bits 27 0 (word ws p)) 0) 2 p
    then pattern_check ws own (p + 1)

-- the n unmatching patterns from p on
unfoldable pub unmatchings_check : List ℕ → ℕ → ℕ → ℕ → Check
unmatchings_check ws own zero p = fine
unmatchings_check ws own (suc n) p = unmatching_check ws own p then unmatchings_check ws own n (p + 3)

-- a condition: head word, matching pattern, unmatching patterns "(0–8)"
unfoldable pub condition_check : List ℕ → ℕ → ℕ → Check
condition_check ws own p =
    has ws p 1
    then need (eqb (kind_of (word ws p)) 4) 2 p
    then need (eqb (bits 27 4 (word ws p)) 0) 2 p
    then need (leb (unmatching_of (word ws p)) 8) 2 p
    then pattern_check ws own (p + 1)
    then unmatchings_check ws own (unmatching_of (word ws p)) (p + 3)

-- the n conditions from p on
unfoldable pub conditions_check : List ℕ → ℕ → ℕ → ℕ → Check
conditions_check ws own zero p = fine
conditions_check ws own (suc n) p = condition_check ws own p then conditions_check ws own n (condition_end ws p)

-- "bits 23–16 stay spare for all other forms" than 2 (document 02, No. 7)
unfoldable pub spare_clear : ℕ → Bool
spare_clear w = eqb (form_of w) 2 or eqb (fraction_of w) 0

-- "A form over 2, or fraction bits over 16 or over the field's width, gives 4"
unfoldable pub form_fits : ℕ → Bool
form_fits w = leb (form_of w) 2 and leb (fraction_of w) 16 and leb (fraction_of w) (field_width w)

-- "field of width 0, outside own bits, or overlapping mask or earlier field": 4 with the "index of the field";
-- `used` has the bits of the opcode mask and of the earlier fields
unfoldable pub field_rule : ℕ → ℕ → ℕ → ℕ → ℕ → Check
field_rule width size used w p =
    need (leb 1 (field_width w)) 4 p
    then need (leb (width - size) (field_low w)) 4 p
    then need (leb (field_low w + field_width w) width) 4 p
    then need (eqb (bit_and used (field_bits w)) 0) 4 p

-- a field's word by itself; "of two at one word the lower": its kind and spare bits, number 2, come before its form, number 4
unfoldable pub field_word : ℕ → ℕ → Check
field_word w p =
    need (eqb (kind_of w) 3) 2 p
    then need (spare_clear w) 2 p
    then need (form_fits w) 4 p

-- a field
unfoldable pub field_check : List ℕ → ℕ → ℕ → ℕ → ℕ → Check
field_check ws width size used p =
    has ws p 1
    then field_word (word ws p) p
    then field_rule width size used (word ws p) p

-- the n fields from p on of the entry at e; "own bits not covered", 4 with the index "of the entry", "is checked after the last field"
unfoldable pub fields_check : List ℕ → ℕ → ℕ → ℕ → ℕ → ℕ → ℕ → Check
fields_check ws e width size used zero p = need (eqb used (own_bits width size)) 4 e
fields_check ws e width size used (suc n) p =
    field_check ws width size used p
    then fields_check ws e width size (bit_or used (field_bits (word ws p))) n (p + 1)

-- the bits used before field j of those from p on
unfoldable pub used_before : List ℕ → ℕ → ℕ → ℕ → ℕ
used_before ws used zero p = used
used_before ws used (suc j) p = used_before ws (bit_or used (field_bits (word ws p))) j (p + 1)

-- the head word of an entry: length "1 to width", fields and conditions "(0–8)"
unfoldable pub head_check : List ℕ → ℕ → ℕ → Check
head_check ws width p =
    has ws p 1
    then need (eqb (kind_of (word ws p)) 2) 2 p
    then need (leb 1 (size_of (word ws p))) 2 p
    then need (leb (size_of (word ws p)) width) 2 p
    then need (leb (fields_of (word ws p)) 8) 2 p
    then need (leb (conditions_of (word ws p)) 8) 2 p

-- the cycles word of an entry, in a table that has them: "0 to 65,535, upper bits zero, else number 2"
unfoldable pub cycles_check : List ℕ → ℕ → Check
cycles_check ws p =
    cond (has_cycles ws)
    (has ws (cycles_place ws p) 1 then need (leb (word ws (cycles_place ws p)) 65535) 2 (cycles_place ws p))
    fine

-- an entry: head word, opcode pattern, cycles "after each entry's value word", fields, conditions
unfoldable pub entry_check : List ℕ → ℕ → ℕ → Check
entry_check ws width p =
    head_check ws width p
    then pattern_check ws (own_bits width (size_of (word ws p))) (opcode_place ws p)
    then cycles_check ws p
    then fields_check ws p width (size_of (word ws p)) (word ws (opcode_place ws p)) (fields_of (word ws p)) (fields_place ws p)
    then conditions_check ws (own_bits width (size_of (word ws p))) (conditions_of (word ws p)) (conditions_place ws p)

-- the n entries from p on; "Nothing follows the last entry": 2 with the index of the first word left over
unfoldable pub entries_check : List ℕ → ℕ → ℕ → ℕ → Check
entries_check ws width zero p = need (leb (length ws) p) 2 p
entries_check ws width (suc n) p = entry_check ws width p then entries_check ws width n (entry_end ws p)

-- "table empty, too long, or wrong first word": 1 with "place 0"; "at most 16,384" words, "kind 6 in place of kind 1", entries "(0–256)",
-- width "(1–32)"
unfoldable pub first_check : List ℕ → Check
first_check ws =
    need (leb 1 (length ws)) 1 0
    then need (leb (length ws) 16384) 1 0
    then need (eqb (kind_of (word ws 0)) 1 or eqb (kind_of (word ws 0)) 6) 1 0
    then need (eqb (bits 15 8 (word ws 0)) 0) 1 0
    then need (leb (count_of (word ws 0)) 256) 1 0
    then need (leb 1 (width_of (word ws 0))) 1 0
    then need (leb (width_of (word ws 0)) 32) 1 0

-- the first fault of a table
unfoldable pub table_check : List ℕ → Check
table_check ws = first_check ws then entries_check ws (width_of (word ws 0)) (count_of (word ws 0)) 1

-- a table's own faults: "Numbers 1–4"
abbrev pub table_fault : ℕ → Bool
table_fault n = cond (leb 1 n) (leb n 4) false

-- reading a table: its first fault, or the table
abbrev pub reading : Check → Table → Outcome Table
reading fine t = result t
reading (fault n p) t = faulty n p

abbrev pub read_table : List ℕ → Outcome Table
read_table ws = reading (table_check ws) (table_of ws)
