-- What the words of a table say, where none is faulty ('The pattern table').
use Rattle.std.specs.Prelude.{ℕ, zero, suc, ◌+◌, ◌-◌, ◌*◌, Bool, cond, List, [], ◌∷◌, eqb, get_or}
use Rattle.words.specs.Words.{word, bits, run}

-- "mask and value"
pub record Pattern : Type 0 where
  pub mask : ℕ
  pub value : ℕ

-- "its lowest bit", "its width in bits"; "the form", "the fraction bits" (document 02, No. 7)
pub record Field : Type 0 where
  pub low : ℕ
  pub width : ℕ
  pub form : ℕ
  pub fraction : ℕ

-- "its matching pattern", "unmatching patterns"
pub record Condition : Type 0 where
  pub matching : Pattern
  pub unmatching : List Pattern

-- `size` is the paper's length in bits
pub record Entry : Type 0 where
  pub label : ℕ
  pub size : ℕ
  pub opcode : Pattern
  pub cycles : ℕ
  pub fields : List Field
  pub conditions : List Condition

pub record Table : Type 0 where
  pub width : ℕ
  pub entries : List Entry

-- ---- head words

-- "Bits 31–28 of a head word are its kind"
abbrev pub kind_of : ℕ → ℕ
kind_of w = bits 31 28 w

-- "Kind 1, first word: bits 27–16 number of entries, bits 7–0 width in bits"
abbrev pub count_of : ℕ → ℕ
count_of w = bits 27 16 w

abbrev pub width_of : ℕ → ℕ
width_of w = bits 7 0 w

-- "Kind 2, entry: bits 27–16 label, bits 15–8 length in bits, bits 7–4 fields, bits 3–0 conditions"
abbrev pub label_of : ℕ → ℕ
label_of w = bits 27 16 w

abbrev pub size_of : ℕ → ℕ
size_of w = bits 15 8 w

abbrev pub fields_of : ℕ → ℕ
fields_of w = bits 7 4 w

abbrev pub conditions_of : ℕ → ℕ
conditions_of w = bits 3 0 w

-- "Kind 3, field: bits 15–8 its lowest bit, bits 7–0 its width in bits"
abbrev pub field_low : ℕ → ℕ
field_low w = bits 15 8 w

abbrev pub field_width : ℕ → ℕ
field_width w = bits 7 0 w

unfoldable pub field_bits : ℕ → ℕ
field_bits w = run (field_low w) (field_width w)

-- "Field words use bits 27–24 for the form: 0 plain, 1 two's complement, 2 fixed point, and for form 2 bits 23–16 for the fraction bits"
abbrev pub form_of : ℕ → ℕ
form_of w = bits 27 24 w

abbrev pub fraction_of : ℕ → ℕ
fraction_of w = bits 23 16 w

-- "Kind 4, exclusion condition: bits 3–0 number of unmatching patterns"
abbrev pub unmatching_of : ℕ → ℕ
unmatching_of w = bits 3 0 w

-- ---- what stands at a place

-- mask and value
abbrev pub pattern_at : List ℕ → ℕ → Pattern
pattern_at ws p = record { mask = word ws p; value = word ws (p + 1) }

abbrev pub field_at : List ℕ → ℕ → Field
field_at ws p = record { low = field_low (word ws p); width = field_width (word ws p); form = form_of (word ws p); fraction = fraction_of (word ws p) }

-- the n fields from p on
unfoldable pub fields_at : List ℕ → ℕ → ℕ → List Field
fields_at ws zero p = []
fields_at ws (suc n) p = field_at ws p ∷ fields_at ws n (p + 1)

-- the n unmatching patterns from p on: "Kind 5, unmatching pattern: mask and value follow"
unfoldable pub unmatching_at : List ℕ → ℕ → ℕ → List Pattern
unmatching_at ws zero p = []
unmatching_at ws (suc n) p = pattern_at ws (p + 1) ∷ unmatching_at ws n (p + 3)

-- "mask and value of its matching pattern follow"
abbrev pub condition_at : List ℕ → ℕ → Condition
condition_at ws p = record { matching = pattern_at ws (p + 1); unmatching = unmatching_at ws (unmatching_of (word ws p)) (p + 3) }

-- the place after a condition
abbrev pub condition_end : List ℕ → ℕ → ℕ
condition_end ws p = p + 3 + 3 * unmatching_of (word ws p)

-- the n conditions from p on, "each followed by its unmatching patterns"; the place after them
unfoldable pub conditions_at : List ℕ → ℕ → ℕ → List Condition
conditions_at ws zero p = []
conditions_at ws (suc n) p = condition_at ws p ∷ conditions_at ws n (condition_end ws p)

unfoldable pub conditions_end : List ℕ → ℕ → ℕ → ℕ
conditions_end ws zero p = p
conditions_end ws (suc n) p = conditions_end ws n (condition_end ws p)

-- "A table that begins with kind 6 in place of kind 1 has, after each entry's value word, a word with its cycles" (document 02, No. 3)
unfoldable pub has_cycles : List ℕ → Bool
has_cycles ws = eqb (kind_of (word ws 0)) 6

-- "Two plain words follow, mask and value": the places of an entry's opcode pattern, of its cycles where the table has them, of its
-- first field, its first condition, and the next entry
abbrev pub opcode_place : List ℕ → ℕ → ℕ
opcode_place ws p = p + 1

abbrev pub cycles_place : List ℕ → ℕ → ℕ
cycles_place ws p = p + 3

unfoldable pub fields_place : List ℕ → ℕ → ℕ
fields_place ws p = cond (has_cycles ws) (p + 4) (p + 3)

abbrev pub conditions_place : List ℕ → ℕ → ℕ
conditions_place ws p = fields_place ws p + fields_of (word ws p)

abbrev pub entry_end : List ℕ → ℕ → ℕ
entry_end ws p = conditions_end ws (conditions_of (word ws p)) (conditions_place ws p)

-- "Kind 1 tables are still read, with cycles 0"
unfoldable pub cycles_at : List ℕ → ℕ → ℕ
cycles_at ws p = cond (has_cycles ws) (word ws (cycles_place ws p)) 0

-- "After an entry come its fields, then its conditions"
abbrev pub entry_at : List ℕ → ℕ → Entry
entry_at ws p =
    record {
      label = label_of (word ws p);
      size = size_of (word ws p);
      opcode = pattern_at ws (opcode_place ws p);
      cycles = cycles_at ws p;
      fields = fields_at ws (fields_of (word ws p)) (fields_place ws p);
      conditions = conditions_at ws (conditions_of (word ws p)) (conditions_place ws p);
    }

-- the n entries from p on
unfoldable pub entries_at : List ℕ → ℕ → ℕ → List Entry
entries_at ws zero p = []
entries_at ws (suc n) p = entry_at ws p ∷ entries_at ws n (entry_end ws p)

-- "Entries are numbered from 0": the place of entry k
unfoldable pub entry_place : List ℕ → ℕ → ℕ
entry_place ws zero = 1
entry_place ws (suc k) = entry_end ws (entry_place ws k)

-- the table that the words say
abbrev pub table_of : List ℕ → Table
table_of ws = record { width = width_of (word ws 0); entries = entries_at ws (count_of (word ws 0)) 1 }

-- entry number i
abbrev pub entry_number : List Entry → ℕ → Entry
entry_number es i = get_or es i (record { label = 0; size = 0; opcode = record { mask = 0; value = 0 }; cycles = 0; fields = []; conditions = [] })

-- field number j of an entry's
abbrev pub field_number : List Field → ℕ → Field
field_number fs j = get_or fs j (record { low = 0; width = 0; form = 0; fraction = 0 })

-- "A short entry stands at the top of the word: its own bits are width−1 down to width−length"
abbrev pub own_bits : ℕ → ℕ → ℕ
own_bits width size = run (width - size) size
