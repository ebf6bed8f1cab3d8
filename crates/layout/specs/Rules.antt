-- A lawful table, rule by rule and bit by bit ('The pattern table'; 'Causes, numbers, places'; document 02, No. 3 and 7).
use Rattle.std.specs.Prelude.{ℕ, ◌+◌, ◌-◌, ◌^◌, ◌≤◌, ◌<◌, ◌≡◌, true, false, List, [], ◌⊎◌, length, get_or}
use Rattle.words.specs.Words.{bit}
use Rattle.table.specs.Table.{Pattern, Field, Condition, Entry, entry_number, field_number}
use Rattle.layout.specs.Layout.{table_words}

-- by their numbers
abbrev pub no_pattern : Pattern
no_pattern = record { mask = 0; value = 0 }

abbrev pub pattern_number : List Pattern → ℕ → Pattern
pattern_number ps j = get_or ps j no_pattern

abbrev pub no_condition : Condition
no_condition = record { matching = no_pattern; unmatching = [] }

abbrev pub condition_number : List Condition → ℕ → Condition
condition_number ks j = get_or ks j no_condition

-- "A short entry stands at the top of the word: its own bits are width−1 down to width−length"
abbrev pub OwnBit : ℕ → ℕ → ℕ → Type 0
OwnBit width size i = (width - size ≤ i) × (i < width)

-- "its lowest bit", "its width in bits"
abbrev pub InField : Field → ℕ → Type 0
InField f i = (f.low ≤ i) × (i < f.low + f.width)

pub record PatternRule (width size : ℕ) (p : Pattern) : Type 0 where
  -- "Every mask of an entry lies in its own bits,
  pub mask : (i : ℕ) → bit p.mask i ≡ true → OwnBit width size i
  -- and a value has no bit outside its mask."
  pub value : (i : ℕ) → bit p.value i ≡ true → bit p.mask i ≡ true

pub record FieldRule (width size : ℕ) (f : Field) : Type 0 where
  -- not "of width 0", not "outside own bits"
  pub some : 1 ≤ f.width
  pub inside : (i : ℕ) → InField f i → OwnBit width size i
  -- "bits 23–16 stay spare for all other forms" than 2
  pub spare : (f.form ≡ 2 → ⊥) → f.fraction ≡ 0
  -- not "A form over 2, or fraction bits over 16 or over the field's width"
  pub form : f.form ≤ 2
  pub fraction : f.fraction ≤ 16
  pub within : f.fraction ≤ f.width

-- "Opcode mask and fields together cover each own bit once": each is in the mask or in a field, not in both, and in no second field
pub record CoverRule (width size mask : ℕ) (fs : List Field) : Type 0 where
  pub covered : (i : ℕ) → OwnBit width size i → (bit mask i ≡ true) ⊎ ((j : ℕ) × (j < length fs) × InField (field_number fs j) i)
  pub off_mask : (i j : ℕ) → j < length fs → InField (field_number fs j) i → bit mask i ≡ false
  pub once : (i j k : ℕ) → j < length fs → k < length fs → InField (field_number fs j) i → InField (field_number fs k) i → j ≡ k

-- "number of unmatching patterns (0–8)"
pub record ConditionRule (width size : ℕ) (k : Condition) : Type 0 where
  pub few : length k.unmatching ≤ 8
  pub matching : PatternRule width size k.matching
  pub unmatching : (j : ℕ) → j < length k.unmatching → PatternRule width size (pattern_number k.unmatching j)

pub record EntryRule (kind width : ℕ) (e : Entry) : Type 0 where
  -- "bits 27–16 label, bits 15–8 length in bits (1 to width), bits 7–4 fields (0–8), bits 3–0 conditions (0–8)"; "labels may repeat"
  pub label : e.label < 2 ^ 12
  pub some : 1 ≤ e.size
  pub most : e.size ≤ width
  pub few_fields : length e.fields ≤ 8
  pub few_conditions : length e.conditions ≤ 8
  pub opcode : PatternRule width e.size e.opcode
  -- "a word with its cycles, 0 to 65,535"; "Kind 1 tables are still read, with cycles 0."
  pub cycles_six : kind ≡ 6 → e.cycles ≤ 65535
  pub cycles_one : kind ≡ 1 → e.cycles ≡ 0
  pub fields : (j : ℕ) → j < length e.fields → FieldRule width e.size (field_number e.fields j)
  pub cover : CoverRule width e.size e.opcode.mask e.fields
  pub conditions : (j : ℕ) → j < length e.conditions → ConditionRule width e.size (condition_number e.conditions j)

pub record TableRule (kind width : ℕ) (es : List Entry) : Type 0 where
  -- "kind 6 in place of kind 1", "number of entries (0–256)", "width in bits (1–32)", "at most 16,384" words
  pub kinds : (kind ≡ 1) ⊎ (kind ≡ 6)
  pub some : 1 ≤ width
  pub most : width ≤ 32
  pub few : length es ≤ 256
  pub short : length (table_words kind width es) ≤ 16384
  pub each : (k : ℕ) → k < length es → EntryRule kind width (entry_number es k)
