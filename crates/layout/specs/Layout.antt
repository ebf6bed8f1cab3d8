-- The words of a table, from what they say ('The pattern table').
use Rattle.std.specs.Prelude.{ℕ, ◌+◌, ◌*◌, ◌^◌, cond, List, [], ◌∷◌, ◌++◌, eqb, length}
use Rattle.table.specs.Table.{Pattern, Field, Condition, Entry}

-- the words of a list: each item's after those of the one before
unfoldable pub all_words : {A : Type 0} → (A → List ℕ) → List A → List ℕ
all_words f [] = []
all_words f (x ∷ xs) = f x ++ all_words f xs

-- "mask and value"
unfoldable pub pattern_words : Pattern → List ℕ
pattern_words p = p.mask ∷ p.value ∷ []

-- "Kind 3, field: bits 15–8 its lowest bit, bits 7–0 its width in bits"; "bits 27–24 for the form", "bits 23–16 for the fraction bits"
-- (document 02, No. 7)
unfoldable pub field_head : Field → ℕ
field_head f = 3 * 2 ^ 28 + f.form * 2 ^ 24 + f.fraction * 2 ^ 16 + f.low * 2 ^ 8 + f.width

abbrev pub fields_words : List Field → List ℕ
fields_words fs = all_words (λ f. field_head f ∷ []) fs

-- "Kind 5, unmatching pattern: mask and value follow"
unfoldable pub unmatched_words : Pattern → List ℕ
unmatched_words p = 5 * 2 ^ 28 ∷ pattern_words p

abbrev pub unmatching_words : List Pattern → List ℕ
unmatching_words ps = all_words unmatched_words ps

-- "Kind 4, exclusion condition: bits 3–0 number of unmatching patterns (0–8)"
unfoldable pub condition_head : Condition → ℕ
condition_head k = 4 * 2 ^ 28 + length k.unmatching

-- "mask and value of its matching pattern follow"; conditions, "each followed by its unmatching patterns"
unfoldable pub condition_words : Condition → List ℕ
condition_words k = condition_head k ∷ (pattern_words k.matching ++ unmatching_words k.unmatching)

abbrev pub conditions_words : List Condition → List ℕ
conditions_words ks = all_words condition_words ks

-- "Kind 2, entry: bits 27–16 label, bits 15–8 length in bits (1 to width), bits 7–4 fields (0–8), bits 3–0 conditions (0–8)."
unfoldable pub entry_head : Entry → ℕ
entry_head e = 2 * 2 ^ 28 + e.label * 2 ^ 16 + e.size * 2 ^ 8 + length e.fields * 2 ^ 4 + length e.conditions

-- "A table that begins with kind 6 in place of kind 1 has, after each entry's value word, a word with its cycles" (document 02, No. 3)
unfoldable pub cycles_words : ℕ → Entry → List ℕ
cycles_words kind e = cond (eqb kind 6) (e.cycles ∷ []) []

-- "Two plain words follow, mask and value"; "After an entry come its fields, then its conditions"
unfoldable pub entry_words : ℕ → Entry → List ℕ
entry_words kind e = entry_head e ∷ (pattern_words e.opcode ++ (cycles_words kind e ++ (fields_words e.fields ++ conditions_words e.conditions)))

abbrev pub entries_words : ℕ → List Entry → List ℕ
entries_words kind es = all_words (entry_words kind) es

-- "Kind 1, first word: bits 27–16 number of entries (0–256), bits 7–0 width in bits (1–32)."
unfoldable pub table_head : ℕ → ℕ → ℕ → ℕ
table_head kind width count = kind * 2 ^ 28 + count * 2 ^ 16 + width

-- "Nothing follows the last entry"
unfoldable pub table_words : ℕ → ℕ → List Entry → List ℕ
table_words kind width es = table_head kind width (length es) ∷ entries_words kind es

-- ---- how many they are

-- the sum of a number of each item
unfoldable pub total : {A : Type 0} → (A → ℕ) → List A → ℕ
total n [] = 0
total n (x ∷ xs) = n x + total n xs

unfoldable pub entry_size : ℕ → Entry → ℕ
entry_size kind e = 3 + cond (eqb kind 6) 1 0 + length e.fields + total (λ (k : Condition). 3 + 3 * length k.unmatching) e.conditions
