-- Demand 2, over the definitions that the calls' contracts cite. Assumes nothing.
--   `selection::lookup` answers `look_of (read_table ws) w`; `operands::decode` answers `decode_of (read_table ws) w room`, for a buffer of `room` words,
--   and leaves `buffer_after` of it; `operands::encode` answers `encode_of (read_table ws) e vs`: for every list of words ws and every w, room, e and vs.
use mathlib.Core.Path.{◌≡◌, refl}
use mathlib.Core.Logic.{◌↔◌}
use mathlib.Core.List.{List, ◌++◌}
use mathlib.Core.Option.{none, some}
use Prim.Native.Nat.{ℕ, ◌-◌, ◌%◌, ◌^◌, ◌≤◌, ◌<◌}
use lib.ListN.{length, drop}
use Rattle.words.specs.Outcome.{Outcome, result, faulty, refused}
use Rattle.words.proofs.Outcomes.{faults_passed}
use Rattle.table.specs.Table.{Entry, Table, entry_number, table_of}
use Rattle.table.specs.Check.{fine, table_check, read_table}
use Rattle.selection.specs.Lookup.{look_of}
use Rattle.selection.proofs.Formula.{Selects, Contested, Unclaimed}
use Rattle.operands.specs.Calls.{Decoded, entry_values, none_selected, decode_of, buffer_after, encode_of}
use Rattle.operands.proofs.Looking.{look_own, looks_wide, looks_entry, looks_nothing, looks_ambiguous}
use Rattle.operands.proofs.Inverse.{table_good, looked_up_lem, decode_reads, encode_reads, decode_encode, encode_decode}
use Rattle.operands.proofs.Held.{Values, Holds, Asked, FirstMisfit}
use Rattle.operands.proofs.Exactly.{decode_own, encode_own, ten, seven, six, no_entry, an_entry, eleven, twelve, thirteen, the_word}

-- ---- "Numbers 1–4 come from the first faulty place .. Then: .. lookup 7, 6; decoding 10, 7, 6; encoding 11, 12, 13": a table's fault exactly
-- where reading has it
module _ (ws : List ℕ) (n p : ℕ) where
  pub lookup_faulty : (w : ℕ) → (look_of (read_table ws) w ≡ faulty n p) ↔ (read_table ws ≡ faulty n p)
  unfolding look_of
  lookup_faulty w = faults_passed (λ (o : Outcome Table). look_of o w) (λ a b. refl) (λ a b x. refl) (look_own w) (read_table ws) n p

  pub decode_faulty : (w room : ℕ) → (decode_of (read_table ws) w room ≡ faulty n p) ↔ (read_table ws ≡ faulty n p)
  unfolding decode_of
  decode_faulty w room = faults_passed (λ (o : Outcome Table). decode_of o w room) (λ a b. refl) (λ a b x. refl) (λ t. decode_own t w room) (read_table ws) n p

  pub encode_faulty : (e : ℕ) (vs : List ℕ) → (encode_of (read_table ws) e vs ≡ faulty n p) ↔ (read_table ws ≡ faulty n p)
  unfolding encode_of
  encode_faulty e vs = faults_passed (λ (o : Outcome Table). encode_of o e vs) (λ a b. refl) (λ a b x. refl) (λ t. encode_own t e vs) (read_table ws) n p

-- ---- lookup, of a table that reads: "lookup 7, 6"; each answer exactly when, so that there is no other

-- 7 exactly when the "word has a bit at or above the width"
pub lookup_wide : (ws : List ℕ) → table_check ws ≡ fine → (w : ℕ) → (look_of (read_table ws) w ≡ refused 7 0 0) ↔ (2 ^ (table_of ws).width ≤ w)
lookup_wide = looks_wide

-- else, of a word of the width:
module _ (ws : List ℕ) (reads : table_check ws ≡ fine) (w : ℕ) (of_width : w < 2 ^ (table_of ws).width) where
  abbrev entries : List Entry
  entries = (table_of ws).entries

  -- "Looking a word up selects the entry that the published matching and exclusion formula, with the most-specific rule, names.":
  -- an entry exactly when it claims the word and is more specific than every other entry that claims it,
  pub lookup_entry : (e : ℕ) → (look_of (read_table ws) w ≡ result (some e)) ↔ Selects entries w e
  lookup_entry e = looks_entry ws reads w of_width e

  -- nothing exactly when no entry claims it,
  pub lookup_nothing : (look_of (read_table ws) w ≡ result none) ↔ Unclaimed entries w
  lookup_nothing = looks_nothing ws reads w of_width

  -- and number 6 with the word exactly when some entry claims it and none is selected
  pub lookup_ambiguous : (look_of (read_table ws) w ≡ refused 6 0 w) ↔ Contested entries w
  lookup_ambiguous = looks_ambiguous ws reads w of_width

-- ---- decoding, of a table that reads: "decoding 10, 7, 6"; each answer exactly when, so that there is no other
module _ (ws : List ℕ) (reads : table_check ws ≡ fine) (w room : ℕ) where
  -- 10 exactly when the "field buffer" is "under 8 words"
  pub decode_room : (decode_of (read_table ws) w room ≡ refused 10 0 0) ↔ (room < 8)
  decode_room = rw reads (ten (table_of ws) w room)

  -- else 7 exactly when the "word has a bit at or above the width"
  pub decode_wide : (decode_of (read_table ws) w room ≡ refused 7 0 0) ↔ ((8 ≤ room) × (2 ^ (table_of ws).width ≤ w))
  decode_wide = rw reads (seven (table_of ws) w room)

  -- else 6 with the word exactly when it is ambiguous
  pub decode_ambiguous : (decode_of (read_table ws) w room ≡ refused 6 0 w)
      ↔ ((8 ≤ room) × (w < 2 ^ (table_of ws).width) × Contested (table_of ws).entries w)
  decode_ambiguous = rw reads (six (table_of ws) w room)

  -- else an entry with values exactly when it is the selected one and the values are the word's bits in its fields
  pub decode_entry : (e : ℕ) (vs : List ℕ) → (decode_of (read_table ws) w room ≡ result (entry_values e vs))
      ↔ ((8 ≤ room) × (w < 2 ^ (table_of ws).width) × Selects (table_of ws).entries w e × Values (entry_number (table_of ws).entries e).fields w vs)
  decode_entry e vs = rw reads (an_entry (table_of ws) w room e vs)

  -- and nothing exactly when no entry claims the word
  pub decode_nothing : (decode_of (read_table ws) w room ≡ result none_selected)
      ↔ ((8 ≤ room) × (w < 2 ^ (table_of ws).width) × Unclaimed (table_of ws).entries w)
  decode_nothing = rw reads (no_entry (table_of ws) w room)

-- "Decoding writes field values in table order to the first words of the buffer; the rest is unchanged. The answer nothing writes nothing.";
-- a refusal leaves all "unchanged"
module _ (ws : List ℕ) (w : ℕ) (out : List ℕ) where
  pub decode_written : (e : ℕ) (vs : List ℕ) → decode_of (read_table ws) w (length out) ≡ result (entry_values e vs)
      → buffer_after (decode_of (read_table ws) w (length out)) out ≡ vs ++ drop (length vs) out
  unfolding buffer_after
  decode_written e vs q = rw q

  pub decode_unwritten : ((e : ℕ) (vs : List ℕ) → decode_of (read_table ws) w (length out) ≡ result (entry_values e vs) → ⊥)
      → buffer_after (decode_of (read_table ws) w (length out)) out ≡ out
  unfolding buffer_after
  decode_unwritten h = go (decode_of (read_table ws) w (length out)) h
    where
      go : (o : Outcome Decoded) → ((e : ℕ) (vs : List ℕ) → o ≡ result (entry_values e vs) → ⊥) → buffer_after o out ≡ out
      go (result (entry_values e vs)) h = absurd (h e vs refl)
      go (result none_selected) h = refl
      go (faulty n p) h = refl
      go (refused n p x) h = refl

-- ---- encoding, of a table that reads: "encoding 11, 12, 13"; each answer exactly when, so that there is no other
module _ (ws : List ℕ) (reads : table_check ws ≡ fine) (e : ℕ) (vs : List ℕ) where
  abbrev entry : Entry
  entry = entry_number (table_of ws).entries e

  -- 11 exactly for "no such entry, or wrong count of values"
  pub encode_unasked : (encode_of (read_table ws) e vs ≡ refused 11 0 0) ↔ (Asked (table_of ws).entries e vs → ⊥)
  encode_unasked = rw reads (eleven (table_of ws) (table_good ws reads) e vs)

  -- else 12 exactly when a "value does not fit its field", with the "index of the first such value"
  pub encode_misfit : (k : ℕ) → (encode_of (read_table ws) e vs ≡ refused 12 k 0) ↔ (Asked (table_of ws).entries e vs × FirstMisfit entry.fields vs k)
  encode_misfit k = rw reads (twelve (table_of ws) (table_good ws reads) e vs k)

  -- else the word that holds the values, exactly when it selects the entry
  pub encode_word : (w : ℕ) → (encode_of (read_table ws) e vs ≡ result w) ↔ (Holds (table_of ws).width entry vs w × Selects (table_of ws).entries w e)
  encode_word w = rw reads (the_word (table_of ws) (table_good ws reads) e vs w)

  -- and 13 with that word exactly when it does not: "word made does not select that entry"
  pub encode_unselected : (w : ℕ) → (encode_of (read_table ws) e vs ≡ refused 13 0 w)
      ↔ ((e < length (table_of ws).entries) × Holds (table_of ws).width entry vs w × (Selects (table_of ws).entries w e → ⊥))
  encode_unselected w = rw reads (thirteen (table_of ws) (table_good ws reads) e vs w)

-- "For a word whose bits below the selected entry's own bits are zero, decoding into eight words or more gives an entry and field values
-- exactly when encoding that entry with those values gives that word.": for every list of words and every word, entry and values
pub inverse : (ws : List ℕ) (w : ℕ)
    → ((e : ℕ) → look_of (read_table ws) w ≡ result (some e) → w % 2 ^ ((table_of ws).width - (entry_number (table_of ws).entries e).size) ≡ 0)
    → (room : ℕ) → 8 ≤ room → (e : ℕ) (vs : List ℕ)
    → (decode_of (read_table ws) w room ≡ result (entry_values e vs)) ↔ (encode_of (read_table ws) e vs ≡ result w)
inverse ws w clean room h e vs = (
  λ d. let r = decode_reads ws w room _ d in
      let g = rw r at d in
      rw r (decode_encode (table_of ws) (table_good ws r) w room e vs (clean e (rw r (looked_up_lem (table_of ws) w room e vs g))) g),
  λ d. let r = encode_reads ws e vs w d in
      rw r (encode_decode (table_of ws) (table_good ws r) w room e vs h (rw r at d)),
)

-- a word that encoding makes has no bit below its entry's own bits
pub made_clean : (ws : List ℕ) (w e : ℕ) (vs : List ℕ) → encode_of (read_table ws) e vs ≡ result w
    → w % 2 ^ ((table_of ws).width - (entry_number (table_of ws).entries e).size) ≡ 0
made_clean ws w e vs d = ((encode_word ws (encode_reads ws e vs w d) e vs w).0 d).0.below
