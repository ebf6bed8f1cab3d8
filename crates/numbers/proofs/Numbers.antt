-- Document 02, No. 7, sentence by sentence, over the definitions that the calls' contracts cite. Assumes nothing.
--   `table::read` answers `read_table ws`; `numbers::signed` answers `signed_of w v` and `numbers::stored` `stored_of w z`; `numbers::put_text` answers
--   `length_of (text_of w v) (length out)` and leaves `buffer_after (text_of w v) out`: for all words, stored values v, whole numbers z and buffers.
--     spare_is_two, form_is_four, in_table     field words of a table
--     fine_exactly, low_free, two_exactly, four_exactly, twelve_exactly, room_exactly, length_exactly     what the calls take and refuse
--     signed_forms, signed_all, stored_all, signed_small, turned, stored_fits     stored values and whole numbers
--     text_all, text_says, minus_exactly, point_of_two, text_short, text_longest, written, unwritten     the text and its buffer
--     decoded_signed, plain_words, plain_twice, lookup_plain, generate_plain, buffer_plain, measure_plain, decode_plain, encode_plain, comes_back     the other calls
use Prim.Native.Nat.{ℕ, ◌+◌, ◌^◌, ◌≤◌, ◌<◌}
use mathlib.Core.Bool.{true, false}
use mathlib.Core.Path.{◌≡◌, refl, sym, ap, ◌∙◌}
use mathlib.Core.List.{List, ◌++◌, map}
use mathlib.Core.Logic.Iff
use mathlib.Core.Logic.{◌↔◌, ◌⊎◌, ⊎_elim, inl, inr}
use native.Mathlib.Omega.{arith}
use lib.Dec.{eqb, ltb, leb}
use lib.IntN.{ℤ, pos}
use lib.Signed.{lt_z, mag}
use lib.ListN.{length, get_or, drop}
use borrow.Author.Tests.{lt-ltb, le-ltb, ltb-true, ltb-false, le-leb, eqb-true, eqb-false, eq-eqb, ne_eqb}
use Rattle.words.specs.Tests.{◌and◌, ◌or◌}
use Rattle.words.specs.Words.{word, part, bits}
use Rattle.words.specs.Outcome.{Outcome, result, faulty, refused}
use Rattle.words.proofs.Logic.{cases, or_e, not_t}
use Rattle.words.proofs.Parts.{part_lt}
use Rattle.table.specs.Table.{Table, field_at, table_of, kind_of, count_of, width_of, size_of, fields_of, field_width, form_of, fraction_of, opcode_place, fields_place, entry_place, own_bits}
use Rattle.table.specs.Check.{Check, fine, fault, ◌then◌, need, spare_clear, form_fits, first_check, head_check, pattern_check, cycles_check, field_word, field_check, used_before, entry_check, table_check, read_table}
use Rattle.table.proofs.Laws.{checks, fine_then, fault_then, then_l, then_r, need_true, field_word_lem, field_some, field_below, first_width}
use Rattle.table.proofs.Views.{read_is, entry_check_lem, entry_stops, entry_field_check, field_at_lem, field_stops}
use Rattle.text.specs.Digits.{digit_of, digits_of, decimal_text}
use Rattle.layout.specs.Layout.{table_words}
use Rattle.layout.specs.Readable.{Small, Means}
use Rattle.selection.specs.Lookup.{look_of}
use Rattle.tree.specs.Generate.{generate_of, buffer_of, measure_of}
use Rattle.operands.specs.Fields.{value_in}
use Rattle.operands.specs.Calls.{entry_values, decode_of, encode_of}
use Rattle.operands.proofs.Inverse.{table_good, encode_reads, encode_decode}
use Rattle.cost.proofs.Free.{changed_table, lookup_same, generate_same, buffer_same, measure_same, decode_same, encode_same}
use Rattle.numbers.specs.Word.{has_sign, word_check}
use Rattle.numbers.specs.Whole.{is_below, number_of, in_range, value_of}
use Rattle.numbers.specs.Decimals.{divided, sign_text, point_text, fraction_text, number_text}
use Rattle.numbers.specs.Calls.{answer_of, signed_of, stored_of, text_of, length_of, buffer_after}
use Rattle.numbers.specs.Exact.{Exact}
use Rattle.numbers.specs.Plain.{plain, plain_table}
use Rattle.numbers.proofs.Judging.{width_some, width_most, form_most, fraction_few}
use Rattle.numbers.proofs.Answering.{answer_result}
use Rattle.numbers.proofs.Refusing.{SpareSet, FormFault, Two, Four, Taken, spare_set, form_fault, taken, two, four, twelve}
use Rattle.numbers.proofs.Alike.{same_kind, same_form, same_fraction}
use Rattle.numbers.proofs.Plainness.{kept_plain, plain_is, plain_again, plain_means}
use Rattle.numbers.proofs.Rooms.{passed_fault, passed, not_eighteen, too_long, long}
use Rattle.numbers.proofs.Shortness.{plain_near, signed_near, whole_short, pointed_short}
use Rattle.numbers.proofs.Ranges.{number_small}
use Rattle.numbers.proofs.Turning.{value_back, number_back}
use Rattle.numbers.proofs.Exactness.{text_exact, minus_below}
use Rattle.numbers.proofs.Only.{exact_only}

-- ---- field words of a table

-- of a table that is right up to field j of entry k
module _ (ws : List ℕ) (first : first_check ws ≡ fine) (k : ℕ) (h : k < count_of (word ws 0)) where
  abbrev place : ℕ
  place = entry_place ws k

  abbrev width : ℕ
  width = width_of (word ws 0)

  abbrev size : ℕ
  size = size_of (word ws place)

  -- its field i, with the bits used before it
  abbrev field_check_lem : ℕ → Check
  field_check_lem i = field_check ws width size (used_before ws (word ws (opcode_place ws place)) i (fields_place ws place)) (fields_place ws place + i)

  module _ (earlier : (i : ℕ) → i < k → entry_check ws width (entry_place ws i) ≡ fine) (head : head_check ws width place ≡ fine)
      (opcode : pattern_check ws (own_bits width size) (opcode_place ws place) ≡ fine) (cycles : cycles_check ws place ≡ fine)
      (j : ℕ) (l : j < fields_of (word ws place)) (fields : (i : ℕ) → i < j → field_check_lem i ≡ fine) where
    abbrev at : ℕ
    at = fields_place ws place + j

    stops : (n p : ℕ) → field_check_lem j ≡ fault n p → read_table ws ≡ faulty n p
    unfolding table_check entry_check
    stops n p c =
        let f = field_stops ws place width size j _ _ _ n p fields l c in
        let e : entry_check ws width place ≡ fault n p = rw (head, fine_then, opcode, fine_then, cycles, fine_then, f, fault_then) in
        let t : table_check ws ≡ fault n p = rw (first, fine_then) (entry_stops ws width k _ n p earlier h e) in
        rw t

    module _ (there : at + 1 ≤ length ws) (field : kind_of (word ws at) ≡ 3) where
      -- "bits 23–16 stay spare for all other forms": 2
      pub spare_is_two : SpareSet (word ws at) → read_table ws ≡ faulty 2 at
      unfolding field_check field_word
      spare_is_two s = stops 2 at (simp (le-leb _ _ there, eq-eqb _ _ field, (spare_set (word ws at)).1 s, checks))

      -- "A form over 2, or fraction bits over 16 or over the field's width, gives 4"
      pub form_is_four : spare_clear (word ws at) ≡ true → FormFault (word ws at) → read_table ws ≡ faulty 4 at
      unfolding field_check field_word
      form_is_four s f = stops 4 at (simp (le-leb _ _ there, eq-eqb _ _ field, s, (form_fault (word ws at)).1 f, checks))

-- the calls take the word of every field of a table that reads
module _ (ws : List ℕ) (t : Table) (r : read_table ws ≡ result t) (k : ℕ) (h : k < count_of (word ws 0)) (j : ℕ) (l : j < fields_of (word ws (entry_place ws k))) where
  abbrev word_of_lem : ℕ
  word_of_lem = word ws (fields_place ws (entry_place ws k) + j)

  pub in_table : word_check word_of_lem ≡ fine
  unfolding word_check table_check
  in_table =
      let g = (read_is ws t r).0 in
      let e = entry_check_lem ws _ k _ (then_r _ _ g) h in
      let c = field_at_lem ws _ _ _ j _ _ _ (entry_field_check ws _ _ e) l in
      let most : field_width word_of_lem ≤ 32 = omega (arith, field_below ws _ _ _ _ c, first_width ws (then_l _ _ g)) in
      simp (field_word_lem ws _ _ _ _ c, le-leb 1 _ (field_some ws _ _ _ _ c), le-leb _ 32 most, checks)

-- ---- what the calls refuse: "all with place 0, the lowest bit not judged"

-- a field's word by itself is taken exactly when it is of kind 3, has no spare bit, a width of 1 to 32 and no form fault
pub fine_exactly : (w : ℕ) → (word_check w ≡ fine) ↔ Taken w
fine_exactly w = taken w

-- "the lowest bit not judged": words that differ in bits 15–8 alone get the same answers
module _ (w x : ℕ) (upper : bits 31 16 w ≡ bits 31 16 x) (lower : bits 7 0 w ≡ bits 7 0 x) where
  pub low_free : ((v : ℕ) → signed_of w v ≡ signed_of x v) × ((z : ℤ) → stored_of w z ≡ stored_of x z) × ((v : ℕ) → text_of w v ≡ text_of x v)
  unfolding signed_of stored_of text_of word_check field_word spare_clear form_fits
  low_free =
      let k = same_kind w x upper in
      let f = same_form w x upper in
      let p = same_fraction w x upper in
      (λ v. simp (k, f, p, lower), λ z. simp (k, f, p, lower), λ v. simp (k, f, p, lower))

module _ (w v : ℕ) (z : ℤ) (room : ℕ) where
  abbrev text_call : Outcome ℕ
  text_call = length_of (text_of w v) room

  -- "a wrong kind or spare bit gives 2"; of the call that writes text, for every room
  pub two_exactly : ((signed_of w v ≡ faulty 2 0) ↔ Two w) × ((stored_of w z ≡ faulty 2 0) ↔ Two w) × ((text_call ≡ faulty 2 0) ↔ Two w)
  unfolding signed_of stored_of text_of
  two_exactly = (two w _ _, two w _ _, Iff.trans (passed_fault _ room 2 0) (two w _ _))

  -- "then a width outside 1–32 or a form fault as above 4"
  pub four_exactly : ((signed_of w v ≡ faulty 4 0) ↔ Four w) × ((stored_of w z ≡ faulty 4 0) ↔ Four w) × ((text_call ≡ faulty 4 0) ↔ Four w)
  unfolding signed_of stored_of text_of
  four_exactly = (four w _ _, four w _ _, Iff.trans (passed_fault _ room 4 0) (four w _ _))

  -- "then a value out of range 12"
  pub twelve_exactly : ((signed_of w v ≡ refused 12 0 0) ↔ ((word_check w ≡ fine) × (2 ^ field_width w ≤ v)))
      × ((stored_of w z ≡ refused 12 0 0) ↔ ((word_check w ≡ fine) × (in_range (has_sign w) (field_width w) z ≡ false)))
      × ((text_call ≡ refused 12 0 0) ↔ ((word_check w ≡ fine) × (2 ^ field_width w ≤ v)))
  unfolding signed_of stored_of text_of
  twelve_exactly = (over _, twelve _ _ _, Iff.trans (passed _ room 12 (λ q. omega arith)) (over _))
    where
      over : {A : Type 0} (r : A) → (answer_of (word_check w) (ltb v (2 ^ field_width w)) r ≡ refused 12 0 0) ↔ ((word_check w ≡ fine) × (2 ^ field_width w ≤ v))
      over r = let e = twelve (word_check w) (ltb v (2 ^ field_width w)) r in
          (λ d. ((e.0 d).0, ltb-false _ _ (e.0 d).1), λ d. e.1 (d.0, le-ltb _ _ d.1))

  -- "18, the text buffer is too short, checked after 2, 4 and 12": there is a text, and it is longer than the room
  pub room_exactly : (text_call ≡ refused 18 0 0) ↔ ((text : List ℕ) × (text_of w v ≡ result text) × (room < length text))
  unfolding text_of
  room_exactly = too_long (text_of w v) (not_eighteen (word_check w) _ _) room

  -- "returning its length in bytes": there is a text, and it has room
  pub length_exactly : (n : ℕ) → (text_call ≡ result n) ↔ ((text : List ℕ) × (text_of w v ≡ result text) × (length text ≡ n) × (n ≤ room))
  unfolding text_of
  length_exactly n = long (text_of w v) (not_eighteen (word_check w) _ _) room n

-- ---- stored values and whole numbers, for every width from 1 to 32 by one argument

-- "1 two's complement", "Form 2 is two's complement too"
pub signed_forms : (w : ℕ) → word_check w ≡ fine → (has_sign w ≡ true) ↔ ((form_of w ≡ 1) ⊎ (form_of w ≡ 2))
signed_forms w good = (
  λ s. let some = eqb-false (form_of w) 0 (not_t s) in
      cases (eqb (form_of w) 1) (λ t. inl (eqb-true _ _ t)) (λ t. let other = eqb-false (form_of w) 1 t in inr (omega (arith, some, other, form_most w good))),
  ⊎_elim (λ e. rw e) (λ e. rw e),
)

module _ (w : ℕ) where
  -- each value of the width has a number
  pub signed_all : word_check w ≡ fine → (v : ℕ) → v < 2 ^ field_width w → signed_of w v ≡ result (number_of (has_sign w) (field_width w) v)
  unfolding signed_of answer_of
  signed_all good v h = rw (good, lt-ltb v (2 ^ field_width w) h)

  -- each number in range has a stored value
  pub stored_all : word_check w ≡ fine → (z : ℤ) → in_range (has_sign w) (field_width w) z ≡ true → stored_of w z ≡ result (value_of (field_width w) z)
  unfolding stored_of answer_of
  stored_all good z e = rw (good, e)

  module _ (v : ℕ) (z : ℤ) where
    signed_is : signed_of w v ≡ result z → (word_check w ≡ fine) × (v < 2 ^ field_width w) × (number_of (has_sign w) (field_width w) v ≡ z)
    unfolding signed_of
    signed_is e = let a = answer_result _ _ _ z e in (a.0, ltb-true _ _ a.1, a.2)

    stored_is : stored_of w z ≡ result v → (word_check w ≡ fine) × (in_range (has_sign w) (field_width w) z ≡ true) × (value_of (field_width w) z ≡ v)
    unfolding stored_of
    stored_is e = answer_result _ _ _ v e

    -- beside its sign it has 32 bits
    pub signed_small : signed_of w v ≡ result z → mag z < 2 ^ 32
    signed_small e = let a = signed_is e in
        rw (← a.2) (number_small (has_sign w) (field_width w) v (width_most w a.0) a.1)

    -- a stored value and its number: one is the other's exactly when the other is the one's. "a signed number in range comes back as itself"
    pub turned : (signed_of w v ≡ result z) ↔ (stored_of w z ≡ result v)
    turned = (
      λ e. let a = signed_is e in let b = value_back (has_sign w) (field_width w) v (width_some w a.0) a.1 in
          rw (← a.2) (stored_all a.0 _ b.0 ∙ ap result b.1),
      λ e. let a = stored_is e in let b = number_back (has_sign w) (field_width w) z (width_some w a.0) a.1 in
          rw (← a.2) (signed_all a.0 _ b.0 ∙ ap result b.1),
    )

    -- so encoding's 12 does not refuse it
    pub stored_fits : stored_of w z ≡ result v → v < 2 ^ field_width w
    stored_fits e = (signed_is (turned.1 e)).1

-- ---- the text

-- "for form 2 bits 23–16 for the fraction bits": no other form has a point
pub point_of_two : (w : ℕ) → word_check w ≡ fine → (form_of w ≡ 2 → ⊥) → fraction_of w ≡ 0
unfolding word_check field_word spare_clear
point_of_two w good h = eqb-true _ _ (or_e (need_true _ _ _ (then_l _ _ (then_r _ _ (then_l _ _ good)))) (ne_eqb (form_of w) 2 h))

-- each value of the width has a text
pub text_all : (w : ℕ) → word_check w ≡ fine → (v : ℕ) → v < 2 ^ field_width w → text_of w v ≡ result (number_text (fraction_of w) (number_of (has_sign w) (field_width w) v))
unfolding text_of answer_of
text_all w good v h = rw (good, lt-ltb v (2 ^ field_width w) h)

module _ (w v : ℕ) (text : List ℕ) (e : text_of w v ≡ result text) where
  -- the text is exact, of the value's number, and no other text is: what is said of it fixes its bytes
  pub text_says : (z : ℤ) × (signed_of w v ≡ result z) × Exact (fraction_of w) z text × ((other : List ℕ) → Exact (fraction_of w) z other → other ≡ text)
  unfolding text_of
  text_says =
      let a = answer_result _ _ _ text e in
      let z = number_of (has_sign w) (field_width w) v in
      let x : Exact (fraction_of w) z text = rw (← a.2) (text_exact (fraction_of w) z) in
      (z, signed_all w a.0 v (ltb-true _ _ a.1), x, λ other y. exact_only (fraction_of w) z other text y x)

  -- "a minus sign only below zero": its first byte is one exactly where the number is
  pub minus_exactly : (z : ℤ) → signed_of w v ≡ result z → eqb (get_or text 0 0) 45 ≡ lt_z z (pos 0)
  unfolding text_of
  minus_exactly z d = rw (← (answer_result _ _ _ text e).2, ← (signed_is w v z d).2) (minus_below (fraction_of w) (number_of (has_sign w) (field_width w) v))

  -- "to the start of a buffer"; "bytes after the text are unchanged"
  pub written : (out : List ℕ) → length text ≤ length out → buffer_after (text_of w v) out ≡ text ++ drop (length text) out
  unfolding buffer_after
  written out h = rw (e, le-leb (length text) (length out) h)

  -- no text is longer than 23 bytes
  pub text_short : length text ≤ 23
  unfolding text_of
  text_short =
      let a = answer_result _ _ _ text e in
      let good = a.0 in
      let h : v < 2 ^ field_width w = ltb-true _ _ a.1 in
      rw (← a.2) (cases (eqb (form_of w) 0)
      (λ t. let p : form_of w ≡ 0 = eqb-true _ _ t in
      whole_short (fraction_of w) _ (point_of_two w good (λ q. omega arith)) (rw t (plain_near (field_width w) v (width_most w good) h)))
      (λ t. rw t (pointed_short (fraction_of w) _ (fraction_few w good) (signed_near (field_width w) v (width_some w good) (width_most w good) h))))

-- a value of 32 bits of which only the highest is set, with 16 fraction bits: -32768.0000000000000000
pub text_longest : (text : List ℕ) × (text_of 0x32100020 0x80000000 ≡ result text) × (length text ≡ 23)
unfolding part ◌and◌ ◌or◌ ◌then◌ need spare_clear form_fits field_word word_check is_below number_of digit_of digits_of decimal_text divided sign_text point_text fraction_text number_text answer_of text_of
text_longest = (_, refl, refl)

-- "buffer unchanged", where the buffer is too short and where anything else is refused
module _ (o : Outcome (List ℕ)) (out : List ℕ) where
  pub unwritten : ((n : ℕ) → length_of o (length out) ≡ result n → ⊥) → buffer_after o out ≡ out
  unfolding length_of buffer_after
  unwritten f = go o f
    where
      go : (o : Outcome (List ℕ)) → ((n : ℕ) → length_of o (length out) ≡ result n → ⊥) → buffer_after o out ≡ out
      go (faulty n p) f = refl
      go (refused n p x) f = refl
      go (result text) f = cases (leb (length text) (length out)) (λ t. absurd (f (length text) (rw t))) (λ t. rw t)

-- ---- "Encoding and decoding keep to stored values"

-- what decoding takes out of any word for a field of a table that reads is a stored value: it has a number
pub decoded_signed : (ws : List ℕ) (t : Table) → read_table ws ≡ result t → (k : ℕ) → k < count_of (word ws 0) → (j : ℕ) → j < fields_of (word ws (entry_place ws k)) → (w : ℕ)
    → let p = fields_place ws (entry_place ws k) + j in let v = value_in (field_at ws p) w in signed_of (word ws p) v ≡ result (number_of (has_sign (word ws p)) (field_width (word ws p)) v)
decoded_signed ws t r k h j l w = signed_all _ (in_table ws t r k h j l) _ (part_lt w _ _)

-- nor do other calls depend on forms: every table that reads has words for the same table with plain fields, which differs from it in forms
-- only;
pub plain_words : (ws : List ℕ) (t : Table) → read_table ws ≡ result t → Small ws
    → Means (kind_of (word ws 0)) t.width (plain_table t).entries (table_words (kind_of (word ws 0)) t.width (plain_table t).entries)
plain_words = plain_means

pub plain_twice : (t : Table) → plain_table (plain_table t) ≡ plain_table t
plain_twice = plain_again

-- and of these two, as of any two tables that read and differ in forms only, lookup, generating, sizing, decoding and encoding answer the same
module _ (ws vs : List ℕ) (t u : Table) (r : read_table ws ≡ result t) (s : read_table vs ≡ result u) (d : plain_table t ≡ plain_table u) where
  abbrev same : ℕ → ℕ
  same n = n

  alike : changed_table same (map plain) t ≡ changed_table same (map plain) u
  alike = plain_is t ∙ d ∙ sym (plain_is u)

  pub lookup_plain : (w : ℕ) → look_of (read_table ws) w ≡ look_of (read_table vs) w
  lookup_plain w = lookup_same same (map plain) kept_plain ws vs t u r s alike w

  -- the answer, and every word of the buffer
  pub generate_plain : (room : ℕ) → generate_of (read_table ws) room ≡ generate_of (read_table vs) room
  generate_plain room = generate_same same (map plain) kept_plain ws vs t u r s alike room

  pub buffer_plain : (out : List ℕ) → buffer_of (read_table ws) out ≡ buffer_of (read_table vs) out
  buffer_plain out = buffer_same same (map plain) kept_plain ws vs t u r s alike out

  pub measure_plain : measure_of (read_table ws) ≡ measure_of (read_table vs)
  measure_plain = measure_same same (map plain) kept_plain ws vs t u r s alike

  -- the answer, with the values that are written
  pub decode_plain : (w room : ℕ) → decode_of (read_table ws) w room ≡ decode_of (read_table vs) w room
  decode_plain w room = decode_same same (map plain) kept_plain ws vs t u r s alike w room

  pub encode_plain : (e : ℕ) (values : List ℕ) → encode_of (read_table ws) e values ≡ encode_of (read_table vs) e values
  encode_plain e values = encode_same same (map plain) kept_plain ws vs t u r s alike e values

-- "a signed number in range comes back as itself": numbers that are stored for the fields of an entry of a table that reads, encoded into an
-- instruction, are decoded as the same stored values, and these turned back are the same numbers
module _ (ws : List ℕ) (k : ℕ) (zs : List ℤ) (vs : List ℕ) where
  abbrev form_at : ℕ → ℕ
  form_at j = word ws (fields_place ws (entry_place ws k) + j)

  pub comes_back : ((j : ℕ) → j < length vs → stored_of (form_at j) (get_or zs j (pos 0)) ≡ result (get_or vs j 0))
      → (w : ℕ) → encode_of (read_table ws) k vs ≡ result w → (room : ℕ) → 8 ≤ room
      → (decode_of (read_table ws) w room ≡ result (entry_values k vs))
      × ((j : ℕ) → j < length vs → signed_of (form_at j) (get_or vs j 0) ≡ result (get_or zs j (pos 0)))
  comes_back stores w e room h =
      let g = encode_reads ws k vs w e in
      (rw g (encode_decode (table_of ws) (table_good ws g) w room k vs h (rw g at e)), λ j l. (turned (form_at j) _ _).1 (stores j l))
