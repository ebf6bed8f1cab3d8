-- Reading the words of lawful entries gives the entries back. Assumes nothing.
use mathlib.Core.Path.{◌≡◌, refl, sym, ap, ap₂}
use mathlib.Core.Bool.{true}
use mathlib.Core.List.{List, [], ◌∷◌}
use Prim.Native.Nat.{ℕ, ◌+◌, ◌*◌, ◌≤◌, ◌<◌, ◌^◌}
use native.Mathlib.Omega.{arith}
use lib.Dec.{eqb}
use lib.ListN.{length}
use borrow.Author.Tests.{eqb-true, le-leb, leb-true, ltb-true}
use Rattle.words.specs.Tests.{all_of}
use Rattle.words.specs.Words.{word, part}
use Rattle.words.proofs.Logic.{and_l, and_r, cases, or_e}
use Rattle.words.specs.Outcome.{result}
use Rattle.table.specs.Table.{Pattern, Field, Condition, Entry, kind_of, fields_of, conditions_of, field_bits, pattern_at, field_at, fields_at, unmatching_at, condition_at, condition_end, conditions_at, conditions_end, opcode_place, fields_place, cycles_place, cycles_at, has_cycles, entry_end, entry_at, entries_at, own_bits}
use Rattle.table.specs.Check.{Check, fine, ◌then◌, pattern_check, unmatching_check, unmatchings_check, condition_check, conditions_check, spare_clear, form_fits, field_word, cycles_check, field_rule, field_check, fields_check, head_check, entry_check, entries_check, first_check, table_check, read_table}
use Rattle.table.proofs.Laws.{checks, fine_then}
use Rattle.layout.specs.Layout.{all_words, pattern_words, field_head, fields_words, unmatched_words, unmatching_words, condition_head, condition_words, conditions_words, entry_head, entry_words, entries_words, table_head, table_words, cycles_words}
use Rattle.layout.specs.Readable.{good_kind, bits_of, Readable, lawful_pattern, lawful_condition, lawful_form, lawful_cycles, lawful_field, lawful_fields, lawful_head, lawful}
use Rattle.layout.proofs.Standing.{Stands, here, parted, ends_at}
use Rattle.layout.proofs.Heads.{Parts, form_parts, parts, low_parts, count_parts}

-- what is read is what was meant, without fault, up to where its words end
record Back {A : Type 0} (read meant : A) (check : Check) (end q : ℕ) : Type 0 where
  same : read ≡ meant
  good : check ≡ fine
  ends : end ≡ q

pub kind_small : (kind : ℕ) → good_kind kind ≡ true → kind < 16
unfolding good_kind
kind_small kind g = cases (eqb kind 1) (λ t. omega (arith, eqb-true kind 1 t)) (λ t. omega (arith, eqb-true kind 6 (or_e g t)))

then_i : {a b : Check} → a ≡ fine → b ≡ fine → a then b ≡ fine
unfolding ◌then◌
then_i s t = rw s t

module _ (ws : List ℕ) (own : ℕ) where
  pattern_back : (x : Pattern) (p q : ℕ) → lawful_pattern own x ≡ true → Stands ws p (pattern_words x) q → Back (pattern_at ws p) x (pattern_check ws own p) (p + 2) q
  unfolding pattern_check lawful_pattern pattern_words
  pattern_back x p q l s =
      let a = here s in
      let b = here a.2 in
      record {
        same = λ i. record { mask = a.1 i; value = b.1 i };
        good = simp (le-leb (p + 2) (length ws) (omega arith), a.1, b.1, and_l _ l, and_r _ l, checks);
        ends = omega (arith, ends_at s);
      }

  unmatching_back : (x : Pattern) (p q : ℕ) → lawful_pattern own x ≡ true → Stands ws p (unmatched_words x) q → Back (pattern_at ws (p + 1)) x (unmatching_check ws own p) (p + 3) q
  unfolding unmatching_check unmatched_words part
  unmatching_back x p q l s =
      let a = here s in
      let r = pattern_back x (p + 1) q l a.2 in
      record {
        same = r.same;
        good = simp (le-leb (p + 1) (length ws) (omega arith), a.1, r.good, checks);
        ends = omega (arith, r.ends);
      }

  unmatchings_back : (xs : List Pattern) (p q : ℕ) → all_of (lawful_pattern own) xs ≡ true → Stands ws p (unmatching_words xs) q
      → Back (unmatching_at ws (length xs) p) xs (unmatchings_check ws own (length xs) p) (p + 3 * length xs) q
  unfolding unmatching_at unmatchings_check all_of all_words
  unmatchings_back [] p q l s = record { same = refl; good = refl; ends = omega (arith, ends_at s) }
  unmatchings_back (x ∷ xs) p q l s =
      let c = parted (unmatched_words x) s in
      let a = unmatching_back x p c.0 (and_l _ l) c.1 in
      let b = unmatchings_back xs (p + 3) q (and_r _ l) (rw a.ends c.2) in
      record { same = ap₂ ◌∷◌ a.same b.same; good = then_i a.good b.good; ends = omega (arith, b.ends) }

  condition_back : (k : Condition) (p q : ℕ) → lawful_condition own k ≡ true → Stands ws p (condition_words k) q
      → Back (condition_at ws p) k (condition_check ws own p) (condition_end ws p) q
  unfolding condition_check lawful_condition condition_words condition_head
  condition_back k p q l s =
      let a = here s in
      let few : length k.unmatching ≤ 8 = leb-true _ _ (and_l _ l) in
      let n = count_parts (word ws p) 4 (length k.unmatching) (omega arith) (omega arith) a.1 in
      let c = parted (pattern_words k.matching) a.2 in
      let m = pattern_back k.matching (p + 1) c.0 (and_l _ (and_r _ l)) c.1 in
      let e : p + 3 ≡ c.0 = omega (arith, m.ends) in
      let u = unmatchings_back k.unmatching (p + 3) q (and_r _ (and_r _ l)) (rw e c.2) in
      rw n.2 (record {
        same = λ i. record { matching = m.same i; unmatching = u.same i };
        good = simp (le-leb (p + 1) (length ws) (omega arith), n.0, n.1, and_l _ l, m.good, u.good, checks);
        ends = u.ends;
      })

  conditions_back : (ks : List Condition) (p q : ℕ) → all_of (lawful_condition own) ks ≡ true → Stands ws p (conditions_words ks) q
      → Back (conditions_at ws (length ks) p) ks (conditions_check ws own (length ks) p) (conditions_end ws (length ks) p) q
  unfolding conditions_at conditions_check conditions_end all_of all_words
  conditions_back [] p q l s = record { same = refl; good = refl; ends = omega (arith, ends_at s) }
  conditions_back (k ∷ ks) p q l s =
      let c = parted (condition_words k) s in
      let a = condition_back k p c.0 (and_l _ l) c.1 in
      let b = conditions_back ks (condition_end ws p) q (and_r _ l) (rw a.ends c.2) in
      record { same = ap₂ ◌∷◌ a.same b.same; good = then_i a.good b.good; ends = b.ends }

module _ (ws : List ℕ) (width size : ℕ) (w : width ≤ 32) where
  field_back : (f : Field) (used p q : ℕ) → lawful_field width size used f ≡ true → Stands ws p (field_head f ∷ []) q
      → Back (field_at ws p) f (field_check ws width size used p) (p + 1) q
  unfolding field_check field_word spare_clear form_fits field_rule field_bits lawful_form lawful_field field_head
  field_back f used p q k s =
      let form = and_l _ k in
      let g = and_r _ form in
      let l = and_r _ k in
      let t = and_r _ l in
      let u = and_r _ t in
      let a = here s in
      let below : f.low + f.width ≤ width = leb-true _ _ (and_l _ u) in
      let two : f.form ≤ 2 = leb-true _ _ (and_l _ (and_l _ g)) in
      let most : f.fraction ≤ 16 = leb-true _ _ (and_r _ (and_l _ g)) in
      let n = parts (word ws p) 3 (f.form * 2 ^ 8 + f.fraction) f.low f.width (omega arith) (omega arith) (omega arith) (omega arith) (omega (arith, a.1)) in
      let v = form_parts (word ws p) f.form f.fraction (omega arith) n.upper in
      record {
        same = λ i. record { low = n.middle i; width = n.lower i; form = v.0 i; fraction = v.1 i };
        good = simp (le-leb (p + 1) (length ws) (omega arith), n.kind, v.0, v.1, n.middle, n.lower, and_l _ form, g, and_l _ l, and_l _ t, and_l _ u, and_r _ u, checks);
        ends = omega (arith, ends_at s);
      }

  fields_back : (e : ℕ) (fs : List Field) (used p q : ℕ) → lawful_fields width size used fs ≡ true → Stands ws p (fields_words fs) q
      → Back (fields_at ws (length fs) p) fs (fields_check ws e width size used (length fs) p) (p + length fs) q
  unfolding fields_at fields_check field_bits lawful_fields all_words
  fields_back e [] used p q l s = record { same = refl; good = simp (l, checks); ends = omega (arith, ends_at s) }
  fields_back e (f ∷ fs) used p q l s =
      let c = parted (field_head f ∷ []) s in
      let a = field_back f used p c.0 (and_l _ l) c.1 in
      let b = fields_back e fs _ (p + 1) q (and_r _ l) (rw a.ends c.2) in
      record { same = ap₂ ◌∷◌ a.same b.same; good = then_i a.good (rw (ap bits_of a.same) b.good); ends = omega (arith, b.ends) }

module _ (ws : List ℕ) (width : ℕ) (w : width ≤ 32) where
  -- the head word says label, size and counts
  head_back : (e : Entry) (p : ℕ) → lawful_head width e ≡ true → p < length ws → word ws p ≡ entry_head e
      → (Parts (word ws p) 2 e.label e.size (length e.fields * 2 ^ 4 + length e.conditions)) × (fields_of (word ws p) ≡ length e.fields) × (conditions_of (word ws p) ≡ length e.conditions) × (head_check ws width p ≡ fine)
  unfolding head_check lawful_head entry_head
  head_back e p l h a =
      let some = and_r _ l in
      let below = and_r _ some in
      let counts = and_r _ below in
      let short : e.label < 2 ^ 12 = ltb-true _ _ (and_l _ l) in
      let size : e.size ≤ width = leb-true _ _ (and_l _ below) in
      let fields : length e.fields ≤ 8 = leb-true _ _ (and_l _ counts) in
      let conditions : length e.conditions ≤ 8 = leb-true _ _ (and_r _ counts) in
      let n = parts (word ws p) 2 e.label e.size (length e.fields * 2 ^ 4 + length e.conditions) (omega arith) (omega arith) (omega arith) (omega arith) (omega arith) in
      let m = low_parts (word ws p) (length e.fields) (length e.conditions) (omega arith) n.lower in
      (n, m.0, m.1, simp (le-leb (p + 1) (length ws) (omega arith), n.kind, n.middle, m.0, m.1, and_l _ some, and_l _ below, and_l _ counts, and_r _ counts, checks))

  cycles_back : (e : Entry) (p q : ℕ) → lawful_cycles (kind_of (word ws 0)) e ≡ true → Stands ws (cycles_place ws p) (cycles_words (kind_of (word ws 0)) e) q
      → Back (cycles_at ws p) e.cycles (cycles_check ws p) (fields_place ws p) q
  unfolding cycles_check has_cycles fields_place cycles_at lawful_cycles cycles_words
  cycles_back e p q l s =
      cases (eqb (kind_of (word ws 0)) 6)
      (λ t. let a = here (rw t at s) in
      rw t (record { same = a.1; good = simp (le-leb (p + 3 + 1) (length ws) (omega arith), a.1, rw t at l, checks); ends = omega (arith, ends_at a.2) }))
      (λ t. rw t (record { same = sym (eqb-true _ _ (rw t at l)); good = refl; ends = omega (arith, ends_at (rw t at s)) }))

  entry_back : (e : Entry) (p q : ℕ) → lawful (kind_of (word ws 0)) width e ≡ true → Stands ws p (entry_words (kind_of (word ws 0)) e) q
      → Back (entry_at ws p) e (entry_check ws width p) (entry_end ws p) q
  unfolding entry_check lawful entry_words
  entry_back e p q l s =
      let t = and_r _ l in
      let v = and_r _ t in
      let u = and_r _ v in
      let a = here s in
      let c = parted (pattern_words e.opcode) a.2 in
      let b = parted (cycles_words (kind_of (word ws 0)) e) c.2 in
      let d = parted (fields_words e.fields) b.2 in
      let h = head_back e p (and_l _ l) a.0 a.1 in
      let o = pattern_back ws (own_bits width e.size) e.opcode (opcode_place ws p) c.0 (and_l _ t) c.1 in
      let at : cycles_place ws p ≡ c.0 = omega (arith, o.ends) in
      let y = cycles_back e p b.0 (and_l _ v) (rw at b.1) in
      let f = fields_back ws width e.size w p e.fields e.opcode.mask (fields_place ws p) d.0 (and_l _ u) (rw y.ends d.1) in
      let k = conditions_back ws (own_bits width e.size) e.conditions (fields_place ws p + length e.fields) q (and_r _ u) (rw f.ends d.2) in
      let mask : word ws (opcode_place ws p) ≡ e.opcode.mask = ap (λ (x : Pattern). x.mask) o.same in
      rw (h.0.upper, h.0.middle, h.1, h.2) (record {
        same = λ i. record { label = e.label; size = e.size; opcode = o.same i; cycles = y.same i; fields = f.same i; conditions = k.same i };
        good = then_i h.3 (then_i o.good (then_i y.good (then_i (rw mask f.good) k.good)));
        ends = k.ends;
      })

  entries_back : (es : List Entry) (p : ℕ) → all_of (lawful (kind_of (word ws 0)) width) es ≡ true → Stands ws p (entries_words (kind_of (word ws 0)) es) (length ws)
      → (entries_at ws (length es) p ≡ es) × (entries_check ws width (length es) p ≡ fine)
  unfolding entries_at entries_check all_of all_words
  entries_back [] p l s = (refl, simp (le-leb (length ws) p (omega (arith, ends_at s)), checks))
  entries_back (e ∷ es) p l s =
      let c = parted (entry_words (kind_of (word ws 0)) e) s in
      let a = entry_back e p c.0 (and_l _ l) c.1 in
      let b = entries_back es (entry_end ws p) (and_r _ l) (rw a.ends c.2) in
      (ap₂ ◌∷◌ a.same b.0, then_i a.good b.1)

  -- the first word says kind, number of entries and width
  pub first_back : (kind : ℕ) (es : List Entry) → Readable kind width es → Stands ws 0 (table_words kind width es) (length ws) → Parts (word ws 0) kind (length es) 0 width
  unfolding table_words table_head
  first_back kind es r s =
      let k = kind_small kind r.known in
      parts (word ws 0) kind (length es) 0 width (omega arith) (omega arith) (omega arith) (omega arith) (omega (arith, (here s).1))

  pub table_back : (kind : ℕ) (es : List Entry) → Readable kind width es → Stands ws 0 (table_words kind width es) (length ws)
      → read_table ws ≡ result (record { width = width; entries = es })
  unfolding table_check first_check good_kind table_words
  table_back kind es r s =
      let a = here s in
      let n = first_back kind es r s in
      let b = entries_back es 1 (rw n.kind r.each) (rw n.kind a.2) in
      let l = ends_at s in
      let first : first_check ws ≡ fine =
      simp (le-leb 1 (length ws) (omega arith), le-leb (length ws) 16384 (omega arith), n.kind, r.known, n.middle, n.upper, le-leb (length es) 256 r.few, n.lower, le-leb 1 width r.some, le-leb width 32 w, checks) in
      rw (first, fine_then, n.upper, n.lower, b.1, b.0)
