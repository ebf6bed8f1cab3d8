-- A table without fault: its entries are lawful, and its words are theirs. Assumes nothing.
use mathlib.Core.Path.{◌≡◌, refl}
use mathlib.Core.Bool.{Bool, true}
use mathlib.Core.List.{List, [], ◌∷◌, ◌++◌}
use Prim.Native.Nat.{ℕ, zero, suc, ◌+◌, ◌*◌, ◌≤◌}
use native.Mathlib.Omega.{arith}
use lib.Bits.{bit_or}
use lib.Dec.{eqb}
use lib.ListN.{length}
use borrow.Author.Tests.{eqb-true, leb-true, lt-ltb}
use Rattle.words.specs.Tests.{◌and◌, all_of}
use Rattle.words.specs.Words.{word}
use Rattle.words.proofs.Logic.{and_i, cases}
use Rattle.words.proofs.Parts.{part_lt}
use Rattle.table.specs.Table.{kind_of, count_of, width_of, fields_of, conditions_of, unmatching_of, field_bits, pattern_at, field_at, fields_at, unmatching_at, condition_at, condition_end, conditions_at, conditions_end, opcode_place, fields_place, conditions_place, cycles_place, cycles_at, has_cycles, entry_end, entry_at, entries_at}
use Rattle.table.specs.Check.{Check, fine, ◌then◌, need, pattern_check, unmatching_check, unmatchings_check, condition_check, conditions_check, spare_clear, form_fits, field_word, cycles_check, field_rule, field_check, fields_check, head_check, entry_check, entries_check, first_check}
use Rattle.table.proofs.Laws.{then_l, then_r, need_true, length_fields, length_unmatching, length_conditions}
use Rattle.layout.specs.Layout.{all_words, pattern_words, field_head, fields_words, unmatched_words, unmatching_words, condition_head, condition_words, conditions_words, entry_head, entry_words, entries_words, table_head, cycles_words}
use Rattle.layout.specs.Readable.{lawful_pattern, lawful_condition, lawful_form, lawful_cycles, lawful_field, lawful_fields, lawful_head, lawful, Small}
use Rattle.layout.proofs.Standing.{Stands, done, next, joined}
use Rattle.layout.proofs.Heads.{cut, form_cut, low_cut, count_cut, bare_cut}

-- the test that is needed first, and the rest
needs : {b : Bool} {c : Check} (n p : ℕ) → need b n p then c ≡ fine → (b ≡ true) × (c ≡ fine)
needs n p e = (need_true _ _ _ (then_l _ _ e), then_r _ _ e)

-- what was read from p up to q passes the test, and its words stand there
pub record Laid (ws : List ℕ) (p q : ℕ) (test : Bool) (vs : List ℕ) : Type 0 where
  pub passes : test ≡ true
  pub stands : Small ws → Stands ws p vs q

module _ {ws : List ℕ} where
  -- two in a row; one more test; one more word in front
  both : {p m q : ℕ} {a b : Bool} {xs ys : List ℕ} → Laid ws p m a xs → Laid ws m q b ys → Laid ws p q (a and b) (xs ++ ys)
  both r s = record { passes = and_i r.passes s.passes; stands = λ h. joined (r.stands h) (s.stands h) }

  also : {p q : ℕ} {a b : Bool} {vs : List ℕ} → a ≡ true → Laid ws p q b vs → Laid ws p q (a and b) vs
  also t r = record { passes = and_i t r.passes; stands = r.stands }

  led : {p q v : ℕ} {b : Bool} {vs : List ℕ} → p + 1 ≤ length ws → (Small ws → word ws p ≡ v) → Laid ws (p + 1) q b vs → Laid ws p q b (v ∷ vs)
  led {p} l e r = record { passes = r.passes; stands = λ h. next {p = p} (omega arith) (e h) (r.stands h) }

  ended : {p q : ℕ} {b : Bool} → b ≡ true → p ≡ q → Laid ws p q b []
  ended t e = record { passes = t; stands = λ h. done e }

module _ (ws : List ℕ) (own : ℕ) where
  pattern_laid : (p q : ℕ) → p + 2 ≡ q → pattern_check ws own p ≡ fine → Laid ws p q (lawful_pattern own (pattern_at ws p)) (pattern_words (pattern_at ws p))
  unfolding pattern_check lawful_pattern pattern_words
  pattern_laid p q h e =
      let (fits, t) = needs _ _ e in
      let (mask, u) = needs _ _ t in
      let l = leb-true (p + 2) (length ws) fits in
      led (omega arith) (λ s. refl) (led (omega arith) (λ s. refl) (ended (and_i mask (need_true _ _ _ u)) (omega arith)))

  unmatching_laid : (p : ℕ) → unmatching_check ws own p ≡ fine → Laid ws p (p + 3) (lawful_pattern own (pattern_at ws (p + 1))) (unmatched_words (pattern_at ws (p + 1)))
  unfolding unmatching_check unmatched_words
  unmatching_laid p e =
      let (fits, t) = needs _ _ e in
      let (kind, u) = needs _ _ t in
      let (spare, v) = needs _ _ u in
      led (leb-true _ _ fits) (λ s. omega (arith, eqb-true, bare_cut (word ws p) (s p))) (pattern_laid (p + 1) (p + 3) (omega arith) v)

  unmatchings_laid : (n p q : ℕ) → p + 3 * n ≡ q → unmatchings_check ws own n p ≡ fine
      → Laid ws p q (all_of (lawful_pattern own) (unmatching_at ws n p)) (unmatching_words (unmatching_at ws n p))
  unfolding unmatchings_check unmatching_at all_of all_words
  unmatchings_laid zero p q h e = ended refl (omega arith)
  unmatchings_laid (suc n) p q h e = both (unmatching_laid p (then_l _ _ e)) (unmatchings_laid n (p + 3) q (omega arith) (then_r _ _ e))

  condition_laid : (p : ℕ) → condition_check ws own p ≡ fine → Laid ws p (condition_end ws p) (lawful_condition own (condition_at ws p)) (condition_words (condition_at ws p))
  unfolding condition_check lawful_condition condition_words condition_head
  condition_laid p e =
      let n = length_unmatching ws (unmatching_of (word ws p)) (p + 3) in
      let (fits, t) = needs _ _ e in
      let (kind, u) = needs _ _ t in
      let (spare, v) = needs _ _ u in
      let (few, w) = needs _ _ v in
      led (leb-true _ _ fits) (λ s. omega (arith, eqb-true, count_cut (word ws p) (s p)))
      (also (rw n few)
      (both (pattern_laid (p + 1) (p + 3) (omega arith) (then_l _ _ w)) (unmatchings_laid _ (p + 3) (condition_end ws p) refl (then_r _ _ w))))

  conditions_laid : (n p : ℕ) → conditions_check ws own n p ≡ fine
      → Laid ws p (conditions_end ws n p) (all_of (lawful_condition own) (conditions_at ws n p)) (conditions_words (conditions_at ws n p))
  unfolding conditions_check conditions_at conditions_end all_of all_words
  conditions_laid zero p e = ended refl refl
  conditions_laid (suc n) p e = both (condition_laid p (then_l _ _ e)) (conditions_laid n (condition_end ws p) (then_r _ _ e))

module _ (ws : List ℕ) (width size : ℕ) where
  field_laid : (used p : ℕ) → field_check ws width size used p ≡ fine
      → Laid ws p (p + 1) (lawful_field width size used (field_at ws p)) (field_head (field_at ws p) ∷ [])
  unfolding field_check field_word spare_clear form_fits field_rule field_bits lawful_form lawful_field field_head
  field_laid used p e =
      let (fits, t) = needs _ _ e in
      let (kind, u) = needs _ _ (then_l _ _ t) in
      let (spare, v) = needs _ _ u in
      let (some, w) = needs _ _ (then_r _ _ t) in
      let (low, x) = needs _ _ w in
      let (below, y) = needs _ _ x in
      led (leb-true _ _ fits) (λ s. omega (arith, eqb-true, cut (word ws p) (s p), form_cut (word ws p)))
      (ended (and_i (and_i spare (need_true _ _ _ v)) (and_i some (and_i low (and_i below (need_true _ _ _ y))))) refl)

  fields_laid : (e used n p q : ℕ) → p + n ≡ q → fields_check ws e width size used n p ≡ fine
      → Laid ws p q (lawful_fields width size used (fields_at ws n p)) (fields_words (fields_at ws n p))
  unfolding fields_check fields_at field_bits lawful_fields all_words
  fields_laid e used zero p q h t = ended (need_true _ _ _ t) (omega arith)
  fields_laid e used (suc n) p q h t = both (field_laid used p (then_l _ _ t)) (fields_laid e (bit_or used (field_bits (word ws p))) n (p + 1) q (omega arith) (then_r _ _ t))

module _ (ws : List ℕ) (width : ℕ) where
  head_laid : (p : ℕ) → head_check ws width p ≡ fine → (p + 1 ≤ length ws) × (lawful_head width (entry_at ws p) ≡ true) × (Small ws → word ws p ≡ entry_head (entry_at ws p))
  unfolding head_check lawful_head entry_head
  head_laid p e =
      let fields = length_fields ws (fields_of (word ws p)) (fields_place ws p) in
      let conditions = length_conditions ws (conditions_of (word ws p)) (conditions_place ws p) in
      let (fits, t) = needs _ _ e in
      let (kind, u) = needs _ _ t in
      let (some, v) = needs _ _ u in
      let (below, w) = needs _ _ v in
      let (few, x) = needs _ _ w in (
        leb-true _ _ fits,
        and_i (lt-ltb _ _ (part_lt (word ws p) 16 12)) (and_i some (and_i below (and_i (rw fields few) (rw conditions (need_true _ _ _ x))))),
        λ s. omega (arith, eqb-true, cut (word ws p) (s p), low_cut (word ws p)),
      )

  cycles_laid : (p : ℕ) → cycles_check ws p ≡ fine
      → Laid ws (cycles_place ws p) (fields_place ws p) (lawful_cycles (kind_of (word ws 0)) (entry_at ws p)) (cycles_words (kind_of (word ws 0)) (entry_at ws p))
  unfolding cycles_check has_cycles fields_place cycles_at lawful_cycles cycles_words
  cycles_laid p e =
      cases (eqb (kind_of (word ws 0)) 6)
      (λ t. let (fits, u) = needs _ _ (rw t at e) in rw t (led (leb-true _ _ fits) (λ s. refl) (ended (need_true _ _ _ u) (omega arith))))
      (λ t. rw t (ended refl refl))

  pub entry_laid : (p : ℕ) → entry_check ws width p ≡ fine
      → Laid ws p (entry_end ws p) (lawful (kind_of (word ws 0)) width (entry_at ws p)) (entry_words (kind_of (word ws 0)) (entry_at ws p))
  unfolding entry_check lawful entry_words
  entry_laid p e =
      let h = head_laid p (then_l _ _ e) in
      let t = then_r _ _ e in
      let c = then_r _ _ t in
      let u = then_r _ _ c in
      led h.0 h.2 (also h.1
      (both (pattern_laid ws _ (opcode_place ws p) (p + 3) (omega arith) (then_l _ _ t))
      (both (cycles_laid p (then_l _ _ c))
      (both (fields_laid ws width _ p _ _ (fields_place ws p) (conditions_place ws p) refl (then_l _ _ u))
      (conditions_laid ws _ _ (conditions_place ws p) (then_r _ _ u))))))

  -- up to the last word
  pub entries_laid : (n p : ℕ) → entries_check ws width n p ≡ fine
      → (q : ℕ) × (length ws ≤ q) × Laid ws p q (all_of (lawful (kind_of (word ws 0)) width) (entries_at ws n p)) (entries_words (kind_of (word ws 0)) (entries_at ws n p))
  unfolding entries_check entries_at all_of all_words
  entries_laid zero p e = (p, leb-true _ _ (need_true _ _ _ e), ended refl refl)
  entries_laid (suc n) p e = let r = entries_laid n (entry_end ws p) (then_r _ _ e) in (r.0, r.1, both (entry_laid p (then_l _ _ e)) r.2)

pub first_laid : (ws : List ℕ) (n : ℕ) → first_check ws ≡ fine → n ≡ count_of (word ws 0) → Small ws → word ws 0 ≡ table_head (kind_of (word ws 0)) (width_of (word ws 0)) n
unfolding first_check table_head
first_laid ws n f c s =
    let (some, t) = needs _ _ f in
    let (short, u) = needs _ _ t in
    let (kind, v) = needs _ _ u in
    let (spare, w) = needs _ _ v in
    omega (arith, eqb-true, cut (word ws 0) (s 0))
