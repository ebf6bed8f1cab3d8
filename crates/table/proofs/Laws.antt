-- Laws of the reader's definitions: how a check computes, loops over items, what a check without fault shows. Assumes nothing.
use mathlib.Core.Path.{◌≡◌, refl, sym, ap, ◌∙◌}
use mathlib.Core.List.{List}
use mathlib.Core.Bool.{Bool, true, false, cond}
use Prim.Native.Nat.{ℕ, zero, suc, ◌+◌, ◌-◌, ◌*◌, ◌≤◌, ◌<◌}
use native.Mathlib.Nat.{eq-or-lt_of_le}
use mathlib.Core.Logic.{⊎_elim}
use native.Mathlib.Numerals.{add-one}
use native.Mathlib.Omega.{arith}
use lib.Bits.{bit_and, bit_or}
use lib.Dec.{eqb, leb, ltb}
use lib.ListN.{length, get_or, set}
use lib.Seq.{get_or-set_same, get_or-set_other}
use borrow.Author.Tests.{eqb-true, eqb-false, ltb-true, ltb-false, leb-true, le-leb, lt-ltb, le-ltb}
use Rattle.words.specs.Words.{word, part}
use Rattle.words.specs.Tests.{◌and◌, ◌or◌}
use Rattle.words.proofs.Logic.{cases}
use Rattle.words.specs.Outcome.{result, faulty}
use Rattle.table.specs.Table.{kind_of, field_low, field_width, field_bits, form_of, fraction_of, own_bits, size_of, fields_at, unmatching_at, conditions_at, condition_end, conditions_end, has_cycles, fields_place, entry_end, entry_place, entries_at, count_of, width_of}
use Rattle.table.specs.Check.{Check, fine, fault, ◌then◌, need, has, pattern_check, unmatching_check, unmatchings_check, condition_check, conditions_check, spare_clear, form_fits, field_word, field_rule, field_check, fields_check, head_check, cycles_check, entry_check, entries_check, first_check, table_check, read_table}
use Rattle.std.specs.Prelude.{Result, Ok, Err, IsErrAnd}
use Rattle.words.specs.Outcome.{number_of}
use Rattle.table.specs.declared.reading.Flaw.{Flaw}
use Rattle.table.specs.Answer.{checked, fault_number, shape_of, place_of, Placed}

-- a check that a function passes on, by `?`, says the same of its own answer
pub passed_on : {A : Type 0} (r : Result A Flaw) (e : Flaw) → IsErrAnd r (λ y. y ≡ e) → checked r ≡ fault (number_of e.fault) e.place
passed_on (Ok a) e h = absurd h
passed_on (Err y) e h = rw h

-- ---- how a check computes, for `simp`: `simp (tests, checks)` at a return of a check
pub need_yes : (n p : ℕ) → need true n p ≡ fine
unfolding need
need_yes n p = refl

pub need_no : (n p : ℕ) → need false n p ≡ fault n p
unfolding need
need_no n p = refl

pub fine_then : (v : Check) → fine then v ≡ v
unfolding ◌then◌
fine_then v = refl

pub fault_then : (n p : ℕ) (v : Check) → fault n p then v ≡ fault n p
unfolding ◌then◌
fault_then n p v = refl

pub number_of_fine : fault_number fine ≡ 0
unfolding fault_number
number_of_fine = refl

pub number_of_fault : (n p : ℕ) → fault_number (fault n p) ≡ n
unfolding fault_number
number_of_fault n p = refl

pub ruleset checks = (need_yes, need_no, fine_then, fault_then, number_of_fine, number_of_fault)

-- a check that begins with one that was passed, or with one that was not
pub goes_on : (v w x : Check) → fine ≡ v → x ≡ w → x ≡ v then w
goes_on v w x e h = rw (← e, fine_then) h

pub stops : (v w : Check) (a b : ℕ) → fault a b ≡ v → fault a b ≡ v then w
stops v w a b e = rw (← e, fault_then)

pub then_l : (a b : Check) → a then b ≡ fine → a ≡ fine
unfolding ◌then◌
then_l fine b e = refl
then_l (fault n p) b e = e

pub then_r : (a b : Check) → a then b ≡ fine → b ≡ fine
unfolding ◌then◌
then_r fine b e = e
then_r (fault n p) b e = absurd (let z : ◌≡◌ {A = ℕ} 0 1 = cc in omega arith)

pub need_true : (b : Bool) (n p : ℕ) → need b n p ≡ fine → b ≡ true
unfolding need
need_true true n p e = refl
need_true false n p e = absurd (let z : ◌≡◌ {A = ℕ} 0 1 = cc in omega arith)

pub has_fits : (ws : List ℕ) (p n : ℕ) → has ws p n ≡ fine → p + n ≤ length ws
has_fits ws p n e = leb-true _ _ (need_true _ _ _ e)

-- a pattern without fault stands in the table
pub pattern_fits : (ws : List ℕ) (own p : ℕ) → pattern_check ws own p ≡ fine → p + 2 ≤ length ws
unfolding pattern_check
pattern_fits ws own p e = has_fits ws p 2 (then_l _ _ e)

pub unmatching_fits : (ws : List ℕ) (own p : ℕ) → unmatching_check ws own p ≡ fine → p + 3 ≤ length ws
unfolding unmatching_check
unmatching_fits ws own p e = omega (arith, pattern_fits ws own (p + 1) (then_r _ _ (then_r _ _ (then_r _ _ e))))

-- A loop over n items from place p on. One item: its check f and the place after it; all: their check F. Where item p is without fault,
-- what is left is the rest from the place after it on; where it has a fault, that is the fault of all.
module _ (f : ℕ → Check) (after : ℕ → ℕ) (F : ℕ → ℕ → Check) (F-suc : (n p : ℕ) → F (suc n) p ≡ f p then F n (after p)) where
  pub loop_on : (n i p : ℕ) → i < n → fine ≡ f p → F (n - i) p ≡ F (n - (i + 1)) (after p)
  loop_on n i p h e =
      let g : n - i ≡ suc (n - (i + 1)) = omega arith in
      rw (g, F-suc, ← e, fine_then)

  pub loop_stop : (n i p a b : ℕ) → i < n → fault a b ≡ f p → F (n - i) p ≡ fault a b
  loop_stop n i p a b h e =
      let g : n - i ≡ suc (n - (i + 1)) = omega arith in
      rw (g, F-suc, ← e, fault_then)

-- none is left
none_left : {n i : ℕ} → n ≤ i → n - i ≡ 0
none_left h = omega arith

module _ (ws : List ℕ) (own : ℕ) where
  unmatchings_suc : (n p : ℕ) → unmatchings_check ws own (suc n) p ≡ unmatching_check ws own p then unmatchings_check ws own n (p + 3)
  unfolding unmatchings_check
  unmatchings_suc n p = refl

  pub unmatchings_on : (n i p : ℕ) → i < n → fine ≡ unmatching_check ws own p → unmatchings_check ws own (n - i) p ≡ unmatchings_check ws own (n - (i + 1)) (p + 3)
  unmatchings_on = loop_on (unmatching_check ws own) (λ p. p + 3) (unmatchings_check ws own) unmatchings_suc

  pub unmatchings_stop : (n i p a b : ℕ) → i < n → fault a b ≡ unmatching_check ws own p → unmatchings_check ws own (n - i) p ≡ fault a b
  unmatchings_stop = loop_stop (unmatching_check ws own) (λ p. p + 3) (unmatchings_check ws own) unmatchings_suc

  pub unmatchings_done : (n i p : ℕ) → n ≤ i → unmatchings_check ws own (n - i) p ≡ fine
  unfolding unmatchings_check
  unmatchings_done n i p h = rw (none_left h)

module _ (ws : List ℕ) where
  -- one condition further on
  pub ends_on : (n i p : ℕ) → i < n → conditions_end ws (n - i) p ≡ conditions_end ws (n - (i + 1)) (condition_end ws p)
  unfolding conditions_end
  ends_on n i p h = let g : n - i ≡ suc (n - (i + 1)) = omega arith in rw g

  pub ends_done : (n i p : ℕ) → n ≤ i → conditions_end ws (n - i) p ≡ p
  unfolding conditions_end
  ends_done n i p h = rw (none_left h)

module _ (ws : List ℕ) (own : ℕ) where
  conditions_suc : (n p : ℕ) → conditions_check ws own (suc n) p ≡ condition_check ws own p then conditions_check ws own n (condition_end ws p)
  unfolding conditions_check
  conditions_suc n p = refl

  pub conditions_on : (n i p : ℕ) → i < n → fine ≡ condition_check ws own p → conditions_check ws own (n - i) p ≡ conditions_check ws own (n - (i + 1)) (condition_end ws p)
  conditions_on = loop_on (condition_check ws own) (condition_end ws) (conditions_check ws own) conditions_suc

  pub conditions_stop : (n i p a b : ℕ) → i < n → fault a b ≡ condition_check ws own p → conditions_check ws own (n - i) p ≡ fault a b
  conditions_stop = loop_stop (condition_check ws own) (condition_end ws) (conditions_check ws own) conditions_suc

  pub conditions_done : (n i p : ℕ) → n ≤ i → conditions_check ws own (n - i) p ≡ fine
  unfolding conditions_check
  conditions_done n i p h = rw (none_left h)

  -- where all unmatching patterns are without fault, they stand in the table
  pub unmatchings_fit : (n p : ℕ) → p ≤ length ws → unmatchings_check ws own n p ≡ fine → p + 3 * n ≤ length ws
  unfolding unmatchings_check
  unmatchings_fit zero p h e = omega arith
  unmatchings_fit (suc n) p h e =
      omega (arith, unmatchings_fit n (p + 3) (unmatching_fits ws own p (then_l _ _ e)) (then_r _ _ e))

  pub condition_fits : (p : ℕ) → condition_check ws own p ≡ fine → condition_end ws p ≤ length ws
  unfolding condition_check
  condition_fits p e =
      let t = then_r _ _ (then_r _ _ (then_r _ _ (then_r _ _ e))) in
      unmatchings_fit _ (p + 3) (omega (arith, pattern_fits ws own (p + 1) (then_l _ _ t))) (then_r _ _ t)

-- ---- fields

-- a word's fault, wherever it stands: three tests, and a number for each
module _ (a b d : ℕ) where
  three_stop : (k s f : Bool) (p : ℕ) → (fault_number (need k a 0 then need s b 0 then need f d 0) ≡ 0 → ⊥)
      → (need k a p then need s b p then need f d p) ≡ fault (fault_number (need k a 0 then need s b 0 then need f d 0)) p
  unfolding fault_number need ◌then◌
  three_stop false s f p h = refl
  three_stop true false f p h = refl
  three_stop true true false p h = refl
  three_stop true true true p h = absurd (h refl)

  three_pass : 0 < a → 0 < b → 0 < d → (k s f : Bool) (p q : ℕ) → fault_number (need k a q then need s b q then need f d q) ≡ 0
      → (need k a p then need s b p then need f d p) ≡ fine
  unfolding fault_number need ◌then◌
  three_pass x y z false s f p q h = absurd (omega (arith, h))
  three_pass x y z true false f p q h = absurd (omega (arith, h))
  three_pass x y z true true false p q h = absurd (omega (arith, h))
  three_pass x y z true true true p q h = refl

module _ (w p : ℕ) where
  pub word_stops : (fault_number (field_word w 0) ≡ 0 → ⊥) → field_word w p ≡ fault (fault_number (field_word w 0)) p
  unfolding field_word
  word_stops = three_stop _ _ _ (eqb (kind_of w) 3) (spare_clear w) (form_fits w) p

  pub word_passes : (q : ℕ) → fault_number (field_word w q) ≡ 0 → field_word w p ≡ fine
  unfolding field_word
  word_passes q = three_pass _ _ _ (omega arith) (omega arith) (omega arith) (eqb (kind_of w) 3) (spare_clear w) (form_fits w) p q

-- a plain word has none
plain_parts : (w : ℕ) → part w 16 16 ≡ 0x3000 → (kind_of w ≡ 3) × (form_of w ≡ 0) × (fraction_of w ≡ 0)
unfolding part
plain_parts w e = (omega (arith, e), omega (arith, e), omega (arith, e))

pub word_plain : (w : ℕ) → part w 16 16 ≡ 0x3000 → field_word w 0 ≡ fine
unfolding field_word spare_clear form_fits ◌and◌ ◌or◌
word_plain w e = let p = plain_parts w e in
    simp (p.0, p.1, p.2, le-leb 0 (field_width w) (omega arith), checks)

-- the bits of a field without fault are some, and below the width
module _ (width size used w p : ℕ) where
  pub rule_some : field_rule width size used w p ≡ fine → 0 < field_width w
  unfolding field_rule
  rule_some e = leb-true _ _ (need_true _ _ _ (then_l _ _ e))

  pub rule_below : field_rule width size used w p ≡ fine → field_low w + field_width w ≤ width
  unfolding field_rule
  rule_below e = leb-true _ _ (need_true _ _ _ (then_l _ _ (then_r _ _ (then_r _ _ e))))

module _ (ws : List ℕ) (width size used p : ℕ) where
  -- a field without fault stands in the table, and its bits are some, below the width
  pub field_fits : field_check ws width size used p ≡ fine → p + 1 ≤ length ws
  unfolding field_check
  field_fits e = has_fits ws p 1 (then_l _ _ e)

  field_rule_lem : field_check ws width size used p ≡ fine → field_rule width size used (word ws p) p ≡ fine
  unfolding field_check
  field_rule_lem e = then_r _ _ (then_r _ _ e)

  -- its word has no fault by itself
  pub field_word_lem : field_check ws width size used p ≡ fine → field_word (word ws p) 0 ≡ fine
  unfolding field_check
  field_word_lem e = word_passes (word ws p) 0 p (ap fault_number (then_l _ _ (then_r _ _ e)) ∙ number_of_fine)

  pub field_some : field_check ws width size used p ≡ fine → 0 < field_width (word ws p)
  field_some e = rule_some _ _ _ _ _ (field_rule_lem e)

  pub field_below : field_check ws width size used p ≡ fine → field_low (word ws p) + field_width (word ws p) ≤ width
  field_below e = rule_below _ _ _ _ _ (field_rule_lem e)

  -- none of them is used
  pub field_apart : field_check ws width size used p ≡ fine → bit_and used (field_bits (word ws p)) ≡ 0
  unfolding field_rule
  field_apart e = eqb-true _ _ (need_true _ _ _ (then_r _ _ (then_r _ _ (then_r _ _ (field_rule_lem e)))))

module _ (ws : List ℕ) (e width size : ℕ) where
  pub fields_on : (used n i p : ℕ) → i < n → fine ≡ field_check ws width size used p
      → fields_check ws e width size used (n - i) p ≡ fields_check ws e width size (bit_or used (field_bits (word ws p))) (n - (i + 1)) (p + 1)
  unfolding fields_check
  fields_on used n i p h t =
      let g : n - i ≡ suc (n - (i + 1)) = omega arith in
      rw (g, ← t, fine_then)

  pub fields_stop : (used n i p a b : ℕ) → i < n → fault a b ≡ field_check ws width size used p → fields_check ws e width size used (n - i) p ≡ fault a b
  unfolding fields_check
  fields_stop used n i p a b h t =
      let g : n - i ≡ suc (n - (i + 1)) = omega arith in
      rw (g, ← t, fault_then)

  pub fields_done : (used n i p : ℕ) → n ≤ i → fields_check ws e width size used (n - i) p ≡ need (eqb used (own_bits width size)) 4 e
  unfolding fields_check
  fields_done used n i p h = rw (none_left h)

  pub fields_fit : (used n p : ℕ) → p ≤ length ws → fields_check ws e width size used n p ≡ fine → p + n ≤ length ws
  unfolding fields_check
  fields_fit used zero p h t = omega arith
  fields_fit used (suc n) p h t =
      omega (arith, fields_fit (bit_or used (field_bits (word ws p))) n (p + 1) (field_fits ws width size used p (then_l _ _ t)) (then_r _ _ t))

pub conditions_fit : (ws : List ℕ) (own n p : ℕ) → p ≤ length ws → conditions_check ws own n p ≡ fine → conditions_end ws n p ≤ length ws
unfolding conditions_check conditions_end
conditions_fit ws own zero p h t = h
conditions_fit ws own (suc n) p h t = conditions_fit ws own n (condition_end ws p) (condition_fits ws own p (then_l _ _ t)) (then_r _ _ t)

-- ---- an entry

-- its cycles, without fault, stand in the table, if its value word does
pub cycles_fit : (ws : List ℕ) (p : ℕ) → p + 3 ≤ length ws → cycles_check ws p ≡ fine → fields_place ws p ≤ length ws
unfolding fields_place cycles_check
cycles_fit ws p h e =
    cases (has_cycles ws)
    (λ t. rw t (omega (arith, has_fits ws (p + 3) 1 (then_l _ _ (rw t at e)))))
    (λ t. rw t h)

module _ (ws : List ℕ) (width p : ℕ) where
  pub head_fits : head_check ws width p ≡ fine → p + 1 ≤ length ws
  unfolding head_check
  head_fits e = has_fits ws p 1 (then_l _ _ e)

  pub head_some : head_check ws width p ≡ fine → 1 ≤ size_of (word ws p)
  unfolding head_check
  head_some e = leb-true _ _ (need_true _ _ _ (then_l _ _ (then_r _ _ (then_r _ _ e))))

  pub head_below : head_check ws width p ≡ fine → size_of (word ws p) ≤ width
  unfolding head_check
  head_below e = leb-true _ _ (need_true _ _ _ (then_l _ _ (then_r _ _ (then_r _ _ (then_r _ _ e)))))

  pub entry_fits : entry_check ws width p ≡ fine → entry_end ws p ≤ length ws
  unfolding entry_check
  entry_fits e =
      let t = then_r _ _ e in
      let u = then_r _ _ t in
      let v = then_r _ _ u in
      let f = cycles_fit ws p (omega (arith, pattern_fits ws _ (p + 1) (then_l _ _ t))) (then_l _ _ u) in
      conditions_fit ws _ _ _ (fields_fit ws p width (size_of (word ws p)) (word ws (p + 1)) _ (fields_place ws p) f (then_l _ _ v)) (then_r _ _ v)

-- ---- all entries
module _ (ws : List ℕ) (width : ℕ) where
  entries_suc : (n p : ℕ) → entries_check ws width (suc n) p ≡ entry_check ws width p then entries_check ws width n (entry_end ws p)
  unfolding entries_check
  entries_suc n p = refl

  pub entries_on : (n i p : ℕ) → i < n → fine ≡ entry_check ws width p → entries_check ws width (n - i) p ≡ entries_check ws width (n - (i + 1)) (entry_end ws p)
  entries_on = loop_on (entry_check ws width) (entry_end ws) (entries_check ws width) entries_suc

  pub entries_stop : (n i p a b : ℕ) → i < n → fault a b ≡ entry_check ws width p → entries_check ws width (n - i) p ≡ fault a b
  entries_stop = loop_stop (entry_check ws width) (entry_end ws) (entries_check ws width) entries_suc

  -- after the last entry: words left over, or the end
  pub entries_done : (n i p : ℕ) → n ≤ i → entries_check ws width (n - i) p ≡ need (leb (length ws) p) 2 p
  unfolding entries_check
  entries_done n i p h = rw (none_left h)

-- the place of the next entry
pub place_next : (ws : List ℕ) (k p q : ℕ) → p ≡ entry_place ws k → q ≡ entry_end ws p → q ≡ entry_place ws (k + 1)
unfolding entry_place
place_next ws k p q h e = rw (add-one k, e, ← h)

-- no place stored, one more place stored
pub places_none : (ws l : List ℕ) → ((j : ℕ) → get_or l j 0 ≡ 0) → Placed ws 0 l
places_none ws l f j = f j ∙ rw (le-ltb j 0 (omega arith))

pub places_more : (ws l : List ℕ) (k p : ℕ) → p ≡ entry_place ws k → Placed ws k l → k < length l → Placed ws (k + 1) (set l k p)
places_more ws l k p e f h j =
    cases (eqb j k)
    (λ t. let q : j ≡ k = eqb-true _ _ t in rw (q, lt-ltb k (k + 1) (omega arith)) (get_or-set_same l k p 0 h ∙ e))
    (λ t. let q = eqb-false _ _ t in get_or-set_other l k j p 0 q ∙ f j ∙ ap (λ (b : Bool). cond b (entry_place ws j) 0) (below_other j k q))
  where
    below_other : (j k : ℕ) → (j ≡ k → ⊥) → ltb j k ≡ ltb j (k + 1)
    below_other j k q =
        cases (ltb j k)
        (λ t. let g : j < k = ltb-true _ _ t in t ∙ sym (lt-ltb j (k + 1) (omega arith)))
        (λ t. let g : k ≤ j = ltb-false _ _ t in t ∙ sym (le-ltb j (k + 1) (⊎_elim (λ z. absurd (q (sym z))) (λ (l : k < j). omega arith) (eq-or-lt_of_le g))))

-- all n places stored
pub placed_all : (ws l : List ℕ) (k n : ℕ) → k ≤ n → n ≤ k → Placed ws k l → Placed ws n l
placed_all ws l k n h g f = let e : k ≡ n = omega arith in rw e at f

-- ---- the whole table

module _ (ws : List ℕ) where
  pub first_some : first_check ws ≡ fine → 1 ≤ length ws
  unfolding first_check
  first_some e = leb-true _ _ (need_true _ _ _ (then_l _ _ e))

  pub first_short : first_check ws ≡ fine → length ws ≤ 16384
  unfolding first_check
  first_short e = leb-true _ _ (need_true _ _ _ (then_l _ _ (then_r _ _ e)))

  pub first_count : first_check ws ≡ fine → count_of (word ws 0) ≤ 256
  unfolding first_check
  first_count e = leb-true _ _ (need_true _ _ _ (then_l _ _ (then_r _ _ (then_r _ _ (then_r _ _ (then_r _ _ e))))))

  pub first_wide : first_check ws ≡ fine → 1 ≤ width_of (word ws 0)
  unfolding first_check
  first_wide e = leb-true _ _ (need_true _ _ _ (then_l _ _ (then_r _ _ (then_r _ _ (then_r _ _ (then_r _ _ (then_r _ _ e)))))))

  pub first_width : first_check ws ≡ fine → width_of (word ws 0) ≤ 32
  unfolding first_check
  first_width e = leb-true _ _ (need_true _ _ _ (then_r _ _ (then_r _ _ (then_r _ _ (then_r _ _ (then_r _ _ (then_r _ _ e)))))))

  pub table_first : (a b : ℕ) → first_check ws ≡ fault a b → table_check ws ≡ fault a b
  unfolding table_check
  table_first a b e = rw (e, fault_then)

  -- width and count as the code has them
  pub table_rest : (width n : ℕ) → first_check ws ≡ fine → width ≡ width_of (word ws 0) → n ≡ count_of (word ws 0) → table_check ws ≡ entries_check ws width n 1
  unfolding table_check
  table_rest width n e w c = rw (e, fine_then, w, c)

  pub length_entries : (n p : ℕ) → length (entries_at ws n p) ≡ n
  unfolding entries_at
  length_entries zero p = refl
  length_entries (suc n) p = ap suc (length_entries n (entry_end ws p))

  pub length_fields : (n p : ℕ) → length (fields_at ws n p) ≡ n
  unfolding fields_at
  length_fields zero p = refl
  length_fields (suc n) p = ap suc (length_fields n (p + 1))

  pub length_unmatching : (n p : ℕ) → length (unmatching_at ws n p) ≡ n
  unfolding unmatching_at
  length_unmatching zero p = refl
  length_unmatching (suc n) p = ap suc (length_unmatching n (p + 3))

  pub length_conditions : (n p : ℕ) → length (conditions_at ws n p) ≡ n
  unfolding conditions_at
  length_conditions zero p = refl
  length_conditions (suc n) p = ap suc (length_conditions n (condition_end ws p))

  -- a refused table
  module _ (a b : ℕ) (e : table_check ws ≡ fault a b) where
    pub refuses : faulty a b ≡ shape_of (read_table ws)
    refuses = rw e

    pub refuses_places : (k : ℕ) → 0 ≡ place_of (read_table ws) ws k
    refuses_places k = rw e

  -- a table without fault
  module _ (e : table_check ws ≡ fine) where
    pub accepts : (width n : ℕ) → width ≡ width_of (word ws 0) → n ≡ count_of (word ws 0)
        → result (record { width = width; entries = n }) ≡ shape_of (read_table ws)
    accepts width n w c = rw (e, w, c, length_entries (count_of (word ws 0)) 1)

    pub accepts_places : (n : ℕ) → n ≡ count_of (word ws 0) → (k : ℕ) → cond (ltb k n) (entry_place ws k) 0 ≡ place_of (read_table ws) ws k
    accepts_places n c k = rw (e, c, length_entries (count_of (word ws 0)) 1)
