-- A cell against the words in it, and the unfixed bit of what is open.
use Prim.Native.Nat.{ℕ, zero, suc, ◌<◌, ◌^◌}
use native.Mathlib.Omega.{arith}
use mathlib.Core.Path.{◌≡◌, refl, sym, ap, ap₂, ◌∙◌, subst}
use mathlib.Core.Logic.{◌⊎◌, inl, inr}
use mathlib.Core.Bool.{Bool, true, false, not, cond, true≢false}
use mathlib.Core.List.{List, [], ◌∷◌}
use lib.Bits.{bit_and, bit_or, and_comm, and_self, or_zero_r}
use lib.Dec.{eqb}
use lib.ListN.{length, get_or}
use native.Mathlib.Nat.{not-suc-le-zero, le_of_suc-le-suc, le_trans, le_refl, zero-lt-suc}
use borrow.Author.Tests.{ltb-true, eqb-true, eqb-false, eq-eqb, ne_eqb}
use Rattle.words.specs.Tests.{◌and◌, all_of, any_of, exists, best}
use Rattle.words.specs.Words.{bit, includes}
use Rattle.table.specs.Lawful.{good_pattern, good_condition, good_entry, good_table}
use Rattle.table.specs.Table.{Pattern, Condition, Entry, entry_number}
use Rattle.choice.specs.Rule.{Choice, names, nothing, ambiguous, matches, judge}
use Rattle.selection.specs.Selection.{satisfied, claims}
use Rattle.cell.specs.Cell.{Cell, zero_side, one_side, implies, clashes, holds, fails, open_condition, dead, live, sure, open_entry}
use Rattle.cell.specs.Step.{end, split, step_of, free, votes_at, in_condition, in_open, wanted_at, tested_at, settled_at, step_at, step}
use Rattle.words.proofs.Bits.{and_assoc, and_or, and_pow, missing, set_own, set_other}
use Rattle.words.proofs.Logic.{cases, clash, is_false, and_l, and_r, and_i, and_e, or_l, or_r, or_il, or_ir, or_e, not_t, not_f, not_it, not_if, any_of_map, all_of_none, exists_at, exists_make, how_many_pos, best_max, best_lt, how_many_less}

-- the word is in the cell
abbrev pub In : Cell → ℕ → Type 0
In c w = bit_and w c.fixed ≡ c.bits

-- a AND (b AND c), where b or c holds it already
and_twice : (a b : ℕ) → bit_and a (bit_and a b) ≡ bit_and a b
and_twice a b = sym (and_assoc a a b) ∙ ap (λ (x : ℕ). bit_and x b) (and_self a)

module _ (c : Cell) (w : ℕ) (h : In c w) where
  pub implies_matches : (p : Pattern) → implies c p ≡ true → matches w p ≡ true
  unfolding implies matches includes
  implies_matches p e =
      eq-eqb _ _ (ap (bit_and w) (sym (eqb-true _ _ (and_l _ e))) ∙ sym (and_assoc w c.fixed p.mask) ∙ ap (λ (x : ℕ). bit_and x p.mask) h ∙ eqb-true _ _ (and_r _ e))

  pub clashes_not : (p : Pattern) → clashes c p ≡ true → matches w p ≡ false
  unfolding clashes matches
  clashes_not p e = is_false (λ t.
      let common : ℕ = bit_and c.fixed p.mask in
      let m : bit_and w p.mask ≡ p.value = eqb-true _ _ t in
      let l : bit_and c.bits common ≡ bit_and w common
      = ap (λ (x : ℕ). bit_and x common) (sym h) ∙ and_assoc w c.fixed common ∙ ap (bit_and w) (and_twice c.fixed p.mask) in
      let r : bit_and p.value common ≡ bit_and w common
      = ap (λ (x : ℕ). bit_and x common) (sym m) ∙ and_assoc w p.mask common
      ∙ ap (bit_and w) (ap (bit_and p.mask) (and_comm c.fixed p.mask) ∙ and_twice p.mask c.fixed ∙ and_comm p.mask c.fixed) in
      eqb-false _ _ (not_t e) (l ∙ sym r))

  pub holds_satisfied : (k : Condition) → holds c k ≡ true → satisfied w k ≡ true
  unfolding holds satisfied
  holds_satisfied k e =
      and_i (implies_matches k.matching (and_l _ e)) (not_it (all_of_none (clashes c) (matches w) k.unmatching clashes_not (and_r _ e)))

  pub fails_not : (k : Condition) → fails c k ≡ true → satisfied w k ≡ false
  unfolding fails satisfied
  fails_not k e = is_false (λ t.
      clash (any_of_map (implies c) (matches w) k.unmatching implies_matches
      (or_e e (is_false (λ d. clash (and_l _ t) (clashes_not k.matching d)))))
      (not_t (and_r _ t)))

  pub dead_not : (e : Entry) → dead c e ≡ true → claims w e ≡ false
  unfolding dead claims
  dead_not e d = is_false (λ t.
      clash (any_of_map (holds c) (satisfied w) e.conditions holds_satisfied
      (or_e d (is_false (λ k. clash (and_l _ t) (clashes_not e.opcode k)))))
      (not_t (and_r _ t)))

  pub sure_claims : (e : Entry) → sure c e ≡ true → claims w e ≡ true
  unfolding sure claims
  sure_claims e s =
      and_i (implies_matches e.opcode (and_l _ (and_r _ s)))
      (not_it (all_of_none (fails c) (satisfied w) e.conditions fails_not (and_r _ (and_r _ s))))

  pub claims_live : (e : Entry) → claims w e ≡ true → live c e ≡ true
  unfolding live
  claims_live e t = not_it (is_false (λ d. clash t (dead_not e d)))

-- live and not open: sure
pub closed_sure : (c : Cell) (e : Entry) → open_entry c e ≡ false → live c e ≡ true → sure c e ≡ true
unfolding open_entry sure
closed_sure c e o l = and_i l (not_f (and_e o l))

-- ---- what is open has an unfixed bit

module _ (width : ℕ) (c : Cell) where
  -- a pattern that is neither implied nor clashes
  unfoldable pub Unfixed : (ℕ → Bool) → Type 0
  Unfixed has = (i : ℕ) × (i < width) × (has i ≡ true) × (bit c.fixed i ≡ false)

  unsettled : (p : Pattern) → good_pattern width p ≡ true → implies c p ≡ false → clashes c p ≡ false → Unfixed (λ i. bit p.mask i)
  unfolding good_pattern implies clashes matches includes Unfixed
  unsettled p g a b =
      cases (eqb (bit_and c.fixed p.mask) p.mask)
      (λ t.
      let whole : bit_and c.fixed p.mask ≡ p.mask = eqb-true _ _ t in
      absurd (eqb-false (bit_and c.bits p.mask) p.value (and_e a t)
      (ap (bit_and c.bits) (sym whole) ∙ eqb-true _ _ (not_f b) ∙ ap (bit_and p.value) whole ∙ and_comm p.value p.mask ∙ eqb-true _ _ (and_r _ g))))
      (λ t. missing width c.fixed p.mask (ltb-true _ _ (and_l _ g)) t)

  unsettled_in : (l : List Pattern) → all_of (good_pattern width) l ≡ true → any_of (implies c) l ≡ false → all_of (clashes c) l ≡ false
      → Unfixed (λ i. any_of (λ p. bit p.mask i) l)
  unfolding all_of any_of Unfixed
  unsettled_in [] g a b = absurd (true≢false b)
  unsettled_in (p ∷ l) g a b =
      cases (clashes c p)
      (λ t. let r = unsettled_in l (and_r _ g) (or_r _ a) (and_e b t) in (r.0, r.1, or_ir _ r.2, r.3))
      (λ t. let r = unsettled p (and_l _ g) (or_l _ a) t in (r.0, r.1, or_il _ r.2, r.3))

  open_condition_lem : (k : Condition) → good_condition width k ≡ true → open_condition c k ≡ true → Unfixed (λ i. in_condition i k)
  unfolding good_condition open_condition holds fails in_condition Unfixed
  open_condition_lem k g o =
      cases (implies c k.matching)
      (λ t. let r = unsettled_in k.unmatching (and_r _ g) (or_r _ (not_t (and_r _ o))) (and_e (not_t (and_l _ o)) t) in (r.0, r.1, or_ir _ r.2, r.3))
      (λ t. let r = unsettled k.matching (and_l _ g) t (or_l _ (not_t (and_r _ o))) in (r.0, r.1, or_il _ r.2, r.3))

  open_in : (l : List Condition) → all_of (good_condition width) l ≡ true → any_of (holds c) l ≡ false → all_of (fails c) l ≡ false
      → Unfixed (λ i. any_of (λ k. open_condition c k and in_condition i k) l)
  unfolding all_of any_of open_condition Unfixed
  open_in [] g a b = absurd (true≢false b)
  open_in (k ∷ l) g a b =
      cases (fails c k)
      (λ t. let r = open_in l (and_r _ g) (or_r _ a) (and_e b t) in (r.0, r.1, or_ir _ r.2, r.3))
      (λ t. let o : open_condition c k ≡ true = and_i (not_it (or_l _ a)) (not_it t) in
      let r = open_condition_lem k (and_l _ g) o in (r.0, r.1, or_il _ (and_i o r.2), r.3))

  pub open_entry_lem : (e : Entry) → good_entry width e ≡ true → open_entry c e ≡ true
      → Unfixed (λ i. bit e.opcode.mask i) ⊎ Unfixed (λ i. in_open c i e)
  unfolding good_entry open_entry live dead in_open Unfixed
  open_entry_lem e g o =
      cases (implies c e.opcode)
      (λ t. inr (open_in e.conditions (and_r _ g) (or_r _ (not_t (and_l _ o))) (and_e (not_t (and_r _ o)) t)))
      (λ t. inl (unsettled e.opcode (and_l _ g) t (or_l _ (not_t (and_l _ o)))))

-- ---- the tested bit is unfixed

abbrev votes : List Entry → Cell → ℕ → ℕ
votes es c i = votes_at (entry_number es) (λ j. open_entry c (entry_number es j)) (length es) c.fixed i

abbrev wanted : List Entry → Cell → ℕ → ℕ
wanted es c i = wanted_at (entry_number es) (λ j. open_entry c (entry_number es j)) (length es) c i

abbrev tested : List Entry → ℕ → Cell → ℕ
tested es width c = tested_at (entry_number es) (λ j. open_entry c (entry_number es j)) (length es) width c

all_at : {A : Type 0} (p : A → Bool) (l : List A) (d : A) → all_of p l ≡ true → (j : ℕ) → j < length l → p (get_or l j d) ≡ true
unfolding all_of
all_at p [] d e j h = absurd (not-suc-le-zero h)
all_at p (x ∷ xs) d e zero h = and_l _ e
all_at p (x ∷ xs) d e (suc j) h = all_at p xs d (and_r _ e) j (le_of_suc-le-suc h)

-- a weight that is 0 at a fixed bit
weight : (b : Bool) (x : ℕ) → 0 < cond b 0 x → b ≡ false
weight true x h = absurd (not-suc-le-zero h)
weight false x h = refl

pos_of_ne : {x : ℕ} → (x ≡ 0 → ⊥) → 0 < x
pos_of_ne {x = zero} h = absurd (h refl)
pos_of_ne {x = suc x} h = zero-lt-suc x

module _ (es : List Entry) (width : ℕ) (c : Cell) (g : good_table width es ≡ true) where
  pub good_at : (j : ℕ) → j < length es → good_entry width (entry_number es j) ≡ true
  unfolding good_table
  good_at j h = all_at (good_entry width) es _ g j h

  -- the greatest weight is at an unfixed bit, if some bit weighs
  heaviest : (v : ℕ → ℕ) → ((i : ℕ) → 0 < v i → bit c.fixed i ≡ false) → (i : ℕ) → i < width → 0 < v (best v width)
      → (best v width < width) × (bit c.fixed (best v width) ≡ false)
  heaviest v f i h k = (best_lt v width (omega arith), f (best v width) k)

  votes_unfixed : (i : ℕ) → 0 < votes es c i → bit c.fixed i ≡ false
  unfolding votes_at
  votes_unfixed i h = weight _ _ h

  wanted_unfixed : (i : ℕ) → 0 < wanted es c i → bit c.fixed i ≡ false
  unfolding wanted_at
  wanted_unfixed i h = weight _ _ h

  module _ (j : ℕ) (l : j < length es) (o : open_entry c (entry_number es j) ≡ true) where
    votes_pos : (i : ℕ) → bit (entry_number es j).opcode.mask i ≡ true → bit c.fixed i ≡ false → 0 < votes es c i
    unfolding votes_at
    votes_pos i b f = rw f (how_many_pos (λ k. open_entry c (entry_number es k) and bit (entry_number es k).opcode.mask i) (length es) j l (and_i o b))

    wanted_pos : (i : ℕ) → in_open c i (entry_number es j) ≡ true → bit c.fixed i ≡ false → 0 < wanted es c i
    unfolding wanted_at
    wanted_pos i b f = rw (f, exists_make (λ k. open_entry c (entry_number es k) and in_open c i (entry_number es k)) (length es) j l (and_i o b)) (le_refl 1)

    chosen : Unfixed width c (λ i. bit (entry_number es j).opcode.mask i) ⊎ Unfixed width c (λ i. in_open c i (entry_number es j))
        → (tested es width c < width) × (bit c.fixed (tested es width c) ≡ false)
    unfolding tested_at Unfixed
    chosen (inl u) =
        let h : 0 < votes es c (best (votes es c) width) = le_trans (votes_pos u.0 u.2 u.3) (best_max (votes es c) width u.0 u.1) in
        rw (ne_eqb (votes es c (best (votes es c) width)) 0 (λ z. omega arith)) (heaviest (votes es c) votes_unfixed u.0 u.1 h)
    chosen (inr u) =
        cases (eqb (votes es c (best (votes es c) width)) 0)
        (λ t. rw t (heaviest (wanted es c) wanted_unfixed u.0 u.1 (le_trans (wanted_pos u.0 u.2 u.3) (best_max (wanted es c) width u.0 u.1))))
        (λ t. rw t (heaviest (votes es c) votes_unfixed u.0 u.1 (pos_of_ne (eqb-false (votes es c (best (votes es c) width)) 0 t))))

  pub tested_unfixed : exists (λ j. open_entry c (entry_number es j)) (length es) ≡ true
      → (tested es width c < width) × (bit c.fixed (tested es width c) ≡ false)
  tested_unfixed o =
      let r = exists_at (λ j. open_entry c (entry_number es j)) (length es) o in
      chosen r.0 r.1 r.2 (open_entry_lem width c (entry_number es r.0) (good_at r.0 r.1) r.2)

-- a step that tests a bit: an entry is open, and it is that bit
step_split : (a : Choice) (o : Bool) (k i : ℕ) → step_of a o k ≡ split i → (o ≡ true) × (k ≡ i)
step_split (names e) o k i h = (cc, cc)
step_split nothing o k i h = (cc, cc)
step_split ambiguous true k i h = (refl, cc)
step_split ambiguous false k i h = (cc, cc)

ending : (b : Choice) (o : Bool) (k : ℕ) (a : Choice) → step_of b o k ≡ end a → (b ≡ a) × (b ≡ ambiguous → o ≡ false)
ending (names e) o k a h = (cc, λ z. cc)
ending nothing o k a h = (cc, λ z. cc)
ending ambiguous true k a h = (cc, λ z. cc)
ending ambiguous false k a h = (cc, λ z. refl)

-- a step that ends: with what is settled, and as ambiguous only where no entry is open
pub step_end : (es : List Entry) (width : ℕ) (c : Cell) (a : Choice) → step es width c ≡ end a
    → (judge es (sure c) (live c) ≡ a) × (judge es (sure c) (live c) ≡ ambiguous → exists (λ j. open_entry c (entry_number es j)) (length es) ≡ false)
unfolding step step_at settled_at judge
step_end es width c a e = ending (judge es (sure c) (live c)) (exists (λ j. open_entry c (entry_number es j)) (length es)) (tested es width c) a e

-- the bit that a step tests is below the width and unfixed
pub split_right : (es : List Entry) (width : ℕ) → good_table width es ≡ true → (c : Cell) (i : ℕ) → step es width c ≡ split i
    → (i < width) × (bit c.fixed i ≡ false)
unfolding step step_at settled_at judge
split_right es width good c i e =
    let r = step_split (judge es (sure c) (live c)) (exists (λ j. open_entry c (entry_number es j)) (length es)) (tested es width c) i e in
    subst (λ (k : ℕ). (k < width) × (bit c.fixed k ≡ false)) r.1 (tested_unfixed es width c good r.0)

-- ---- the two sides of a tested bit

module _ (c : Cell) (i : ℕ) where
  pub in_zero : (w : ℕ) → In c w → bit w i ≡ false → In (zero_side c i) w
  in_zero w h b = and_or w c.fixed (2 ^ i) ∙ ap₂ bit_or h (and_pow w i ∙ rw b) ∙ or_zero_r c.bits

  pub in_one : (w : ℕ) → In c w → bit w i ≡ true → In (one_side c i) w
  in_one w h b = and_or w c.fixed (2 ^ i) ∙ ap₂ bit_or h (and_pow w i ∙ rw b)

  pub free_less : (width : ℕ) → i < width → bit c.fixed i ≡ false → suc (free width (bit_or c.fixed (2 ^ i))) ≡ free width c.fixed
  unfolding free
  free_less width h b =
      how_many_less (λ j. not (bit c.fixed j)) (λ j. not (bit (bit_or c.fixed (2 ^ i)) j)) width i h (not_it b)
      (not_if (set_own c.fixed i))
      (λ j k. ap not (set_other c.fixed i j k))

  -- the number of unfixed bits falls with each tested bit
  pub fewer : (width fx : ℕ) → i < width → bit c.fixed i ≡ false → fx ≡ bit_or c.fixed (2 ^ i) → free width fx < free width c.fixed
  fewer width fx h b e = let z = free_less width h b in rw e (omega arith)
