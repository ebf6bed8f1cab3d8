-- When a field's word by itself is refused, by what is wrong with it. Assumes nothing.
use Prim.Native.Nat.{ℕ, ◌≤◌, ◌<◌}
use mathlib.Core.Bool.{Bool, true, false, true≢false, false≢true}
use mathlib.Core.Logic.{◌↔◌, ◌⊎◌, ⊎_elim, inl, inr}
use mathlib.Core.Path.{◌≡◌, refl, sym, ◌∙◌}
use native.Mathlib.Omega.{arith}
use lib.Dec.{eqb, leb}
use borrow.Author.Tests.{eqb-true, eqb-false, eq-eqb, ne_eqb, leb-true, leb-false}
use Rattle.words.specs.Outcome.{faulty, refused}
use Rattle.words.proofs.Logic.{cases, clash, is_true, is_false, and_l, and_r, and_i, or_i, or_l, or_r}
use Rattle.table.specs.Table.{kind_of, form_of, fraction_of, field_width}
use Rattle.table.specs.Check.{Check, fine, fault, field_word, spare_clear, form_fits}
use Rattle.table.proofs.Laws.{checks}
use Rattle.numbers.specs.Word.{word_check}
use Rattle.numbers.specs.Calls.{answer_of}
use Rattle.numbers.proofs.Judging.{width_some, width_most}

-- ---- what is wrong, in numbers

module _ (w : ℕ) where
  -- "bits 23–16 stay spare for all other forms"
  abbrev pub SpareSet : Type 0
  SpareSet = (form_of w ≡ 2 → ⊥) × (fraction_of w ≡ 0 → ⊥)

  pub spare_set : (spare_clear w ≡ false) ↔ SpareSet
  unfolding spare_clear
  spare_set = (
    λ e. (eqb-false _ _ (or_l _ e), eqb-false _ _ (or_r _ e)),
    λ s. or_i (ne_eqb _ _ s.0) (ne_eqb _ _ s.1),
  )

  -- "A form over 2, or fraction bits over 16 or over the field's width"
  abbrev pub FormFault : Type 0
  FormFault = (2 < form_of w) ⊎ ((16 < fraction_of w) ⊎ (field_width w < fraction_of w))

  pub form_fault : (form_fits w ≡ false) ↔ FormFault
  unfolding form_fits
  form_fault = (there, back)
    where
      there : form_fits w ≡ false → FormFault
      there e =
          cases (leb (form_of w) 2)
          (λ a. cases (leb (fraction_of w) 16) (λ b. cases (leb (fraction_of w) (field_width w)) (λ d. absurd (clash (and_i (and_i a b) d) e)) (λ d. inr (inr (leb-false _ _ d)))) (λ b. inr (inl (leb-false _ _ b))))
          (λ a. inl (leb-false _ _ a))

      back : FormFault → form_fits w ≡ false
      back h =
          is_false (λ t.
          let a : form_of w ≤ 2 = leb-true _ _ (and_l _ (and_l _ t)) in
          let b : fraction_of w ≤ 16 = leb-true _ _ (and_r _ (and_l _ t)) in
          let d : fraction_of w ≤ field_width w = leb-true _ _ (and_r _ t) in
          ⊎_elim (λ x. omega arith) (⊎_elim (λ x. omega arith) (λ x. omega arith)) h)

-- ---- a word's first fault

module _ (w : ℕ) where
  -- "a wrong kind or spare bit gives 2"
  abbrev pub Two : Type 0
  Two = (kind_of w ≡ 3 → ⊥) ⊎ SpareSet w

  -- "then a width outside 1–32 or a form fault as above 4"
  abbrev pub Four : Type 0
  Four = (kind_of w ≡ 3) × (SpareSet w → ⊥) × ((field_width w < 1) ⊎ ((32 < field_width w) ⊎ FormFault w))

  two_is : Two → word_check w ≡ fault 2 0
  unfolding word_check field_word
  two_is =
      ⊎_elim
      (λ k. simp (ne_eqb (kind_of w) 3 k, checks))
      (λ s. cases (eqb (kind_of w) 3) (λ k. simp (k, (spare_set w).1 s, checks)) (λ k. simp (k, checks)))

  four_is : Four → word_check w ≡ fault 4 0
  unfolding word_check field_word
  four_is f =
      let k = eq-eqb (kind_of w) 3 f.0 in
      let s : spare_clear w ≡ true = is_true (λ e. f.1 ((spare_set w).0 e)) in
      cases (form_fits w)
      (λ g. cases (leb 1 (field_width w)) (λ a. cases (leb (field_width w) 32) (λ b. absurd (none a b g f.2)) (λ b. simp (k, s, g, a, b, checks))) (λ a. simp (k, s, g, a, checks)))
      (λ g. simp (k, s, g, checks))
    where
      none : leb 1 (field_width w) ≡ true → leb (field_width w) 32 ≡ true → form_fits w ≡ true → (field_width w < 1) ⊎ ((32 < field_width w) ⊎ FormFault w) → ⊥
      none a b g =
          let some = leb-true 1 (field_width w) a in
          let most = leb-true (field_width w) 32 b in
          ⊎_elim (λ x. omega arith) (⊎_elim (λ x. omega arith) (λ x. false≢true (sym ((form_fault w).1 x) ∙ g)))

  -- one of the two, or none
  which : Two ⊎ (Four ⊎ (word_check w ≡ fine))
  unfolding word_check field_word
  which =
      cases (eqb (kind_of w) 3)
      (λ k. cases (spare_clear w)
      (λ s. cases (leb 1 (field_width w))
      (λ a. cases (leb (field_width w) 32)
      (λ b. cases (form_fits w) (λ g. inr (inr (simp (k, s, a, b, g, checks)))) (λ g. inr (inl (four k s (inr (inr ((form_fault w).0 g)))))))
      (λ b. inr (inl (four k s (inr (inl (leb-false _ _ b)))))))
      (λ a. inr (inl (four k s (inl (leb-false _ _ a))))))
      (λ s. inl (inr ((spare_set w).0 s))))
      (λ k. inl (inl (eqb-false _ _ k)))
    where
      four : eqb (kind_of w) 3 ≡ true → spare_clear w ≡ true → (field_width w < 1) ⊎ ((32 < field_width w) ⊎ FormFault w) → Four
      four k s x = (eqb-true _ _ k, (λ t. false≢true (sym ((spare_set w).1 t) ∙ s)), x)

-- "a wrong kind or spare bit", "a width outside 1–32 or a form fault": none of these, and "the lowest bit not judged"
pub record Taken (w : ℕ) : Type 0 where
  pub kind : kind_of w ≡ 3
  pub spare : SpareSet w → ⊥
  pub some : 1 ≤ field_width w
  pub most : field_width w ≤ 32
  pub form : FormFault w → ⊥

module _ (w : ℕ) where
  no_two : word_check w ≡ fine → Two w → ⊥
  no_two g t = let e = two_is w t in let z : ◌≡◌ {A = ℕ} 0 1 = cc in omega arith

  no_four : word_check w ≡ fine → Four w → ⊥
  no_four g f = let e = four_is w f in let z : ◌≡◌ {A = ℕ} 0 1 = cc in omega arith

  pub taken : (word_check w ≡ fine) ↔ Taken w
  taken = (
    λ g.
        let k : kind_of w ≡ 3 = cases (eqb (kind_of w) 3) (λ t. eqb-true _ _ t) (λ t. absurd (no_two g (inl (eqb-false _ _ t)))) in
        let s : SpareSet w → ⊥ = λ x. no_two g (inr x) in
        record { kind = k; spare = s; some = width_some w g; most = width_most w g; form = λ x. no_four g (k, s, inr (inr x)) },
    λ t. ⊎_elim
        (⊎_elim (λ k. absurd (k t.kind)) (λ s. absurd (t.spare s)))
        (⊎_elim (λ f. absurd (not_four t f.2)) (λ g. g))
        (which w),
  )
    where
      not_four : Taken w → (field_width w < 1) ⊎ ((32 < field_width w) ⊎ FormFault w) → ⊥
      not_four t = ⊎_elim (λ x. omega (arith, t.some)) (⊎_elim (λ x. omega (arith, t.most)) (λ x. t.form x))

-- ---- the answer

module _ {A : Type 0} (w : ℕ) (fits : Bool) (r : A) where
  -- no other answer is a fault
  fine_not : (n : ℕ) → answer_of fine fits r ≡ faulty n 0 → ⊥
  unfolding answer_of
  fine_not n e = cases fits (λ t. let q = rw t at e in let z : ◌≡◌ {A = ℕ} 0 1 = cc in omega arith) (λ t. let q = rw t at e in let z : ◌≡◌ {A = ℕ} 0 1 = cc in omega arith)

  pub two : (answer_of (word_check w) fits r ≡ faulty 2 0) ↔ Two w
  unfolding answer_of
  two = (
    λ e. ⊎_elim (λ t. t) (⊎_elim (λ f. absurd (let q = rw (four_is w f) at e in let z : ◌≡◌ {A = ℕ} 4 2 = cc in omega arith)) (λ g. absurd (fine_not 2 (rw g at e)))) (which w),
    λ t. rw (two_is w t),
  )

  pub four : (answer_of (word_check w) fits r ≡ faulty 4 0) ↔ Four w
  unfolding answer_of
  four = (
    λ e. ⊎_elim (λ t. absurd (let q = rw (two_is w t) at e in let z : ◌≡◌ {A = ℕ} 2 4 = cc in omega arith)) (⊎_elim (λ f. f) (λ g. absurd (fine_not 4 (rw g at e)))) (which w),
    λ f. rw (four_is w f),
  )

-- a value out of range, of a word without fault
pub twelve : {A : Type 0} (c : Check) (fits : Bool) (r : A) → (answer_of c fits r ≡ refused 12 0 0) ↔ ((c ≡ fine) × (fits ≡ false))
unfolding answer_of
twelve (fault n p) fits r = (λ e. absurd (let z : ◌≡◌ {A = ℕ} 0 1 = cc in omega arith), λ d. absurd (let q = d.0 in let z : ◌≡◌ {A = ℕ} 0 1 = cc in omega arith))
twelve fine true r = (λ e. absurd (let z : ◌≡◌ {A = ℕ} 0 1 = cc in omega arith), λ d. absurd (true≢false d.1))
twelve fine false r = (λ e. (refl, refl), λ d. refl)
