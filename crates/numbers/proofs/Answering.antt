-- What the calls answer of a word that was judged. Assumes nothing.
use Prim.Native.Nat.{ℕ, ◌^◌}
use mathlib.Core.Bool.{Bool, true, false}
use mathlib.Core.Path.{◌≡◌, refl, sym, ◌∙◌}
use mathlib.Core.List.{List}
use native.Mathlib.Omega.{arith}
use lib.Dec.{ltb}
use lib.IntN.{ℤ}
use lib.ListN.{length}
use Rattle.std.specs.Prelude.{Result, Err}
use Rattle.words.specs.Outcome.{Outcome, result, faulty, refused, refused_as}
use Rattle.words.specs.declared.Refusal.{Refusal}
use Rattle.words.proofs.Outcomes.{not_faulty, refused_not_faulty}
use Rattle.table.specs.Check.{Check, fine, fault}
use Rattle.numbers.specs.Word.{word_check}
use Rattle.numbers.specs.Whole.{number_of, in_range, value_of}
use Rattle.numbers.specs.Decimals.{number_text}
use Rattle.numbers.specs.Calls.{answer_of, signed_of, stored_of, text_of, length_of, buffer_after}
use Rattle.numbers.specs.Judged.{judged_as}
use Rattle.numbers.specs.Answers.{Writes}
use Rattle.numbers.proofs.Judging.{refusing, refuses, Sound}

-- a result, of a word without fault
pub answer_result : {A : Type 0} (c : Check) (fits : Bool) (r x : A) → answer_of c fits r ≡ result x → (c ≡ fine) × (fits ≡ true) × (r ≡ x)
unfolding answer_of
answer_result (fault n p) fits r x e = absurd (let y : ◌≡◌ {A = ℕ} 0 1 = cc in omega arith)
answer_result fine false r x e = absurd (let y : ◌≡◌ {A = ℕ} 0 1 = cc in omega arith)
answer_result fine true r x e = (refl, refl, cc)

-- what refuses one result of a word refuses any other
module _ {A B : Type 0} (fits : Bool) (x : A) (y : B) where
  no_fault : (fits : Bool) (n p : ℕ) → faulty n p ≡ answer_of fine fits x → faulty n p ≡ answer_of fine fits y
  unfolding answer_of
  no_fault true n p e = absurd (not_faulty (sym e))
  no_fault false n p e = absurd (refused_not_faulty (sym e))

  same_refusal : (fits : Bool) (n p k : ℕ) → refused n p k ≡ answer_of fine fits x → refused n p k ≡ answer_of fine fits y
  unfolding answer_of
  same_refusal true n p k e = absurd (let z : ◌≡◌ {A = ℕ} 0 1 = cc in omega arith)
  same_refusal false n p k e = let a : n ≡ 12 = cc in let b : p ≡ 0 = cc in let c : k ≡ 0 = cc in rw (a, b, c)

  pub refuses_other : (r : Refusal) → refused_as r ≡ answer_of fine fits x → refused_as r ≡ answer_of fine fits y
  refuses_other r = refusing (λ a b. a ≡ answer_of fine fits x → b ≡ answer_of fine fits y) (no_fault fits) (same_refusal fits) r

-- a word with a fault
module _ (w : ℕ) (r : Refusal) (e : refused_as r ≡ judged_as (word_check w) w) where
  pub signed_refused : (v : ℕ) → refused_as r ≡ signed_of w v
  unfolding signed_of
  signed_refused v = refuses w _ _ (word_check w) r e

  pub stored_refused : (z : ℤ) → refused_as r ≡ stored_of w z
  unfolding stored_of
  stored_refused z = refuses w _ _ (word_check w) r e

  pub text_refused : (v : ℕ) → refused_as r ≡ text_of w v
  unfolding text_of
  text_refused v = refuses w _ _ (word_check w) r e

-- one without
module _ {w : ℕ} {sign : Bool} {fraction width : ℕ} (g : Sound w sign fraction width) where
  pub signed_is : (v : ℕ) → signed_of w v ≡ answer_of fine (ltb v (2 ^ width)) (number_of sign width v)
  unfolding signed_of
  signed_is v = rw (g.no_fault, g.sign_is, g.width_is)

  pub stored_is : (z : ℤ) → stored_of w z ≡ answer_of fine (in_range sign width z) (value_of width z)
  unfolding stored_of
  stored_is z = rw (g.no_fault, g.sign_is, g.width_is)

  pub text_is : (v : ℕ) → text_of w v ≡ answer_of fine (ltb v (2 ^ width)) (number_text fraction (number_of sign width v))
  unfolding text_of
  text_is v = rw (g.no_fault, g.sign_is, g.width_is, g.fraction_is)

-- ---- text

-- a refusal before the buffer is looked at leaves it
pub writes_refused : (o : Outcome (List ℕ)) (r : Refusal) (before : List ℕ) → refused_as r ≡ o → Writes o before before (Err r)
unfolding length_of buffer_after
writes_refused o r before e =
    rw (← e)
    (record {
      answer = refusing (λ a b. b ≡ length_of a (length before)) (λ n p. refl) (λ n p x. refl) r;
      buffer = refusing {B = ℕ} (λ a b. before ≡ buffer_after a before) (λ n p. refl) (λ n p x. refl) r;
    })

module _ {w : ℕ} {sign : Bool} {fraction width : ℕ} (g : Sound w sign fraction width) (v : ℕ) where
  pub text_out : (r : Refusal) → refused_as r ≡ answer_of fine (ltb v (2 ^ width)) (number_of sign width v) → refused_as r ≡ text_of w v
  text_out r e = refuses_other _ _ _ r e ∙ sym (text_is g v)

  pub writes_in : (z : ℤ) (before after : List ℕ) (r : Result ℕ Refusal) → result z ≡ answer_of fine (ltb v (2 ^ width)) (number_of sign width v)
      → Writes (result (number_text fraction z)) before after r → Writes (text_of w v) before after r
  unfolding answer_of
  writes_in z before after r e p =
      let a : (fine ≡ fine) × (ltb v (2 ^ width) ≡ true) × (number_of sign width v ≡ z) = answer_result fine _ _ z (sym e) in
      rw (text_is g v, a.1, a.2) p
