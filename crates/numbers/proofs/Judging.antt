-- A field's word that was judged. Assumes nothing.
use Prim.Native.Nat.{ℕ, ◌≤◌}
use mathlib.Core.Bool.{Bool, true}
use mathlib.Core.Path.{◌≡◌, refl, sym}
use native.Mathlib.Omega.{arith}
use lib.Dec.{leb}
use borrow.Author.Tests.{leb-true}
use Rattle.words.specs.Outcome.{Outcome, result, faulty, refused, number_of, refused_as}
use Rattle.words.specs.declared.Fault.{Fault}
use Rattle.words.specs.declared.Fault.TheVariants as fault_is
use Rattle.words.specs.declared.Refusal.{Refusal}
use Rattle.words.specs.declared.Refusal.TheVariants as refusal
use Rattle.words.proofs.Logic.{and_l, and_r}
use Rattle.words.proofs.Outcomes.{not_faulty, not_refused, refused_not_faulty}
use Rattle.table.specs.Table.{field_width, form_of, fraction_of}
use Rattle.table.specs.Check.{Check, fine, fault, ◌then◌, need, field_word, form_fits}
use Rattle.table.proofs.Laws.{then_l, then_r, need_true}
use Rattle.numbers.specs.Word.{has_sign, word_check}
use Rattle.numbers.specs.Calls.{answer_of}
use Rattle.numbers.specs.Judged.{Values, judged_as}

-- what is judged of a word, for `simp`
pub judged_fine : (w : ℕ) → judged_as fine w ≡ result (record { sign = has_sign w; fraction = fraction_of w; width = field_width w })
unfolding judged_as
judged_fine w = refl

pub judged_fault : (n p w : ℕ) → judged_as (fault n p) w ≡ faulty n 0
unfolding judged_as
judged_fault n p w = refl

pub ruleset judged = (judged_fine, judged_fault)

-- what holds of every fault and of every refusal, whatever the result would be, holds of what refuses
pub refusing : {A B : Type 0} (P : Outcome A → Outcome B → Type 0) → ((n p : ℕ) → P (faulty n p) (faulty n p)) → ((n p x : ℕ) → P (refused n p x) (refused n p x))
    → (r : Refusal) → P (refused_as r) (refused_as r)
refusing P f g (refusal.Faulty k p) = f _ p
refusing P f g refusal.NoFit = g 5 0 0
refusing P f g (refusal.Ambiguous w) = g 6 0 w
refusing P f g refusal.TooWide = g 7 0 0
refusing P f g refusal.BadHeader = g 8 0 0
refusing P f g (refusal.Damaged i) = g 9 i 0
refusing P f g refusal.ShortBuffer = g 10 0 0
refusing P f g refusal.NoEntry = g 11 0 0
refusing P f g (refusal.Misfit i) = g 12 i 0
refusing P f g (refusal.NotSelected w) = g 13 0 w
refusing P f g refusal.BadTree = g 14 0 0
refusing P f g refusal.BadTable = g 15 0 0
refusing P f g refusal.BadImage = g 16 0 0
refusing P f g (refusal.Full a) = g 17 a 0
refusing P f g refusal.NoRoom = g 18 0 0
refusing P f g (refusal.Unreached e) = g 19 e 0

-- a word with a fault is refused
module _ {A : Type 0} (w : ℕ) (fits : Bool) (x : A) where
  fault_refuses : (c : Check) (n p : ℕ) → faulty n p ≡ judged_as c w → faulty n p ≡ answer_of c fits x
  unfolding judged_as answer_of
  fault_refuses fine n p e = absurd (not_faulty (sym e))
  fault_refuses (fault m q) n p e = cc

  no_refusal : (c : Check) (n p k : ℕ) → refused n p k ≡ judged_as c w → refused n p k ≡ answer_of c fits x
  unfolding judged_as
  no_refusal fine n p k e = absurd (not_refused (sym e))
  no_refusal (fault m q) n p k e = absurd (refused_not_faulty e)

  pub refuses : (c : Check) (r : Refusal) → refused_as r ≡ judged_as c w → refused_as r ≡ answer_of c fits x
  refuses c r = refusing (λ a b. a ≡ judged_as c w → b ≡ answer_of c fits x) (fault_refuses c) (no_refusal c) r

-- of a word without fault
pub record Sound (w : ℕ) (sign : Bool) (fraction width : ℕ) : Type 0 where
  pub no_fault : word_check w ≡ fine
  pub sign_is : sign ≡ has_sign w
  pub fraction_is : fraction ≡ fraction_of w
  pub width_is : width ≡ field_width w

module _ (w : ℕ) (good : word_check w ≡ fine) where
  wide : (need (leb 1 (field_width w)) 4 0 then need (leb (field_width w) 32) 4 0) ≡ fine
  unfolding word_check
  wide = then_r _ _ good

  pub width_some : 1 ≤ field_width w
  width_some = leb-true _ _ (need_true _ _ _ (then_l _ _ wide))

  pub width_most : field_width w ≤ 32
  width_most = leb-true _ _ (need_true _ _ _ (then_r _ _ wide))

  form_good : form_fits w ≡ true
  unfolding word_check field_word
  form_good = need_true _ _ _ (then_r _ _ (then_r _ _ (then_l _ _ good)))

  pub form_most : form_of w ≤ 2
  unfolding form_fits
  form_most = leb-true _ _ (and_l _ (and_l _ form_good))

  pub fraction_few : fraction_of w ≤ 16
  unfolding form_fits
  fraction_few = leb-true _ _ (and_r _ (and_l _ form_good))

sound_of : (w : ℕ) (v : Values) (c : Check) → word_check w ≡ c → result v ≡ judged_as c w → Sound w v.sign v.fraction v.width
unfolding judged_as
sound_of w v fine g e =
    let s : v ≡ record { sign = has_sign w; fraction = fraction_of w; width = field_width w } = cc in
    rw s (record { no_fault = g; sign_is = refl; fraction_is = refl; width_is = refl })
sound_of w v (fault n p) g e = absurd (not_faulty e)

pub sound : (w : ℕ) (v : Values) → result v ≡ judged_as (word_check w) w → Sound w v.sign v.fraction v.width
sound w v e = sound_of w v (word_check w) refl e

-- every fault has a number
pub number_some : (f : Fault) → number_of f ≡ 0 → ⊥
number_some fault_is.FirstWord e = omega arith
number_some fault_is.Structure e = omega arith
number_some fault_is.Pattern e = omega arith
number_some fault_is.Field e = omega arith
