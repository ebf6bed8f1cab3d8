-- The text of a number is exact, for every number of fraction bits by one argument: ten to a power is five to it times two to it.
-- Assumes nothing.
use Prim.Native.Nat.{ℕ, zero, suc, ◌+◌, ◌-◌, ◌*◌, ◌/◌, ◌%◌, ◌^◌, ◌≤◌, ◌<◌}
use mathlib.Core.Bool.{true}
use mathlib.Core.Path.{◌≡◌, refl, sym, ap, ◌∙◌}
use mathlib.Core.List.{List, [], ◌∷◌, ◌++◌, append_assoc}
use native.Mathlib.Nat.{pow-suc, mul_assoc, mul_comm, mul_right_comm, mul-one, add-mul, zero-mul, zero-add, add-zero, div-add-mod', mul-add-div_right, mul-div_cancel, div-eq_of_lt, mod-lt}
use native.Mathlib.Omega.{arith}
use lib.Dec.{eqb, ltb}
use lib.IntN.{ℤ, pos, negsuc, nat_abs}
use lib.Signed.{lt_z}
use lib.ListN.{length, get_or, length-append}
use lib.Pow.{pow_pos}
use borrow.Author.Tests.{le-leb, leb-true, le-ltb, ltb-true, ltb-false, ne_eqb}
use Rattle.words.specs.Tests.{all_of}
use Rattle.words.proofs.Logic.{cases, and_i, and_l, and_r}
use Rattle.text.specs.Digits.{digit_of, digits_of, decimal_text}
use Rattle.text.proofs.Spelling.{digit_low}
use Rattle.numbers.specs.Decimals.{divided, sign_text, point_text, fraction_text, number_text}
use Rattle.numbers.specs.Exact.{is_digit, decimal_from, decimal_of, Exact}
use Rattle.numbers.proofs.Dividing.{digit_lt}
use Rattle.numbers.proofs.Writing.{divided_length}

-- ---- digits

digit_is : (d : ℕ) → d < 10 → digit_of d ≡ 48 + d
digit_is d h = sym (digit_low d h)

is_digit_lem : (d : ℕ) → d < 10 → is_digit (digit_of d) ≡ true
is_digit_lem d h = rw (digit_is d h) (and_i (le-leb 48 (48 + d) (omega arith)) (le-leb (48 + d) 57 (omega arith)))

all_snoc : (l : List ℕ) (b : ℕ) → all_of is_digit l ≡ true → is_digit b ≡ true → all_of is_digit (l ++ (b ∷ [])) ≡ true
unfolding all_of
all_snoc [] b h k = and_i k refl
all_snoc (x ∷ l) b h k = and_i (and_l _ h) (all_snoc l b (and_r _ h) k)

-- ---- values

value_snoc : (n : ℕ) (l : List ℕ) (b : ℕ) → decimal_from n (l ++ (b ∷ [])) ≡ decimal_from n l * 10 + (b - 48)
unfolding decimal_from
value_snoc n [] b = refl
value_snoc n (x ∷ l) b = value_snoc (n * 10 + (x - 48)) l b

-- ---- the digits before the point

digits_all : (most n : ℕ) → all_of is_digit (digits_of most n) ≡ true
unfolding digits_of all_of
digits_all zero n = refl
digits_all (suc most) zero = refl
digits_all (suc most) (suc m) = all_snoc (digits_of most (suc m / 10)) _ (digits_all most (suc m / 10)) (is_digit_lem (suc m % 10) (omega arith))

digits_value : (most n : ℕ) → n ≤ most → decimal_of (digits_of most n) ≡ n
unfolding digits_of decimal_from
digits_value zero n h = omega arith
digits_value (suc most) zero h = refl
digits_value (suc most) (suc m) h =
    let e = value_snoc 0 (digits_of most (suc m / 10)) (digit_of (suc m % 10)) in
    let i = digits_value most (suc m / 10) (omega arith) in
    omega (arith, e, i, digit_is (suc m % 10) (omega arith))

-- the first of them is no zero
no_digits : (most : ℕ) → digits_of most 0 ≡ []
unfolding digits_of
no_digits zero = refl
no_digits (suc most) = refl

first_digit : (most n : ℕ) (rest : List ℕ) → 0 < n → n ≤ most → 48 < get_or (digits_of most n ++ rest) 0 0
unfolding digits_of
first_digit zero n rest h k = absurd (omega arith)
first_digit (suc most) zero rest h k = absurd (omega arith)
first_digit (suc most) (suc m) rest h k =
    cases (ltb 0 (suc m / 10))
    (λ t. rw append_assoc (first_digit most (suc m / 10) ((digit_of (suc m % 10) ∷ []) ++ rest) (ltb-true 0 (suc m / 10) t) (omega arith)))
    (λ t. let e : suc m / 10 ≡ 0 = omega (arith, ltb-false 0 (suc m / 10) t) in rw (e, no_digits most, digit_is (suc m % 10) (omega arith)) (omega arith))

module _ (n : ℕ) where
  decimal_all : all_of is_digit (decimal_text n) ≡ true
  unfolding decimal_text
  decimal_all = all_snoc (digits_of n (n / 10)) _ (digits_all n (n / 10)) (is_digit_lem (n % 10) (omega arith))

  decimal_value : decimal_of (decimal_text n) ≡ n
  unfolding decimal_text
  decimal_value =
      let e = value_snoc 0 (digits_of n (n / 10)) (digit_of (n % 10)) in
      let i = digits_value n (n / 10) (omega arith) in
      omega (arith, e, i, digit_is (n % 10) (omega arith))

  decimal_some : 1 ≤ length (decimal_text n)
  unfolding decimal_text
  decimal_some = simp length-append (omega arith)

  decimal_lean : get_or (decimal_text n) 0 0 ≡ 48 → length (decimal_text n) ≡ 1
  unfolding decimal_text
  decimal_lean e =
      cases (ltb 0 (n / 10))
      (λ t. absurd (omega (arith, e, first_digit n (n / 10) (digit_of (n % 10) ∷ []) (ltb-true 0 (n / 10) t) (omega arith))))
      (λ t. let z : n / 10 ≡ 0 = omega (arith, ltb-false 0 (n / 10) t) in rw (z, no_digits n))

-- ---- the digits after it

divided_all : (unit j rest : ℕ) → rest < unit → all_of is_digit (divided unit j rest) ≡ true
unfolding divided all_of
divided_all unit zero rest h = refl
divided_all unit (suc j) rest h =
    and_i (is_digit_lem (rest * 10 / unit) (digit_lt rest unit h)) (divided_all unit j (rest * 10 % unit) (mod-lt (rest * 10) (omega arith)))

-- one turn of it
turn : (unit rest n : ℕ) → rest < unit → (n * 10 + (digit_of (rest * 10 / unit) - 48)) * unit + rest * 10 % unit ≡ (n * unit + rest) * 10
turn unit rest n h =
    let e : digit_of (rest * 10 / unit) - 48 ≡ rest * 10 / unit = omega (arith, digit_is (rest * 10 / unit) (digit_lt rest unit h)) in
    rw (e, add-mul (n * 10) (rest * 10 / unit) unit) (omega (arith, mul_right_comm n 10 unit, div-add-mod' (rest * 10) unit))

-- what they make, times the unit, and what is left, is the rest times ten to their count
divided_value : (unit j rest n : ℕ) → rest < unit → (left : ℕ) × (left < unit) × (decimal_from n (divided unit j rest) * unit + left ≡ (n * unit + rest) * 10 ^ j)
unfolding divided decimal_from
divided_value unit zero rest n h = (rest, h, sym (mul-one (n * unit + rest)))
divided_value unit (suc j) rest n h =
    let d = rest * 10 / unit in
    let i = divided_value unit j (rest * 10 % unit) (n * 10 + (digit_of d - 48)) (mod-lt (rest * 10) (omega arith)) in
    (i.0, i.1, i.2 ∙ ap (λ (x : ℕ). x * 10 ^ j) (turn unit rest n h) ∙ mul_assoc (n * unit + rest) 10 (10 ^ j) ∙ ap (λ (x : ℕ). (n * unit + rest) * x) (mul_comm 10 (10 ^ j) ∙ sym (pow-suc 10 j)))

-- ten to a power
tens : (f : ℕ) → 10 ^ f ≡ 5 ^ f * 2 ^ f
tens zero = refl
tens (suc f) =
    let five : 5 * (2 ^ f * 2) ≡ 2 ^ f * 10 = omega arith in
    rw (pow-suc 10 f, tens f, pow-suc 5 f, pow-suc 2 f) (mul_assoc (5 ^ f) (2 ^ f) 10 ∙ sym (mul_assoc (5 ^ f) 5 (2 ^ f * 2) ∙ ap (λ (x : ℕ). 5 ^ f * x) five))

after_value : (f rest : ℕ) → rest < 2 ^ f → decimal_of (divided (2 ^ f) f rest) ≡ rest * 5 ^ f
after_value f rest h =
    let i = divided_value (2 ^ f) f rest 0 h in
    let v = decimal_of (divided (2 ^ f) f rest) in
    let e : v * 2 ^ f + i.0 ≡ rest * 5 ^ f * 2 ^ f = i.2 ∙ ap (λ (x : ℕ). x * 10 ^ f) (ap (λ (x : ℕ). x + rest) (zero-mul (2 ^ f)) ∙ zero-add rest) ∙ ap (λ (x : ℕ). rest * x) (tens f) ∙ sym (mul_assoc rest (5 ^ f) (2 ^ f)) in
    sym (mul-add-div_right (pow_pos f) v i.0 ∙ ap (λ (x : ℕ). v + x) (div-eq_of_lt i.1) ∙ add-zero v)
    ∙ ap (λ (x : ℕ). x / 2 ^ f) e
    ∙ mul-div_cancel (rest * 5 ^ f) (pow_pos f)

whole_value : (f n : ℕ) → n / 2 ^ f * 10 ^ f + n % 2 ^ f * 5 ^ f ≡ n * 5 ^ f
whole_value f n =
    rw (tens f, mul_comm (5 ^ f) (2 ^ f), ← mul_assoc (n / 2 ^ f) (2 ^ f) (5 ^ f), ← add-mul (n / 2 ^ f * 2 ^ f) (n % 2 ^ f) (5 ^ f))
    (ap (λ (x : ℕ). x * 5 ^ f) (div-add-mod' n (2 ^ f)))

-- the digits of the whole text over 10^f
all_value : (f n : ℕ) → (n / 2 ^ f * 10 ^ f + n % 2 ^ f * 5 ^ f) * 2 ^ f ≡ n * 10 ^ f
all_value f n = ap (λ (x : ℕ). x * 2 ^ f) (whole_value f n) ∙ mul_assoc n (5 ^ f) (2 ^ f) ∙ ap (λ (x : ℕ). n * x) (sym (tens f))

-- ---- the whole

-- the text of every number is exact
pub text_exact : (f : ℕ) (z : ℤ) → Exact f z (number_text f z)
unfolding number_text fraction_text
text_exact f z = let n = nat_abs z in
    record {
      before = decimal_text (n / 2 ^ f);
      after = divided (2 ^ f) f (n % 2 ^ f);
      is = sym (append_assoc (sign_text z ++ decimal_text (n / 2 ^ f)) (point_text f) (divided (2 ^ f) f (n % 2 ^ f)));
      digits_before = decimal_all (n / 2 ^ f);
      digits_after = divided_all (2 ^ f) f (n % 2 ^ f) (mod-lt n (pow_pos f));
      some_before = decimal_some (n / 2 ^ f);
      no_zero = decimal_lean (n / 2 ^ f);
      places = divided_length (2 ^ f) f (n % 2 ^ f);
      value = rw (decimal_value (n / 2 ^ f), after_value f (n % 2 ^ f) (mod-lt n (pow_pos f))) (all_value f n);
    }

-- "a minus sign only below zero": the first byte is one exactly there
digit_first : (l rest : List ℕ) → all_of is_digit l ≡ true → 1 ≤ length l → 48 ≤ get_or (l ++ rest) 0 0
unfolding all_of
digit_first [] rest h k = absurd (omega arith)
digit_first (x ∷ l) rest h k = leb-true 48 x (and_l _ (and_l _ h))

pub minus_below : (f : ℕ) (z : ℤ) → eqb (get_or (number_text f z) 0 0) 45 ≡ lt_z z (pos 0)
unfolding number_text sign_text
minus_below f (pos n) =
    let h = digit_first (decimal_text (n / 2 ^ f)) (fraction_text f (n % 2 ^ f)) (decimal_all (n / 2 ^ f)) (decimal_some (n / 2 ^ f)) in
    ne_eqb (get_or (decimal_text (n / 2 ^ f) ++ fraction_text f (n % 2 ^ f)) 0 0) 45 (λ e. omega (arith, h, e)) ∙ sym (le-ltb n 0 (omega arith))
minus_below f (negsuc m) = refl
