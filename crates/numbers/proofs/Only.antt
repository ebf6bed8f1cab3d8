-- No other text is exact: what the request says of a text fixes its bytes. Assumes nothing.
use Prim.Native.Nat.{ℕ, zero, suc, ◌+◌, ◌-◌, ◌*◌, ◌/◌, ◌^◌, ◌≤◌, ◌<◌}
use mathlib.Core.Bool.{true}
use mathlib.Core.Path.{◌≡◌, refl, sym, ap, ap₂, ◌∙◌}
use mathlib.Core.List.{List, [], ◌∷◌, ◌++◌}
use native.Mathlib.Nat.{pow-suc, mul_assoc, mul_comm, add-mul, add_assoc, zero-add, mul-div_cancel}
use native.Mathlib.Omega.{arith}
use lib.Dec.{ltb}
use lib.IntN.{ℤ, nat_abs}
use lib.ListN.{length, get_or}
use lib.Pow.{pow_pos}
use borrow.Author.Tests.{leb-true, ltb-true, ltb-false}
use Rattle.words.specs.Tests.{all_of}
use Rattle.words.proofs.Logic.{cases, and_i, and_l, and_r}
use Rattle.numbers.specs.Decimals.{sign_text, point_text}
use Rattle.numbers.specs.Exact.{is_digit, decimal_from, decimal_of, Exact}

-- a digit, in numbers
digit_from : (b : ℕ) → is_digit b ≡ true → 48 ≤ b
digit_from b e = leb-true 48 b (and_l _ e)

digit_to : (b : ℕ) → is_digit b ≡ true → b ≤ 57
digit_to b e = leb-true b 57 (and_r _ e)

-- digits of one length that make one number, after numbers n and m, are the same
same_digits : (l k : List ℕ) (n m : ℕ) → length l ≡ length k → all_of is_digit l ≡ true → all_of is_digit k ≡ true → decimal_from n l ≡ decimal_from m k → (n ≡ m) × (l ≡ k)
unfolding decimal_from all_of
same_digits [] [] n m h d e q = (q, refl)
same_digits [] (y ∷ k) n m h d e q = absurd (omega (arith, h))
same_digits (x ∷ l) [] n m h d e q = absurd (omega (arith, h))
same_digits (x ∷ l) (y ∷ k) n m h d e q =
    let i = same_digits l k (n * 10 + (x - 48)) (m * 10 + (y - 48)) (omega (arith, h)) (and_r _ d) (and_r _ e) q in
    let a = digit_from x (and_l _ d) in
    let b = digit_to x (and_l _ d) in
    let a' = digit_from y (and_l _ e) in
    let b' = digit_to y (and_l _ e) in
    let s = i.0 in
    (omega (arith, s, a, b, a', b'), ap₂ (λ (z : ℕ) (zs : List ℕ). z ∷ zs) (omega (arith, s, a, b, a', b')) i.1)

-- zeros before digits make the same number
zeros : ℕ → List ℕ → List ℕ
zeros zero l = l
zeros (suc n) l = 48 ∷ zeros n l

zeros_value : (n : ℕ) (l : List ℕ) → decimal_of (zeros n l) ≡ decimal_of l
unfolding zeros decimal_from
zeros_value zero l = refl
zeros_value (suc n) l = zeros_value n l

zeros_digits : (n : ℕ) (l : List ℕ) → all_of is_digit l ≡ true → all_of is_digit (zeros n l) ≡ true
unfolding zeros all_of
zeros_digits zero l d = d
zeros_digits (suc n) l d = and_i (and_i refl refl) (zeros_digits n l d)

zeros_length : (n : ℕ) (l : List ℕ) → length (zeros n l) ≡ n + length l
unfolding zeros
zeros_length zero l = omega arith
zeros_length (suc n) l = omega (arith, zeros_length n l)

zeros_first : (n : ℕ) (l : List ℕ) → 0 < n → get_or (zeros n l) 0 0 ≡ 48
unfolding zeros
zeros_first zero l h = absurd (omega arith)
zeros_first (suc n) l h = refl

-- digits without a needless zero: none are more that make the same number
no_longer : (l k : List ℕ) → all_of is_digit l ≡ true → all_of is_digit k ≡ true → 1 ≤ length l → (get_or k 0 0 ≡ 48 → length k ≡ 1) → decimal_of l ≡ decimal_of k → length l < length k → ⊥
no_longer l k d e some lean q h =
    let n = length k - length l in
    let g : length (zeros n l) ≡ length k = omega (arith, zeros_length n l) in
    let s = (same_digits (zeros n l) k 0 0 g (zeros_digits n l d) e (zeros_value n l ∙ q)).1 in
    let z : get_or k 0 0 ≡ 48 = sym (ap (λ (x : List ℕ). get_or x 0 0) s) ∙ zeros_first n l (omega arith) in
    omega (arith, lean z)

-- a number has one such text
same_whole : (l k : List ℕ) → all_of is_digit l ≡ true → all_of is_digit k ≡ true → 1 ≤ length l → 1 ≤ length k
    → (get_or l 0 0 ≡ 48 → length l ≡ 1) → (get_or k 0 0 ≡ 48 → length k ≡ 1) → decimal_of l ≡ decimal_of k → l ≡ k
same_whole l k d e a b x y q =
    cases (ltb (length l) (length k))
    (λ t. absurd (no_longer l k d e a y q (ltb-true _ _ t)))
    (λ t. cases (ltb (length k) (length l))
    (λ u. absurd (no_longer k l e d b x (sym q) (ltb-true _ _ u)))
    (λ u. let h : length l ≡ length k = omega (arith, ltb-false (length l) (length k) t, ltb-false (length k) (length l) u) in (same_digits l k 0 0 h d e q).1))

-- what digits make after a number
from_split : (n : ℕ) (l : List ℕ) → decimal_from n l ≡ n * 10 ^ length l + decimal_of l
unfolding decimal_from
from_split n [] = omega arith
from_split n (x ∷ l) =
    let d = x - 48 in
    let p = 10 ^ length l in
    from_split (n * 10 + d) l
    ∙ ap (λ (y : ℕ). y + decimal_of l) (add-mul (n * 10) d p ∙ ap (λ (y : ℕ). y + d * p) (mul_assoc n 10 p ∙ ap (λ (y : ℕ). n * y) (mul_comm 10 p ∙ sym (pow-suc 10 (length l)))))
    ∙ add_assoc (n * 10 ^ suc (length l)) (d * p) (decimal_of l)
    ∙ ap (λ (y : ℕ). n * 10 ^ suc (length l) + y) (sym (from_split d l) ∙ ap (λ (y : ℕ). decimal_from y l) (sym (zero-add d)))

-- what the parts of a text make, read without the point
module _ {f : ℕ} {z : ℤ} {text : List ℕ} (x : Exact f z text) where
  read_all : decimal_from (decimal_of x.before) x.after * 2 ^ f ≡ nat_abs z * 10 ^ f
  read_all =
      ap (λ (y : ℕ). y * 2 ^ f) (from_split (decimal_of x.before) x.after ∙ ap (λ (n : ℕ). decimal_of x.before * 10 ^ n + decimal_of x.after) x.places)
      ∙ x.value

pub exact_only : (f : ℕ) (z : ℤ) (text other : List ℕ) → Exact f z text → Exact f z other → text ≡ other
exact_only f z text other x y =
    let e : decimal_from (decimal_of x.before) x.after ≡ decimal_from (decimal_of y.before) y.after =
    sym (mul-div_cancel _ (pow_pos f)) ∙ ap (λ (n : ℕ). n / 2 ^ f) (read_all x ∙ sym (read_all y)) ∙ mul-div_cancel _ (pow_pos f) in
    let s = same_digits x.after y.after _ _ (x.places ∙ sym y.places) x.digits_after y.digits_after e in
    let b = same_whole x.before y.before x.digits_before y.digits_before x.some_before y.some_before x.no_zero y.no_zero s.0 in
    x.is ∙ ap₂ (λ (p q : List ℕ). sign_text z ++ p ++ point_text f ++ q) b s.1 ∙ sym y.is
