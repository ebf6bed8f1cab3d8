-- No text is longer than 23 bytes: a sign, five digits, a point and sixteen digits. Assumes nothing.
use Prim.Native.Nat.{ℕ, zero, suc, ◌+◌, ◌-◌, ◌/◌, ◌%◌, ◌^◌, ◌≤◌, ◌<◌}
use mathlib.Core.Bool.{true, false}
use mathlib.Core.Path.{◌≡◌, refl}
use native.Mathlib.Omega.{arith}
use lib.Dec.{leb}
use lib.IntN.{ℤ, nat_abs}
use lib.ListN.{length, length-append}
use lib.Pow.{pow_mono, shr_le, shr_mono, shr-shr}
use borrow.Author.Tests.{leb-true, leb-false}
use Rattle.words.proofs.Logic.{cases}
use Rattle.text.specs.Digits.{decimal_text}
use Rattle.text.proofs.Lining.{decimal_few, decimal_room}
use Rattle.numbers.specs.Whole.{number_of}
use Rattle.numbers.specs.Decimals.{point_text, fraction_text, number_text}
use Rattle.numbers.proofs.Ranges.{doubled, plain_is, upper_is, lower_is}
use Rattle.numbers.proofs.Writing.{sign_room, divided_length}

-- with a sign, a number is at most 2^31 from zero
pub signed_near : (k v : ℕ) → 1 ≤ k → k ≤ 32 → v < 2 ^ k → nat_abs (number_of true k v) ≤ 2 ^ 31
signed_near k v some most h =
    let m : 2 ^ (k - 1) ≤ 2 ^ 31 = pow_mono {i = k - 1} {j = 31} (omega arith) in
    cases (leb (2 ^ (k - 1)) v)
    (λ t. let l = leb-true (2 ^ (k - 1)) v t in rw (lower_is true k v refl l h) (omega (arith, doubled k some)))
    (λ t. let l = leb-false (2 ^ (k - 1)) v t in rw (upper_is true k v l) (omega arith))

-- without a sign, it has 32 bits
pub plain_near : (k v : ℕ) → k ≤ 32 → v < 2 ^ k → nat_abs (number_of false k v) < 2 ^ 32
plain_near k v most h = let m : 2 ^ k ≤ 2 ^ 32 = pow_mono most in rw (plain_is false k v refl) (omega arith)

fraction_length : (f rest : ℕ) → length (fraction_text f rest) ≤ suc f
unfolding fraction_text point_text
fraction_length zero rest = omega (arith, divided_length 1 0 rest)
fraction_length (suc f) rest = simp length-append (omega (arith, divided_length (2 ^ suc f) (suc f) rest))

-- fewer steps, fewer digits
over : (n j f : ℕ) → j ≤ f → n / 2 ^ f ≤ n / 2 ^ j
over n j f h =
    let e : j + (f - j) ≡ f = omega arith in
    let q : n / 2 ^ j / 2 ^ (f - j) ≡ n / 2 ^ f = rw e at (shr-shr n j (f - j)) in
    rw (← q) (shr_le (n / 2 ^ j) (f - j))

whole_length : (n j f : ℕ) → n ≤ 2 ^ 31 → j ≤ f → (k : ℕ) → 2 ^ 31 / 2 ^ j < 10 ^ suc k → length (decimal_text (n / 2 ^ f)) ≤ suc k
whole_length n j f h l k m = decimal_few (n / 2 ^ f) k (omega (arith, over n j f l, shr_mono {a = n} {b = 2 ^ 31} j h))

module _ (f : ℕ) (z : ℤ) where
  parts : (k : ℕ) → length (decimal_text (nat_abs z / 2 ^ f)) ≤ k → length (number_text f z) ≤ 1 + k + suc f
  unfolding number_text
  parts k h = simp length-append (omega (arith, sign_room z, fraction_length f (nat_abs z % 2 ^ f)))

  pub pointed_short : f ≤ 16 → nat_abs z ≤ 2 ^ 31 → length (number_text f z) ≤ 23
  pointed_short few near =
      cases (leb f 11)
      (λ t. let l = leb-true f 11 t in omega (arith, parts 10 (decimal_room (nat_abs z / 2 ^ f) (omega (arith, shr_le (nat_abs z) f)))))
      (λ t. let l = leb-false f 11 t in cases (leb f 15)
      (λ s. let m = leb-true f 15 s in omega (arith, parts 6 (whole_length (nat_abs z) 12 f near l 5 (omega arith))))
      (λ s. let m = leb-false f 15 s in omega (arith, parts 5 (whole_length (nat_abs z) 16 f near m 4 (omega arith)))))

  pub whole_short : f ≡ 0 → nat_abs z < 2 ^ 32 → length (number_text f z) ≤ 23
  whole_short none small = omega (arith, parts 10 (decimal_room (nat_abs z / 2 ^ f) (omega (arith, shr_le (nat_abs z) f))))
