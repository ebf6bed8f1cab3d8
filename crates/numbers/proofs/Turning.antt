-- "a signed number in range comes back as itself", and so does a stored value, for every width from 1 to 32 by one argument. Assumes nothing.
use Prim.Native.Nat.{ℕ, suc, ◌-◌, ◌^◌, ◌≤◌, ◌<◌}
use mathlib.Core.Bool.{Bool, true, false}
use mathlib.Core.Path.{◌≡◌, refl, sym, ap, ◌∙◌}
use native.Mathlib.Omega.{arith}
use lib.IntN.{ℤ, pos, negsuc}
use borrow.Author.Tests.{lt-ltb, ltb-true, leb-true, leb-false}
use lib.Dec.{leb}
use lib.Pow.{pow_pos}
use Rattle.words.proofs.Logic.{cases}
use Rattle.numbers.specs.Whole.{number_of, size_bits, in_range, value_of}
use Rattle.numbers.proofs.Ranges.{doubled, plain_is, upper_is, lower_is, range_up, range_down, range_plain}

-- ---- k bits, with a sign or without

-- a number n is in range and is stored as v
abbrev Back : Bool → ℕ → ℕ → ℤ → Type 0
Back s k v z = (in_range s k z ≡ true) × (value_of k z ≡ v)

up_back : (s : Bool) (k v : ℕ) → v < 2 ^ size_bits s k → Back s k v (pos v)
unfolding value_of
up_back s k v h = (range_up s k v ∙ lt-ltb v (2 ^ size_bits s k) h, refl)

down_back : (k v : ℕ) → 1 ≤ k → 2 ^ (k - 1) ≤ v → v < 2 ^ k → Back true k v (negsuc (2 ^ k - suc v))
unfolding value_of
down_back k v a h l =
    let m : 2 ^ k - suc v < 2 ^ (k - 1) = omega (arith, doubled k a) in
    (range_down k (2 ^ k - suc v) ∙ lt-ltb (2 ^ k - suc v) (2 ^ (k - 1)) m, omega arith)

-- every stored value comes back from its number
pub value_back : (s : Bool) (k v : ℕ) → 1 ≤ k → v < 2 ^ k → Back s k v (number_of s k v)
unfolding size_bits
value_back false k v a h = rw (plain_is false k v refl) (up_back false k v h)
value_back true k v a h =
    cases (leb (2 ^ (k - 1)) v)
    (λ t. let l = leb-true (2 ^ (k - 1)) v t in rw (lower_is true k v refl l h) (down_back k v a l h))
    (λ t. let l = leb-false (2 ^ (k - 1)) v t in rw (upper_is true k v l) (up_back true k v l))

-- every number in range comes back from its stored value
pub number_back : (s : Bool) (k : ℕ) (z : ℤ) → 1 ≤ k → in_range s k z ≡ true → (value_of k z < 2 ^ k) × (number_of s k (value_of k z) ≡ z)
unfolding value_of size_bits
number_back false k (pos n) a e =
    let h : n < 2 ^ k = ltb-true n (2 ^ k) (sym (range_up false k n) ∙ e) in
    (h, plain_is false k n refl)
number_back true k (pos n) a e =
    let h : n < 2 ^ (k - 1) = ltb-true n (2 ^ (k - 1)) (sym (range_up true k n) ∙ e) in
    (omega (arith, doubled k a), upper_is true k n h)
number_back false k (negsuc m) a e = let z : false ≡ true = sym (range_plain k m) ∙ e in absurd (let y : ◌≡◌ {A = ℕ} 0 1 = cc in omega arith)
number_back true k (negsuc m) a e =
    let h : m < 2 ^ (k - 1) = ltb-true m (2 ^ (k - 1)) (sym (range_down k m) ∙ e) in
    let l : 2 ^ k - suc m < 2 ^ k = omega (arith, pow_pos k) in
    let d : 2 ^ k - suc (2 ^ k - suc m) ≡ m = omega (arith, doubled k a) in
    (l, lower_is true k (2 ^ k - suc m) refl (omega (arith, doubled k a)) l ∙ ap negsuc d)
