-- Laws of the numbers of k bits, for every k from 1 on by one argument: 2^k is twice 2^(k − 1). Assumes nothing.
use Prim.Native.Nat.{ℕ, zero, suc, ◌+◌, ◌-◌, ◌*◌, ◌%◌, ◌^◌, ◌≤◌, ◌<◌}
use mathlib.Core.Bool.{Bool, true, false, cond}
use mathlib.Core.Path.{◌≡◌, refl, sym, ap, ◌∙◌}
use native.Mathlib.Nat.{one-mul, pow-suc, le_trans}
use native.Mathlib.Omega.{arith}
use lib.Dec.{lit<, ltb, leb}
use lib.IntN.{ℤ, pos, negsuc, neg_ℤ, nat_abs, sub_ℕ}
use lib.Pow.{shl_exact, pow_pos, pow_mono}
use lib.Signed.{le_z, mag}
use borrow.Author.Tests.{lt-ltb, le-ltb, le-leb, lt-leb, ltb-true, leb-true}
use Rattle.words.specs.Tests.{◌and◌}
use Rattle.words.proofs.Logic.{cases, same}
use Rattle.words.specs.Outcome.{Outcome, result, refused}
use Rattle.table.specs.Check.{fine}
use Rattle.numbers.specs.Calls.{answer_of}
use Rattle.numbers.specs.Whole.{is_below, number_of, size_bits, least, in_range, value_of, on_side}

pub doubled : (k : ℕ) → 1 ≤ k → 2 ^ k ≡ 2 ^ (k - 1) + 2 ^ (k - 1)
doubled zero h = absurd (omega arith)
doubled (suc k) h =
    let e : suc k - 1 ≡ k = omega arith in
    rw e (omega (arith, pow-suc 2 k))

-- `1 << k` at 64 bits
pub one_shl : (k : ℕ) → k ≤ 32 → (1 * 2 ^ k) % 2 ^ 64 ≡ 2 ^ k
one_shl k h = shl_exact {a = 1} 1 k 64 (lit< tt) (omega arith) ∙ one-mul (2 ^ k)

-- ---- the number of a stored value

module _ (s : Bool) (k v : ℕ) where
  pub plain_is : s ≡ false → number_of s k v ≡ pos v
  unfolding number_of is_below ◌and◌
  plain_is e = rw e

  pub upper_is : v < 2 ^ (k - 1) → number_of s k v ≡ pos v
  unfolding number_of is_below ◌and◌
  upper_is h = go s
    where
      go : (s : Bool) → cond (s and leb (2 ^ (k - 1)) v) (sub_ℕ v (2 ^ k)) (pos v) ≡ pos v
      go true = rw (lt-leb (2 ^ (k - 1)) v h)
      go false = refl

  pub lower_is : s ≡ true → 2 ^ (k - 1) ≤ v → v < 2 ^ k → number_of s k v ≡ negsuc (2 ^ k - suc v)
  unfolding number_of is_below ◌and◌
  lower_is e h l = rw (e, le-leb (2 ^ (k - 1)) v h, lt-ltb v (2 ^ k) l)

  -- beside its sign it has 32 bits
  pub number_small : k ≤ 32 → v < 2 ^ k → mag (number_of s k v) < 2 ^ 32
  unfolding number_of
  number_small most h =
      let p : 2 ^ k ≤ 2 ^ 32 = pow_mono most in
      cases (is_below s k v) (λ t. rw (t, lt-ltb v (2 ^ k) h) (omega arith)) (λ t. rw t (omega arith))

-- ---- the range

less_one : (n x : ℕ) → 0 < x → leb n (x - 1) ≡ ltb n x
less_one n x h = same (λ t. lt-ltb n x (omega (arith, leb-true n (x - 1) t))) (λ t. le-leb n (x - 1) (omega (arith, ltb-true n x t)))

negated : (x : ℕ) → 0 < x → neg_ℤ (pos x) ≡ negsuc (x - 1)
negated zero h = absurd (omega arith)
negated (suc x) h = ap negsuc (omega arith)

pub range_down : (k m : ℕ) → in_range true k (negsuc m) ≡ ltb m (2 ^ (k - 1))
unfolding in_range ◌and◌
range_down k m =
    let from : least true k ≡ negsuc (2 ^ (k - 1) - 1) = negated (2 ^ (k - 1)) (pow_pos (k - 1)) in
    ap (λ (z : ℤ). le_z z (negsuc m) and true) from
    ∙ keeps (leb m (2 ^ (k - 1) - 1))
    ∙ less_one m (2 ^ (k - 1)) (pow_pos (k - 1))
  where
    keeps : (b : Bool) → b and true ≡ b
    keeps true = refl
    keeps false = refl

from_least : (s : Bool) (k n : ℕ) → le_z (least s k) (pos n) ≡ true
from_least true k n = ap (λ (z : ℤ). le_z z (pos n)) (negated (2 ^ (k - 1)) (pow_pos (k - 1)))
from_least false k n = le-leb 0 n (omega arith)

pub range_up : (s : Bool) (k n : ℕ) → in_range s k (pos n) ≡ ltb n (2 ^ size_bits s k)
unfolding in_range ◌and◌
range_up s k n = ap (λ (b : Bool). b and leb n (2 ^ size_bits s k - 1)) (from_least s k n) ∙ less_one n (2 ^ size_bits s k) (pow_pos (size_bits s k))

pub range_plain : (k m : ℕ) → in_range false k (negsuc m) ≡ false
unfolding in_range ◌and◌
range_plain k m = refl

-- ---- the side of a stored value

module _ (s : Bool) (k v : ℕ) where
  -- of a value of k bits, its number is on the side that is made
  abbrev Sided : Bool → ℕ → Type 0
  Sided b n = result (on_side b n) ≡ answer_of fine (ltb v (2 ^ k)) (number_of s k v)

  side_is : (b : Bool) (n : ℕ) → v < 2 ^ k → on_side b n ≡ number_of s k v → Sided b n
  unfolding answer_of
  side_is b n h e = rw (lt-ltb v (2 ^ k) h, e)

  pub side_out : ltb v (2 ^ k) ≡ false → refused 12 0 0 ≡ answer_of fine (ltb v (2 ^ k)) (number_of s k v)
  unfolding answer_of
  side_out e = rw e

  pub side_up : v < 2 ^ k → v < 2 ^ size_bits s k → Sided false v
  unfolding on_side size_bits
  side_up h l = side_is false v h (go s l)
    where
      go : (s : Bool) → v < 2 ^ size_bits s k → pos v ≡ number_of s k v
      go true l = sym (upper_is true k v l)
      go false l = sym (plain_is false k v refl)

  module _ (n : ℕ) (some : 1 ≤ k) (h : v < 2 ^ k) (l : 2 ^ size_bits s k ≤ v) (d : n ≡ 2 ^ k - suc v) where
    pub side_down : Sided true n
    unfolding on_side size_bits
    side_down = side_is true n h (go s l)
      where
        go : (s : Bool) → 2 ^ size_bits s k ≤ v → negsuc n ≡ number_of s k v
        go true l = ap negsuc d ∙ sym (lower_is true k v refl l h)
        go false l = absurd (omega arith)

    -- it has 32 bits, as the value has
    pub near_down : k ≤ 32 → nat_abs (on_side true n) < 2 ^ 32
    unfolding on_side
    near_down most = let p : 2 ^ k ≤ 2 ^ 32 = pow_mono most in omega (arith, pow_pos (size_bits s k))

-- ---- the stored value of a number on a side

size_bits_le : (s : Bool) (k : ℕ) → size_bits s k ≤ k
unfolding size_bits
size_bits_le true k = omega arith
size_bits_le false k = omega arith

module _ (s : Bool) (k n : ℕ) (most : k ≤ 32) where
  pub bits_lt : (bits : ℕ) → bits ≡ size_bits s k → bits < 64
  bits_lt bits e = omega (arith, size_bits_le s k)

  -- `1 << bits`
  pub limit : (bits : ℕ) → bits ≡ size_bits s k → (1 * 2 ^ bits) % 2 ^ 64 ≡ 2 ^ size_bits s k
  limit bits e = one_shl bits (omega (arith, size_bits_le s k)) ∙ ap (λ (x : ℕ). 2 ^ x) e

  pub size_fits : n < 2 ^ size_bits s k → n < 2 ^ k
  size_fits h = le_trans h (pow_mono (size_bits_le s k))

  pub value_fits : n < 2 ^ k → n < 2 ^ 32
  value_fits h = le_trans h (pow_mono most)

module _ (s : Bool) (k : ℕ) (b : Bool) (n : ℕ) where
  abbrev Kept : Outcome ℕ → Type 0
  Kept r = r ≡ answer_of fine (in_range s k (on_side b n)) (value_of k (on_side b n))

  pub kept_out : 2 ^ size_bits s k ≤ n → Kept (refused 12 0 0)
  unfolding answer_of on_side size_bits
  kept_out h = go s b h
    where
      go : (s b : Bool) → 2 ^ size_bits s k ≤ n → refused 12 0 0 ≡ answer_of fine (in_range s k (on_side b n)) (value_of k (on_side b n))
      go true true h = rw (range_down k n, le-ltb n (2 ^ (k - 1)) h)
      go false true h = rw (range_plain k n)
      go s false h = rw (range_up s k n, le-ltb n (2 ^ size_bits s k) h)

  pub kept_up : b ≡ false → n < 2 ^ size_bits s k → Kept (result n)
  unfolding answer_of on_side value_of
  kept_up e h = rw (e, range_up s k n, lt-ltb n (2 ^ size_bits s k) h)

  pub kept_plain : b ≡ true → s ≡ false → Kept (refused 12 0 0)
  unfolding answer_of on_side
  kept_plain e f = rw (e, f, range_plain k n)

  pub kept_down : (m : ℕ) → b ≡ true → s ≡ true → n < 2 ^ size_bits s k → m ≡ 2 ^ k - suc n → Kept (result m)
  unfolding answer_of on_side value_of size_bits
  kept_down m e f h d =
      let l : n < 2 ^ (k - 1) = rw f at h in
      rw (e, f, range_down k n, lt-ltb n (2 ^ (k - 1)) l, d)
