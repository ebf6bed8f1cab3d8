-- Masks, bit by bit: a run of bits, a mask that another includes, two that have no bit in common. Assumes nothing.
use Prim.Native.Nat.{ℕ, zero, suc, ◌+◌, ◌-◌, ◌/◌, ◌%◌, ◌^◌, ◌≤◌, ◌<◌}
use native.Mathlib.Nat.{pow-suc, mul_comm, mul-div_cancel, le_trans}
use native.Mathlib.Omega.{arith}
use mathlib.Core.Path.{◌≡◌, sym, ap, ◌∙◌}
use mathlib.Core.Bool.{true, false}
use mathlib.Core.Logic.{◌↔◌}
use lib.Bits.{bit_and, and_comm}
use lib.Dec.{ltb, leb}
use lib.Pow.{pow_pos, pow_mono}
use borrow.Author.Tests.{ltb-true, lt-ltb, le-ltb, leb-true, leb-false, le-leb}
use Rattle.words.specs.Tests.{◌and◌}
use Rattle.words.specs.Words.{bit, run, includes}
use Rattle.words.proofs.Logic.{cases, clash, is_false, same, and_l, and_r, and_i}
use Rattle.words.proofs.Bits.{bit_low, bit_suc, bit_none, bit_and_lem, mask_agree, bits_same, bit_upper, low_zero, includes_true, includes_is, includes_le, includes_bits}
use Rattle.words.proofs.Parts.{run_lt}

pub lt_two_pow : (n : ℕ) → n < 2 ^ n
lt_two_pow zero = omega arith
lt_two_pow (suc n) = omega (arith, lt_two_pow n, pow-suc 2 n)

-- ---- a run of bits

bit_ones : (n i : ℕ) → bit (2 ^ n - 1) i ≡ ltb i n
bit_ones zero i = bit_none i ∙ sym (le-ltb i 0 (omega arith))
bit_ones (suc n) zero =
    let e : (2 ^ suc n - 1) % 2 ≡ 1 = omega (arith, pow-suc 2 n, pow_pos n) in
    bit_low (2 ^ suc n - 1) ∙ rw e (sym (lt-ltb 0 (suc n) (omega arith)))
bit_ones (suc n) (suc i) =
    let e : (2 ^ suc n - 1) / 2 ≡ 2 ^ n - 1 = omega (arith, pow-suc 2 n, pow_pos n) in
    bit_suc (2 ^ suc n - 1) i
    ∙ ap (λ (x : ℕ). bit x i) e
    ∙ bit_ones n i
    ∙ same (λ t. lt-ltb (suc i) (suc n) (omega (arith, ltb-true i n t))) (λ t. lt-ltb i n (omega (arith, ltb-true (suc i) (suc n) t)))

pub bit_run : (low width i : ℕ) → bit (run low width) i ≡ leb low i and ltb i (low + width)
unfolding run ◌and◌
bit_run low width i =
    cases (leb low i)
    (λ t. let h : low ≤ i = leb-true low i t in
    rw t (bit_upper low _ i h
    ∙ ap (λ (x : ℕ). bit x (i - low)) (mul-div_cancel (2 ^ width - 1) (pow_pos low))
    ∙ bit_ones width (i - low)
    ∙ same (λ u. lt-ltb i (low + width) (omega (arith, ltb-true (i - low) width u))) (λ u. lt-ltb (i - low) width (omega (arith, ltb-true i (low + width) u)))))
    (λ t. rw t (ap (λ (x : ℕ). bit x i) (mul_comm (2 ^ width - 1) (2 ^ low)) ∙ low_zero low (2 ^ width - 1) i (omega (arith, leb-false low i t))))

pub run_exactly : (low width i : ℕ) → (bit (run low width) i ≡ true) ↔ ((low ≤ i) × (i < low + width))
run_exactly low width i = (
  λ t. let s : leb low i and ltb i (low + width) ≡ true = sym (bit_run low width i) ∙ t in (leb-true _ _ (and_l _ s), ltb-true _ _ (and_r _ s)),
  λ h. bit_run low width i ∙ and_i (le-leb _ _ h.0) (lt-ltb _ _ h.1),
)

-- ---- a mask that another includes

pub includes_exactly : (a m : ℕ) → (includes a m ≡ true) ↔ ((i : ℕ) → bit m i ≡ true → bit a i ≡ true)
includes_exactly a m = (
  λ e i t. and_l _ (sym (bit_and_lem a m i) ∙ ap (λ (x : ℕ). bit x i) (includes_true a m e) ∙ t),
  λ f. includes_is a m (includes_bits m a m (lt_two_pow m) (λ i h t. f i t)),
)

-- ---- masks with no bit in common

pub apart_exactly : (a b : ℕ) → (bit_and a b ≡ 0) ↔ ((i : ℕ) → bit b i ≡ true → bit a i ≡ false)
apart_exactly a b = (
  λ e i t. is_false (λ s. clash (and_i s t) (sym (bit_and_lem a b i) ∙ ap (λ (x : ℕ). bit x i) e ∙ bit_none i)),
  λ f. bits_same (bit_and a b) (bit_and a b) 0 (lt_two_pow (bit_and a b)) (pow_pos (bit_and a b))
      (λ i h. is_false (λ t. let s : bit a i and bit b i ≡ true = sym (bit_and_lem a b i) ∙ t in clash (and_l _ s) (f i (and_r _ s))) ∙ sym (bit_none i)),
)

-- ---- a mask that has the bits of a run, and no other

pub run_only : (k low width m : ℕ) → low + width ≤ k → ((i : ℕ) → (bit m i ≡ true) ↔ ((low ≤ i) × (i < low + width))) → m ≡ run low width
run_only k low width m h f =
    let r = run_lt k low width h in
    let le = includes_le (run low width) m ((includes_exactly (run low width) m).1 (λ i t. (run_exactly low width i).1 ((f i).0 t))) in
    bits_same k m (run low width) (omega arith) r
    (λ i l. same (λ t. (run_exactly low width i).1 ((f i).0 t)) (λ t. (f i).1 ((run_exactly low width i).0 t)))

-- ---- a number under a mask: "word AND mask equals value", where the value has no bit outside the mask

both_under : (v m x : ℕ) → ((i : ℕ) → bit m i ≡ true → bit v i ≡ bit x i) → (i : ℕ) → bit v i and bit m i ≡ bit x i and bit m i
both_under v m x f i = same (λ t. and_i (sym (f i (and_r _ t)) ∙ and_l _ t) (and_r _ t)) (λ t. and_i (f i (and_r _ t) ∙ and_l _ t) (and_r _ t))

pub under_exactly : (v m x : ℕ) → includes m x ≡ true → (bit_and v m ≡ x) ↔ ((i : ℕ) → bit m i ≡ true → bit v i ≡ bit x i)
under_exactly v m x h =
    let own : bit_and x m ≡ x = and_comm x m ∙ includes_true m x h in
    let k : ℕ = bit_and v m + x in (
      λ e i t. mask_agree v x m i (e ∙ sym own) t,
      λ f. bits_same k (bit_and v m) x
          (le_trans (lt_two_pow (bit_and v m)) (pow_mono {i = bit_and v m} {j = k} (omega arith)))
          (le_trans (lt_two_pow x) (pow_mono {i = x} {j = k} (omega arith)))
          (λ i l. bit_and_lem v m i ∙ both_under v m x f i ∙ sym (bit_and_lem x m i) ∙ ap (λ (y : ℕ). bit y i) own),
    )
