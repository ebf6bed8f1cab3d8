-- Parts and runs of bits of a machine word, by shift and mask. Assumes nothing.
use mathlib.Core.Path.{◌≡◌, sym, ap, ◌∙◌}
use mathlib.Core.Bool.{true}
use Prim.Native.Nat.{ℕ, ◌+◌, ◌-◌, ◌*◌, ◌/◌, ◌%◌, ◌^◌, ◌≤◌, ◌<◌}
use native.Mathlib.Nat.{one-mul, add-mul, mul_assoc, mul_right_comm, mod-lt, mod-eq_of_lt, div-eq_of_lt, zero-mod, pow-zero, div-one, mul-mod_left, mul-add-mod_self_right, mul-add-div_right, add-zero, le_trans}
use native.Mathlib.Omega.{arith}
use lib.Bits.{bit_and, and_mask}
use lib.Dec.{lit<, eqb, ltb}
use lib.Pow.{shl_exact, shl_lt, pow-add, pow_mono, pow_pos, shr_le, ones_lt, ones_split}
use borrow.Author.Tests.{lt-ltb}
use Rattle.words.specs.Words.{bit, part, run}

-- `1 << n` at 32 bits
pub one_shl : (n : ℕ) → n < 32 → (1 * 2 ^ n) % 2 ^ 32 ≡ 2 ^ n
one_shl n h = shl_exact {a = 1} 1 n 32 (lit< tt) (omega arith) ∙ one-mul (2 ^ n)

pub one_below : (width : ℕ) → width < 32 → 1 ≤ (1 * 2 ^ width) % 2 ^ 32
one_below width h = rw (one_shl width h) (pow_pos width)

-- ---- parts

pub part_out : (w low width : ℕ) → w < 2 ^ 32 → 32 ≤ low → 0 ≡ part w low width
unfolding part
part_out w low width h l = sym (ap (λ (x : ℕ). x % 2 ^ width) (div-eq_of_lt (le_trans h (pow_mono l))) ∙ zero-mod (2 ^ width))

pub part_all : (w low width : ℕ) → w < 2 ^ 32 → 32 ≤ width → w / 2 ^ low ≡ part w low width
unfolding part
part_all w low width h l =
    let g : 2 ^ 32 ≤ 2 ^ width = pow_mono l in
    sym (mod-eq_of_lt (le_trans (omega (arith, shr_le w low)) g))

pub part_some : (w low width : ℕ) → width < 32 → bit_and (w / 2 ^ low) ((1 * 2 ^ width) % 2 ^ 32 - 1) ≡ part w low width
unfolding part
part_some w low width h = ap (λ (x : ℕ). bit_and (w / 2 ^ low) (x - 1)) (one_shl width h) ∙ and_mask (w / 2 ^ low) width

-- the same by shift and mask, where the width is a literal: `(w >> low) & 127`, `w & 65535`, `w >> 28`
pub part_mask : (w low k : ℕ) → bit_and (w / 2 ^ low) (2 ^ k - 1) ≡ part w low k
unfolding part
part_mask w low k = and_mask (w / 2 ^ low) k

pub part_low : (w k : ℕ) → bit_and w (2 ^ k - 1) ≡ part w 0 k
unfolding part
part_low w k = rw (pow-zero, div-one) (and_mask w k)

pub part_top : (w : ℕ) → w < 2 ^ 32 → w / 2 ^ 28 ≡ part w 28 4
unfolding part
part_top w h = sym (mod-eq_of_lt (omega arith))

-- a part is below the power of its width
pub part_lt : (w low width : ℕ) → part w low width < 2 ^ width
unfolding part
part_lt w low width = mod-lt _ (pow_pos width)

-- a part of a word that is read, as the code takes it
pub part_of : (n x w low width : ℕ) → n ≡ part x low width → x ≡ w → n ≡ part w low width
part_of n x w low width e f = e ∙ ap (λ (y : ℕ). part y low width) f

-- ---- runs

pub run_out : (low width : ℕ) → 32 ≤ low → 0 ≡ run low width % 2 ^ 32
unfolding run
run_out low width h =
    let e : low - 32 + 32 ≡ low = omega arith in
    sym (
    ap (λ (x : ℕ). ((2 ^ width - 1) * 2 ^ x) % 2 ^ 32) (sym e)
    ∙ ap (λ (x : ℕ). ((2 ^ width - 1) * x) % 2 ^ 32) (pow-add 2 (low - 32) 32)
    ∙ ap (λ (x : ℕ). x % 2 ^ 32) (sym (mul_assoc (2 ^ width - 1) (2 ^ (low - 32)) (2 ^ 32)))
    ∙ mul-mod_left ((2 ^ width - 1) * 2 ^ (low - 32)) (2 ^ 32)
    )

pub run_all : (low width : ℕ) → 32 ≤ width → ((2 ^ 32 - 1) * 2 ^ low) % 2 ^ 32 ≡ run low width % 2 ^ 32
unfolding run
run_all low width h =
    let e : width - 32 + 32 ≡ width = omega arith in
    let a : ℕ = 2 ^ (width - 32) - 1 in
    sym (
    ap (λ (x : ℕ). ((2 ^ x - 1) * 2 ^ low) % 2 ^ 32) (sym e)
    ∙ ap (λ (x : ℕ). (x * 2 ^ low) % 2 ^ 32) (ones_split (width - 32) 32)
    ∙ ap (λ (x : ℕ). x % 2 ^ 32) (add-mul (a * 2 ^ 32) (2 ^ 32 - 1) (2 ^ low))
    ∙ ap (λ (x : ℕ). (x + (2 ^ 32 - 1) * 2 ^ low) % 2 ^ 32) (mul_right_comm a (2 ^ 32) (2 ^ low))
    ∙ mul-add-mod_self_right (a * 2 ^ low) (2 ^ 32) ((2 ^ 32 - 1) * 2 ^ low)
    )

pub run_some : (low width : ℕ) → width < 32 → (((1 * 2 ^ width) % 2 ^ 32 - 1) * 2 ^ low) % 2 ^ 32 ≡ run low width % 2 ^ 32
unfolding run
run_some low width h = ap (λ (x : ℕ). ((x - 1) * 2 ^ low) % 2 ^ 32) (one_shl width h)

-- a run of bits below bit k is below 2 ^ k
pub run_lt : (k low width : ℕ) → low + width ≤ k → run low width < 2 ^ k
unfolding run
run_lt k low width h =
    let g : 2 ^ (width + low) ≤ 2 ^ k = pow_mono (omega arith) in
    le_trans (shl_lt {a = 2 ^ width - 1} width low (ones_lt width)) g

-- a run of bits below bit 32 is whole
pub run_whole : (low width : ℕ) → low + width ≤ 32 → run low width % 2 ^ 32 ≡ run low width
run_whole low width h = mod-eq_of_lt (run_lt 32 low width h)

-- a run by two shifts, without a test of the width: `(0xffff_ffff >> (32 - width)) << low`
ones_shr : (width rest : ℕ) → 32 ≡ width + rest → (2 ^ 32 - 1) / 2 ^ rest ≡ 2 ^ width - 1
ones_shr width rest e =
    ap (λ (x : ℕ). (2 ^ x - 1) / 2 ^ rest) e
    ∙ ap (λ (x : ℕ). x / 2 ^ rest) (ones_split width rest)
    ∙ mul-add-div_right (pow_pos rest) (2 ^ width - 1) (2 ^ rest - 1)
    ∙ ap (λ (x : ℕ). 2 ^ width - 1 + x) (div-eq_of_lt (ones_lt rest))
    ∙ add-zero (2 ^ width - 1)

pub run_shifts : (low width : ℕ) → low + width ≤ 32 → ((2 ^ 32 - 1) / 2 ^ (32 - width) * 2 ^ low) % 2 ^ 32 ≡ run low width
unfolding run
run_shifts low width h = ap (λ (x : ℕ). (x * 2 ^ low) % 2 ^ 32) (ones_shr width (32 - width) (omega arith)) ∙ run_whole low width h

-- ---- words of a width

pub fits_all : (w width : ℕ) → w < 2 ^ 32 → 32 ≤ width → true ≡ ltb w (2 ^ width)
fits_all w width h l = sym (lt-ltb w (2 ^ width) (le_trans h (pow_mono l)))

pub fits_some : (w width : ℕ) → width < 32 → ltb w ((1 * 2 ^ width) % 2 ^ 32) ≡ ltb w (2 ^ width)
fits_some w width h = ap (ltb w) (one_shl width h)

-- (w >> i) & 1 == 1
pub bit_shr : (w i : ℕ) → eqb (bit_and (w / 2 ^ i) 1) 1 ≡ bit w i
unfolding bit
bit_shr w i = ap (λ (x : ℕ). eqb x 1) (and_mask (w / 2 ^ i) 1)
