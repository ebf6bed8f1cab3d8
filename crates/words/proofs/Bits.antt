-- Laws of the bits of a number: of and, of or, of a power of two, of a bit set, of its two parts; numbers with the same bits are the same.
-- Assumes nothing.
use Prim.Native.Nat.{ℕ, zero, suc, ◌≤◌, ◌<◌, ◌+◌, ◌-◌, ◌*◌, ◌/◌, ◌%◌, ◌^◌, min, max, suc-le-suc}
use native.Mathlib.Omega.{arith}
use native.Mathlib.Nat.{mod-lt, pow-suc, pow-zero, div-one, div-eq_of_lt, mul_right_comm, min-zero, div-add-mod', zero-lt-suc}
use native.Mathlib.Numerals.{one-add}
use mathlib.Core.Path.{◌≡◌, refl, sym, ap, ap₂, ◌∙◌}
use mathlib.Core.Logic.{◌⊎◌, inl, inr}
use mathlib.Core.Bool.{Bool, true, false, not, cond}
use lib.Bits.{bit_and, bit_or, and_step, or_step, and_zero_r, or_zero_l, or_zero_r, or_shr, and_shr, and_mask, and_le_l}
use lib.Pow.{pow-lt, shr-shr}
use borrow.Author.Tests.{eqb-true, eq-eqb}
use Rattle.words.proofs.Logic.{cases, clash, same, is_true, and_l, and_r, and_i, or_il, or_ir, not_t, not_it, exists_at, exists_none}
use lib.Arith.{bin_ind}
use lib.Dec.{eqb}
use Rattle.words.specs.Tests.{◌and◌, ◌or◌, exists}
use Rattle.words.specs.Words.{bit, includes}

join : {r s c d : ℕ} → r ≡ s → c ≡ d → r * 2 + c ≡ s * 2 + d
join p q = ap₂ (λ (x y : ℕ). x * 2 + y) p q

half_and : (a b : ℕ) → bit_and a b / 2 ≡ bit_and (a / 2) (b / 2)
half_and a b = omega (arith, and_step a b)

odd_and : (a b : ℕ) → bit_and a b % 2 ≡ min (a % 2) (b % 2)
odd_and a b = omega (arith, and_step a b)

half_or : (a b : ℕ) → bit_or a b / 2 ≡ bit_or (a / 2) (b / 2)
half_or a b = omega (arith, or_step a b)

odd_or : (a b : ℕ) → bit_or a b % 2 ≡ max (a % 2) (b % 2)
odd_or a b = omega (arith, or_step a b)

min_assoc : (a b c : ℕ) → min (min a b) c ≡ min a (min b c)
min_assoc a b c = omega arith

pub and_assoc : (a b c : ℕ) → bit_and (bit_and a b) c ≡ bit_and a (bit_and b c)
and_assoc a =
    bin_ind (λ (n : ℕ). (b c : ℕ) → bit_and (bit_and n b) c ≡ bit_and n (bit_and b c)) (λ b c. refl)
    (λ n ih b c. and_step (bit_and n b) c
    ∙ join (ap (λ (x : ℕ). bit_and x (c / 2)) (half_and n b) ∙ ih (b / 2) (c / 2) ∙ ap (bit_and (n / 2)) (sym (half_and b c)))
    (ap (λ (x : ℕ). min x (c % 2)) (odd_and n b) ∙ min_assoc (n % 2) (b % 2) (c % 2) ∙ ap (min (n % 2)) (sym (odd_and b c)))
    ∙ sym (and_step n (bit_and b c))) a

max_assoc : (a b c : ℕ) → max (max a b) c ≡ max a (max b c)
max_assoc a b c = omega arith

pub or_assoc : (a b c : ℕ) → bit_or (bit_or a b) c ≡ bit_or a (bit_or b c)
or_assoc a =
    bin_ind (λ (n : ℕ). (b c : ℕ) → bit_or (bit_or n b) c ≡ bit_or n (bit_or b c))
    (λ b c. ap (λ (x : ℕ). bit_or x c) (or_zero_l b) ∙ sym (or_zero_l (bit_or b c)))
    (λ n ih b c. or_step (bit_or n b) c
    ∙ join (ap (λ (x : ℕ). bit_or x (c / 2)) (half_or n b) ∙ ih (b / 2) (c / 2) ∙ ap (bit_or (n / 2)) (sym (half_or b c)))
    (ap (λ (x : ℕ). max x (c % 2)) (odd_or n b) ∙ max_assoc (n % 2) (b % 2) (c % 2) ∙ ap (max (n % 2)) (sym (odd_or b c)))
    ∙ sym (or_step n (bit_or b c))) a

min_max : (a b c : ℕ) → min a (max b c) ≡ max (min a b) (min a c)
min_max a b c = omega arith

pub and_or : (a b c : ℕ) → bit_and a (bit_or b c) ≡ bit_or (bit_and a b) (bit_and a c)
and_or a =
    bin_ind (λ (n : ℕ). (b c : ℕ) → bit_and n (bit_or b c) ≡ bit_or (bit_and n b) (bit_and n c)) (λ b c. refl)
    (λ n ih b c. and_step n (bit_or b c)
    ∙ join (ap (bit_and (n / 2)) (half_or b c) ∙ ih (b / 2) (c / 2) ∙ ap₂ bit_or (sym (half_and n b)) (sym (half_and n c)))
    (ap (min (n % 2)) (odd_or b c) ∙ min_max (n % 2) (b % 2) (c % 2) ∙ ap₂ max (sym (odd_and n b)) (sym (odd_and n c)))
    ∙ sym (or_step (bit_and n b) (bit_and n c))) a

-- ---- a bit

pub bit_low : (w : ℕ) → bit w 0 ≡ eqb (w % 2) 1
unfolding bit
bit_low w = rw (pow-zero, div-one)

pub bit_suc : (w i : ℕ) → bit w (suc i) ≡ bit (w / 2) i
unfolding bit
bit_suc w i = ap (λ (x : ℕ). eqb (x % 2) 1) (ap (λ (x : ℕ). w / 2 ^ x) (sym (one-add i)) ∙ sym (shr-shr w 1 i))

pub bit_none : (i : ℕ) → bit 0 i ≡ false
bit_none zero = bit_low 0
bit_none (suc i) = bit_suc 0 i ∙ bit_none i

digit : (x : ℕ) → x < 2 → (x ≡ 0) ⊎ (x ≡ 1)
digit zero h = inl refl
digit (suc zero) h = inr refl
digit (suc (suc x)) h = absurd (omega arith)

digit_or : (x y : ℕ) → x < 2 → y < 2 → eqb (max x y) 1 ≡ eqb x 1 or eqb y 1
unfolding ◌or◌
digit_or x y h k = go (digit x h) (digit y k)
  where
    go : (x ≡ 0) ⊎ (x ≡ 1) → (y ≡ 0) ⊎ (y ≡ 1) → eqb (max x y) 1 ≡ eqb x 1 or eqb y 1
    go (inl p) (inl q) = rw (p, q)
    go (inl p) (inr q) = rw (p, q)
    go (inr p) (inl q) = rw (p, q)
    go (inr p) (inr q) = rw (p, q)

pub bit_or_lem : (a b i : ℕ) → bit (bit_or a b) i ≡ bit a i or bit b i
unfolding bit
bit_or_lem a b i =
    ap (λ (x : ℕ). eqb (x % 2) 1) (or_shr a b i)
    ∙ ap (λ (x : ℕ). eqb x 1) (odd_or (a / 2 ^ i) (b / 2 ^ i))
    ∙ digit_or (a / 2 ^ i % 2) (b / 2 ^ i % 2) (mod-lt _ (zero-lt-suc 1)) (mod-lt _ (zero-lt-suc 1))

digit_and : (x y : ℕ) → x < 2 → y < 2 → eqb (min x y) 1 ≡ eqb x 1 and eqb y 1
unfolding ◌and◌
digit_and x y h k = go (digit x h) (digit y k)
  where
    go : (x ≡ 0) ⊎ (x ≡ 1) → (y ≡ 0) ⊎ (y ≡ 1) → eqb (min x y) 1 ≡ eqb x 1 and eqb y 1
    go (inl p) (inl q) = rw (p, q)
    go (inl p) (inr q) = rw (p, q)
    go (inr p) (inl q) = rw (p, q)
    go (inr p) (inr q) = rw (p, q)

pub bit_and_lem : (a b i : ℕ) → bit (bit_and a b) i ≡ bit a i and bit b i
unfolding bit
bit_and_lem a b i =
    ap (λ (x : ℕ). eqb (x % 2) 1) (and_shr a b i)
    ∙ ap (λ (x : ℕ). eqb x 1) (odd_and (a / 2 ^ i) (b / 2 ^ i))
    ∙ digit_and (a / 2 ^ i % 2) (b / 2 ^ i % 2) (mod-lt _ (zero-lt-suc 1)) (mod-lt _ (zero-lt-suc 1))

-- words that agree on a mask agree on each of its bits
pub mask_agree : (v w m b : ℕ) → bit_and v m ≡ bit_and w m → bit m b ≡ true → bit v b ≡ bit w b
mask_agree v w m b e h = same (λ t. one v w e t) (λ t. one w v (sym e) t)
  where
    one : (x y : ℕ) → bit_and x m ≡ bit_and y m → bit x b ≡ true → bit y b ≡ true
    one x y q t = and_l _ (sym (bit_and_lem y m b) ∙ ap (λ (z : ℕ). bit z b) (sym q) ∙ bit_and_lem x m b ∙ and_i t h)

-- numbers below 2 ^ k are equal when their bits are
pub bits_same : (k a b : ℕ) → a < 2 ^ k → b < 2 ^ k → ((i : ℕ) → i < k → bit a i ≡ bit b i) → a ≡ b
bits_same zero a b ha hb f = omega arith
bits_same (suc k) a b ha hb f =
    sym (div-add-mod' a 2)
    ∙ join (bits_same k (a / 2) (b / 2) (omega arith) (omega arith) (λ i h. sym (bit_suc a i) ∙ f (suc i) (suc-le-suc h) ∙ bit_suc b i))
    (low (digit (a % 2) (mod-lt a (zero-lt-suc 1))) (digit (b % 2) (mod-lt b (zero-lt-suc 1))))
    ∙ div-add-mod' b 2
  where
    first_bit : eqb (a % 2) 1 ≡ eqb (b % 2) 1
    first_bit = sym (bit_low a) ∙ f 0 (zero-lt-suc k) ∙ bit_low b

    low : (a % 2 ≡ 0) ⊎ (a % 2 ≡ 1) → (b % 2 ≡ 0) ⊎ (b % 2 ≡ 1) → a % 2 ≡ b % 2
    low (inl p) (inl q) = cc
    low (inl p) (inr q) = clash (first_bit ∙ rw q) (rw p)
    low (inr p) (inl q) = clash (sym first_bit ∙ rw p) (rw q)
    low (inr p) (inr q) = cc

-- ---- a power of two

pow_half : (i : ℕ) → 2 ^ suc i / 2 ≡ 2 ^ i
pow_half i = omega (arith, pow-suc 2 i)

pow_even : (i : ℕ) → 2 ^ suc i % 2 ≡ 0
pow_even i = omega (arith, pow-suc 2 i)

pub bit_pow : (i : ℕ) → bit (2 ^ i) i ≡ true
bit_pow zero = bit_low 1
bit_pow (suc i) = bit_suc (2 ^ suc i) i ∙ ap (λ (x : ℕ). bit x i) (pow_half i) ∙ bit_pow i

pub bit_pow_other : (i j : ℕ) → ¬ (j ≡ i) → bit (2 ^ i) j ≡ false
bit_pow_other zero zero h = absurd (h refl)
bit_pow_other zero (suc j) h = bit_suc 1 j ∙ bit_none j
bit_pow_other (suc i) zero h = bit_low (2 ^ suc i) ∙ ap (λ (x : ℕ). eqb x 1) (pow_even i)
bit_pow_other (suc i) (suc j) h =
    bit_suc (2 ^ suc i) j ∙ ap (λ (x : ℕ). bit x j) (pow_half i) ∙ bit_pow_other i j (λ e. h (ap suc e))

-- the bit i of w alone
pub and_pow : (w i : ℕ) → bit_and w (2 ^ i) ≡ cond (bit w i) (2 ^ i) 0
and_pow w zero = and_mask w 1 ∙ go (digit (w % 2) (mod-lt w (zero-lt-suc 1)))
  where
    go : (w % 2 ≡ 0) ⊎ (w % 2 ≡ 1) → w % 2 ≡ cond (bit w 0) 1 0
    go (inl e) = rw (bit_low w, e)
    go (inr e) = rw (bit_low w, e)
and_pow w (suc i) =
    and_step w (2 ^ suc i)
    ∙ ap₂ (λ (x y : ℕ). bit_and (w / 2) x * 2 + min (w % 2) y) (pow_half i) (pow_even i)
    ∙ join (and_pow (w / 2) i) (min-zero (w % 2))
    ∙ rw (bit_suc w i) (cases (bit (w / 2) i) (λ h. rw h (omega (arith, pow-suc 2 i))) (λ h. rw h))

-- ---- a number with one bit set

or_false : (b : Bool) → b or false ≡ b
unfolding ◌or◌
or_false true = refl
or_false false = refl

pub set_own : (v b : ℕ) → bit (bit_or v (2 ^ b)) b ≡ true
set_own v b = bit_or_lem v (2 ^ b) b ∙ or_ir _ (bit_pow b)

pub set_other : (v b i : ℕ) → ¬ (i ≡ b) → bit (bit_or v (2 ^ b)) i ≡ bit v i
set_other v b i h = bit_or_lem v (2 ^ b) i ∙ ap (λ (x : Bool). bit v i or x) (bit_pow_other b i h) ∙ or_false (bit v i)

-- what was set stays set
pub set_more : (v b i : ℕ) → bit v i ≡ true → bit (bit_or v (2 ^ b)) i ≡ true
set_more v b i t = bit_or_lem v (2 ^ b) i ∙ or_il _ t

-- ---- the bits from k on, and those below

pub bit_upper : (k w b : ℕ) → k ≤ b → bit w b ≡ bit (w / 2 ^ k) (b - k)
unfolding bit
bit_upper k w b h =
    let e : k + (b - k) ≡ b = omega arith in
    ap (λ (x : ℕ). eqb (x % 2) 1) (ap (λ (j : ℕ). w / 2 ^ j) (sym e) ∙ sym (shr-shr w k (b - k)))

pub low_zero : (k x i : ℕ) → i < k → bit (2 ^ k * x) i ≡ false
low_zero zero x i h = absurd (omega arith)
low_zero (suc k) x zero h =
    let e : 2 ^ suc k * x ≡ 2 ^ k * x * 2 = ap (λ (y : ℕ). y * x) (pow-suc 2 k) ∙ mul_right_comm (2 ^ k) 2 x in
    let z : (2 ^ suc k * x) % 2 ≡ 0 = omega arith in
    bit_low (2 ^ suc k * x) ∙ rw z
low_zero (suc k) x (suc i) h =
    let e : 2 ^ suc k * x ≡ 2 ^ k * x * 2 = ap (λ (y : ℕ). y * x) (pow-suc 2 k) ∙ mul_right_comm (2 ^ k) 2 x in
    let z : 2 ^ suc k * x / 2 ≡ 2 ^ k * x = omega arith in
    bit_suc (2 ^ suc k * x) i ∙ ap (λ (y : ℕ). bit y i) z ∙ low_zero k x i (omega arith)

-- a bit below k leaves those from k on
pub set_upper : (k v b : ℕ) → b < k → bit_or v (2 ^ b) / 2 ^ k ≡ v / 2 ^ k
set_upper k v b h = or_shr v (2 ^ b) k ∙ ap (bit_or (v / 2 ^ k)) (div-eq_of_lt (pow-lt h)) ∙ or_zero_r (v / 2 ^ k)

-- ---- a mask that includes another

pub includes_true : (a b : ℕ) → includes a b ≡ true → bit_and a b ≡ b
unfolding includes
includes_true a b e = eqb-true _ _ e

pub includes_is : (a b : ℕ) → bit_and a b ≡ b → includes a b ≡ true
unfolding includes
includes_is a b e = eq-eqb _ _ e

-- what a mask includes is no greater than it
pub includes_le : (a b : ℕ) → includes a b ≡ true → b ≤ a
includes_le a b e = omega (arith, and_le_l a b, includes_true a b e)

-- a mask that has every bit of another below 2 ^ k includes it
pub includes_bits : (k f m : ℕ) → m < 2 ^ k → ((i : ℕ) → i < k → bit m i ≡ true → bit f i ≡ true) → bit_and f m ≡ m
includes_bits zero f m h g = let z : m ≡ 0 = omega arith in rw z (and_zero_r f)
includes_bits (suc k) f m h g =
    and_step f m
    ∙ join (includes_bits k (f / 2) (m / 2) (omega (arith, pow-suc 2 k)) (λ i l t. sym (bit_suc f i) ∙ g (suc i) (omega arith) (bit_suc m i ∙ t)))
    (go (digit (f % 2) (mod-lt f (zero-lt-suc 1))) (digit (m % 2) (mod-lt m (zero-lt-suc 1))))
    ∙ div-add-mod' m 2
  where
    low : m % 2 ≡ 1 → f % 2 ≡ 0 → ⊥
    low e d = clash (sym (bit_low f) ∙ g 0 (omega arith) (bit_low m ∙ rw e)) (rw d)

    go : (f % 2 ≡ 0) ⊎ (f % 2 ≡ 1) → (m % 2 ≡ 0) ⊎ (m % 2 ≡ 1) → min (f % 2) (m % 2) ≡ m % 2
    go d (inl e) = omega arith
    go (inl d) (inr e) = absurd (low e d)
    go (inr d) (inr e) = omega arith

-- a mask that does not include another: the bit that is missing
pub missing : (k f m : ℕ) → m < 2 ^ k → includes f m ≡ false → (i : ℕ) × (i < k) × (bit m i ≡ true) × (bit f i ≡ false)
missing k f m h e =
    cases (exists (λ i. bit m i and not (bit f i)) k)
    (λ t. let r = exists_at (λ i. bit m i and not (bit f i)) k t in (r.0, r.1, and_l _ r.2, not_t (and_r _ r.2)))
    (λ t. clash (includes_is f m (includes_bits k f m h (λ i l b. is_true (λ c. clash (and_i b (not_it c)) (exists_none (λ i. bit m i and not (bit f i)) k t i l))))) e)
