-- The parts of each head word, and the head word from its parts. Assumes nothing.
use mathlib.Core.Path.{◌≡◌, ap, ◌∙◌}
use Prim.Native.Nat.{ℕ, ◌+◌, ◌*◌, ◌/◌, ◌%◌, ◌^◌, ◌<◌}
use native.Mathlib.Nat.{mod-eq_of_lt, pow-zero, div-one}
use native.Mathlib.Omega.{arith}
use lib.Pow.{mod-pow-add, shr-shr}
use Rattle.words.specs.Words.{part, bits}
use Rattle.words.proofs.Parts.{part_lt}
use Rattle.table.specs.Table.{kind_of}

-- a part, split into its upper bits and its lowest
part_join : (w low k j : ℕ) → part w low (j + k) ≡ part w (low + k) j * 2 ^ k + part w low k
unfolding part
part_join w low k j =
    mod-pow-add (w / 2 ^ low) j k ∙ ap (λ (x : ℕ). x % 2 ^ j * 2 ^ k + w / 2 ^ low % 2 ^ k) (shr-shr w low k)

part_whole : (w : ℕ) → w < 2 ^ 32 → part w 0 32 ≡ w
unfolding part
part_whole w h = rw (pow-zero, div-one) (mod-eq_of_lt h)

-- ---- kind, bits 27–16, 15–8, 7–0: an entry's head word, a field, the first word
pub cut : (w : ℕ) → w < 2 ^ 32 → w ≡ kind_of w * 2 ^ 28 + bits 27 16 w * 2 ^ 16 + bits 15 8 w * 2 ^ 8 + bits 7 0 w
cut w h = omega (arith, part_whole w h, part_join w 0 28 4, part_join w 0 16 12, part_join w 0 8 8)

pub record Parts (w k u m l : ℕ) : Type 0 where
  pub kind : kind_of w ≡ k
  pub upper : bits 27 16 w ≡ u
  pub middle : bits 15 8 w ≡ m
  pub lower : bits 7 0 w ≡ l

pub parts : (w k u m l : ℕ) → k < 16 → u < 4096 → m < 256 → l < 256 → w ≡ k * 2 ^ 28 + u * 2 ^ 16 + m * 2 ^ 8 + l → Parts w k u m l
parts w k u m l hk hu hm hl e = omega (arith, cut w (omega arith), part_lt w 16 12, part_lt w 8 8, part_lt w 0 8)

-- bits 27–24 and 23–16
pub form_cut : (w : ℕ) → bits 27 16 w ≡ bits 27 24 w * 2 ^ 8 + bits 23 16 w
form_cut w = part_join w 16 8 4

pub form_parts : (w a b : ℕ) → b < 256 → bits 27 16 w ≡ a * 2 ^ 8 + b → (bits 27 24 w ≡ a) × (bits 23 16 w ≡ b)
form_parts w a b h e = omega (arith, form_cut w, part_lt w 16 8)

-- the two halves of bits 7–0
pub low_cut : (w : ℕ) → bits 7 0 w ≡ bits 7 4 w * 2 ^ 4 + bits 3 0 w
low_cut w = part_join w 0 4 4

pub low_parts : (w a b : ℕ) → b < 16 → bits 7 0 w ≡ a * 2 ^ 4 + b → (bits 7 4 w ≡ a) × (bits 3 0 w ≡ b)
low_parts w a b h e = omega (arith, low_cut w, part_lt w 0 4)

-- ---- kind, bits 27–4, 3–0: a condition
pub count_cut : (w : ℕ) → w < 2 ^ 32 → w ≡ kind_of w * 2 ^ 28 + bits 27 4 w * 2 ^ 4 + bits 3 0 w
count_cut w h = omega (arith, part_whole w h, part_join w 0 28 4, part_join w 0 4 24)

pub count_parts : (w k n : ℕ) → k < 16 → n < 16 → w ≡ k * 2 ^ 28 + n → (kind_of w ≡ k) × (bits 27 4 w ≡ 0) × (bits 3 0 w ≡ n)
count_parts w k n hk hn e = omega (arith, count_cut w (omega arith), part_lt w 4 24, part_lt w 0 4)

-- ---- kind, and no other bit: an unmatching pattern
pub bare_cut : (w : ℕ) → w < 2 ^ 32 → w ≡ kind_of w * 2 ^ 28 + bits 27 0 w
bare_cut w h = omega (arith, part_whole w h, part_join w 0 28 4)
