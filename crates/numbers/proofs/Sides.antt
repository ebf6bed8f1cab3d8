-- Whole numbers of 64 bits by their side of zero. The machine reads a signed number back from its bits, as `to_z w64 (of_z w64 z)`: `y` is one
-- that was read so. Assumes nothing.
use Prim.Native.Nat.{ℕ, zero, suc, ◌<◌, ◌^◌}
use mathlib.Core.Bool.{Bool, true, false}
use mathlib.Core.Path.{◌≡◌, refl, sym, ap, subst, ◌∙◌}
use native.Mathlib.Omega.{arith}
use lib.IntN.{ℤ, pos, negsuc, nat_abs, ◌-ℤ◌}
use lib.Signed.{lt_z, mag}
use borrow.Author.Tests.{ltb-true, le-ltb}
use mir.Syntax.{w64}
use mir.Val.{SFits, to_z, of_z}
use mir.Facts.{to_z-of_z, to_z_pos, Fits-of_z, sfits_to_z}
use Rattle.numbers.specs.Whole.{on_side}

-- ---- from a side

-- −1 − n
mirrored : (n : ℕ) → negsuc 0 -ℤ pos n ≡ negsuc n
mirrored zero = refl
mirrored (suc n) = ap negsuc (omega arith)

module _ (n : ℕ) (h : n < 2 ^ 63) where
  above : to_z w64 n ≡ pos n
  above = to_z_pos w64 h

  less : negsuc 0 -ℤ to_z w64 n ≡ negsuc n
  less = ap (λ (z : ℤ). negsuc 0 -ℤ z) above ∙ mirrored n

  less_fits : SFits w64 (negsuc 0 -ℤ to_z w64 n)
  less_fits = subst (SFits w64) (sym less) (record { sfits = h })

  pub below_side : (b : Bool) → b ≡ true → to_z w64 (of_z w64 (negsuc 0 -ℤ to_z w64 n)) ≡ on_side b n
  unfolding on_side
  below_side b e = rw e (to_z-of_z less_fits ∙ less)

  pub above_side : (b : Bool) → b ≡ false → to_z w64 n ≡ on_side b n
  unfolding on_side
  above_side b e = rw e above

-- ---- from a number

-- a signed number fits when it was read, too
pub read_fits : {z : ℤ} → SFits w64 z → SFits w64 (to_z w64 (of_z w64 z))
read_fits f = sfits_to_z (Fits-of_z f)

above_is : (y : ℤ) → lt_z y (pos 0) ≡ false → y ≡ pos (mag y)
above_is (pos n) t = refl
above_is (negsuc n) t = let z : true ≡ false = t in cc

below_is : (y : ℤ) → lt_z y (pos 0) ≡ true → y ≡ negsuc (mag y)
below_is (pos n) t = absurd (omega (arith, ltb-true n 0 t))
below_is (negsuc n) t = refl

mirrored_back : (n : ℕ) → negsuc 0 -ℤ negsuc n ≡ pos n
mirrored_back n = rw (le-ltb (suc n) 1 (omega arith)) (ap pos (omega arith))

module _ (y : ℤ) (f : SFits w64 y) where
  pub above_size : lt_z y (pos 0) ≡ false → on_side false (nat_abs y) ≡ y
  unfolding on_side
  above_size t = ap pos (ap nat_abs (above_is y t)) ∙ sym (above_is y t)

  module _ (t : lt_z y (pos 0) ≡ true) where
    mirror : negsuc 0 -ℤ y ≡ pos (mag y)
    mirror = ap (λ (z : ℤ). negsuc 0 -ℤ z) (below_is y t) ∙ mirrored_back (mag y)

    mirror_fits : SFits w64 (negsuc 0 -ℤ y)
    mirror_fits = subst (SFits w64) (sym mirror) (record { sfits = f.sfits })

    mirror_read : to_z w64 (of_z w64 (negsuc 0 -ℤ y)) ≡ pos (mag y)
    mirror_read = to_z-of_z mirror_fits ∙ mirror

    pub below_size : on_side true (nat_abs (to_z w64 (of_z w64 (negsuc 0 -ℤ y)))) ≡ y
    unfolding on_side
    below_size = ap negsuc (ap nat_abs mirror_read) ∙ sym (below_is y t)

-- the size of a number on a side
pub size_of : (b : Bool) (n : ℕ) → mag (on_side b n) ≡ n
unfolding on_side
size_of true n = refl
size_of false n = refl
