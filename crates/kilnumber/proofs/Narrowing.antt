-- Every signed number of a field has room in the 64 bits. Assumes nothing.
use mathlib.Core.Bool.{Bool}
use mathlib.Core.Path.{◌≡◌, refl, sym, ap, ◌∙◌}
use Prim.Native.Nat.{ℕ, ◌<◌, ◌^◌}
use native.Mathlib.Omega.{arith}
use lib.IntN.{ℤ}
use lib.Signed.{mag}
use mir.Syntax.{w64}
use mir.Val.{SFits, to_z, of_z}
use mir.Facts.{to_z-of_z}
use Rattle.words.specs.Outcome.{Outcome, result, faulty, refused}
use Rattle.numbers.specs.Whole.{on_side}
use Rattle.numbers.specs.Calls.{signed_of}
use Rattle.numbers.proofs.Numbers.{signed_small}
use Rattle.numbers.proofs.Sides.{size_of}
use Rattle.kilnumber.specs.Packed.{Narrow}

pub narrow : (w v : ℕ) → Narrow (signed_of w v)
unfolding Narrow
narrow w v = go (signed_of w v) refl
  where
    go : (o : Outcome ℤ) → signed_of w v ≡ o → Narrow o
    go (result z) e = signed_small w v z e
    go (faulty n p) e = tt
    go (refused n p x) e = tt

-- such a number z, read back from its bits, on its side
pub size_narrow : (w v : ℕ) (z : ℤ) → result z ≡ signed_of w v → (b : Bool) (n : ℕ) → on_side b n ≡ to_z w64 (of_z w64 z) → n < 2 ^ 32
size_narrow w v z e b n s =
    let small : mag z < 2 ^ 32 = signed_small w v z (sym e) in
    let f : SFits w64 z = record { sfits = omega (arith, small) } in
    omega (arith, sym (size_of b n) ∙ ap mag (s ∙ to_z-of_z f), small)
