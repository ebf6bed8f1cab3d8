use Prim.Native.Nat.{ℕ, ◌-◌}
use mathlib.Core.Bool.{Bool, true, false}
use mathlib.Core.Path.{◌≡◌, refl}
use mir.Val.{bool_byte}
use Rattle.numbers.specs.Whole.{size_bits}
use native.Mathlib.Nat.{sub-zero}
use Rattle.numbers.proofs.Form.size_bits.Goals as goal

bits : (s : Bool) (k : ℕ) → k - bool_byte s ≡ size_bits s k
unfolding size_bits
bits true k = refl
bits false k = sub-zero k

pub returns : goal.returns
returns c = bits c.args.self.sign c.args.self.width
