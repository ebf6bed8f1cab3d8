-- What comparing two addresses says. Assumes nothing.
use mathlib.Core.Path.{◌≡◌, sym, ◌∙◌}
use mathlib.Core.Bool.{Bool, true, false}
use Prim.Native.Nat.{◌≤◌, ◌<◌}
use Rattle.std.specs.Ordering.{nat_cmp, is_lt, is_le}
use Rattle.std.proofs.Common.{arith}
use Rattle.std.proofs.lemmas.Map.Keys.{le_from_is_le, ge_from_not_lt}
use Rattle.image.specs.declared.HalfwordAddress.{HalfwordAddress}

module _ (a b : HalfwordAddress) (t : Bool) where
  pub no_less : t ≡ is_lt (nat_cmp a.0 b.0) → t ≡ false → b.0 ≤ a.0
  no_less e q = ge_from_not_lt a.0 b.0 (sym e ∙ q)

  pub less : t ≡ is_lt (nat_cmp a.0 b.0) → t ≡ true → a.0 < b.0
  less e q = grind (arith)

  pub no_more : t ≡ is_le (nat_cmp a.0 b.0) → t ≡ true → a.0 ≤ b.0
  no_more e q = le_from_is_le a.0 b.0 (sym e ∙ q)

  pub more : t ≡ is_le (nat_cmp a.0 b.0) → t ≡ false → b.0 < a.0
  more e q = grind (arith)
