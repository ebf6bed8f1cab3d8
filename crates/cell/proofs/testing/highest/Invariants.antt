use Prim.Native.Nat.{ℕ, ◌≤◌, ◌<◌}
use mathlib.Core.Path.{◌≡◌}
use Rattle.cell.specs.Decide.{unfixed_in}
use Rattle.cell.proofs.testing.highest.Given as goal

abbrev pub invariant-loop-i : goal.invariant-loop-i
invariant-loop-i l = (j : ℕ) → l.i ≤ j → j < l.width → unfixed_in l.mask l.fixed j ≡ 0
