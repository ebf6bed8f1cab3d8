-- The bits below the width of a table that was read. Assumes nothing.
use Prim.Native.Nat.{ℕ, ◌<◌}
use native.Mathlib.Omega.{arith}
use Rattle.table.specs.declared.Table as held
use Rattle.table.proofs.Views.{ready_wide}

pub bit_low : (t : held.Table) {b : ℕ} → b < t.width → b < 32
bit_low t h = omega (arith, ready_wide _ _ _ _ t.ready)
