-- The word with one bit set, as the code makes it. Assumes nothing.
use mathlib.Core.Path.{◌≡◌, ◌∙◌}
use Prim.Native.Nat.{ℕ, ◌%◌, ◌^◌, ◌<◌}
use native.Mathlib.Omega.{arith}
use native.Mathlib.Nat.{one-mul}
use Rattle.words.specs.Words.{run}
use Rattle.words.proofs.Parts.{run_whole}

pub one_bit : (b : ℕ) → b < 32 → run b 1 % 2 ^ 32 ≡ 2 ^ b
unfolding run
one_bit b h = run_whole b 1 (omega arith) ∙ one-mul (2 ^ b)
