-- What a program in C has of a count's 64 bits: no refusal, and every count that a list in memory can have. Assumes nothing.
use Prim.Native.Nat.{ℕ, ◌+◌, ◌*◌, ◌^◌, ◌/◌, ◌%◌, ◌<◌}
use native.Mathlib.Omega.{arith}
use mathlib.Core.Path.{◌≡◌}
use Rattle.words.specs.Outcome.{result}
use Rattle.kilnumber.specs.Packed.{packed_count}

pub no_number : (n : ℕ) → packed_count (result n) / 2 ^ 32 % 2 ^ 8 ≡ 0
no_number n = omega arith

pub count_back : (n : ℕ) → n < 2 ^ 56 → packed_count (result n) % 2 ^ 32 + packed_count (result n) / 2 ^ 40 * 2 ^ 32 ≡ n
count_back n h = let q : n / 2 ^ 32 % 2 ^ 24 ≡ n / 2 ^ 32 = omega arith in rw q (omega arith)
