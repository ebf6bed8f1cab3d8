-- Stored values of k bits, with or without a sign, and the whole numbers that they stand for (document 02, No. 7).
use Rattle.std.specs.Prelude.{ℕ, suc, ◌-◌, ◌^◌, Bool, true, false, cond, leb, ℤ, pos, negsuc, neg_ℤ}
use Rattle.std.proofs.Math.IntN.{sub_ℕ}
use Rattle.std.specs.Int.Signed.{le_z}
use Rattle.words.specs.Tests.{◌and◌}

-- "two's complement": a value with a sign is below zero where its highest bit is set
unfoldable pub is_below : Bool → ℕ → ℕ → Bool
is_below sign k v = sign and leb (2 ^ (k - 1)) v

-- the whole number of a stored value: v − 2^k below zero, else v
unfoldable pub number_of : Bool → ℕ → ℕ → ℤ
number_of sign k v = cond (is_below sign k v) (sub_ℕ v (2 ^ k)) (pos v)

-- the bits of a value beside its sign
unfoldable pub size_bits : Bool → ℕ → ℕ
size_bits true k = k - 1
size_bits false k = k

-- the least and the greatest whole number of k bits
abbrev pub least : Bool → ℕ → ℤ
least true k = neg_ℤ (pos (2 ^ (k - 1)))
least false k = pos 0

abbrev pub greatest : Bool → ℕ → ℤ
greatest sign k = pos (2 ^ size_bits sign k - 1)

unfoldable pub in_range : Bool → ℕ → ℤ → Bool
in_range sign k z = le_z (least sign k) z and le_z z (greatest sign k)

-- the stored value of a number in range: n, and 2^k − n of a number −n
unfoldable pub value_of : ℕ → ℤ → ℕ
value_of k (pos n) = n
value_of k (negsuc m) = 2 ^ k - suc m

-- a whole number by its side of zero: n, or −1 − n
unfoldable pub on_side : Bool → ℕ → ℤ
on_side true n = negsuc n
on_side false n = pos n
