-- 32-bit words as numbers: the word at an index, the parts of a word, runs of bits. "Bit 0 is the lowest."
use Rattle.std.specs.Prelude.{ℕ, ◌+◌, ◌-◌, ◌*◌, ◌/◌, ◌%◌, ◌^◌, Bool, List, eqb, get_or}
use Rattle.std.specs.Int.Bits.{bit_and}

-- the word at an index; 0 past the end
abbrev pub word : List ℕ → ℕ → ℕ
word ws p = get_or ws p 0

-- bit i of the word w is 1
unfoldable pub bit : ℕ → ℕ → Bool
bit w i = eqb (w / 2 ^ i % 2) 1

-- the number that the `width` bits of w from bit `low` on make
unfoldable pub part : ℕ → ℕ → ℕ → ℕ
part w low width = w / 2 ^ low % 2 ^ width

-- bits hi–lo of a word, as the paper writes them: "bits 27–16" is `bits 27 16 w`
abbrev pub bits : ℕ → ℕ → ℕ → ℕ
bits hi lo w = part w lo (hi + 1 - lo)

-- the word in which the `width` bits from bit `low` on are set, and no other
unfoldable pub run : ℕ → ℕ → ℕ
run low width = (2 ^ width - 1) * 2 ^ low

-- every bit of b is a bit of a
unfoldable pub includes : ℕ → ℕ → Bool
includes a b = eqb (bit_and a b) b
