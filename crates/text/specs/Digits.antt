-- Numbers as ASCII text.
use Rattle.std.specs.Prelude.{ℕ, zero, suc, ◌+◌, ◌/◌, ◌%◌, ◌^◌, cond, List, [], ◌∷◌, ◌++◌, ltb}

-- a digit below 16: `0` to `9`, then `a` to `f`
unfoldable pub digit_of : ℕ → ℕ
digit_of d = cond (ltb d 10) (48 + d) (87 + d)

-- the decimal digits of n, none where n is zero. `most` only bounds the recursion: n, or any number from n on, leaves out no digit
unfoldable pub digits_of : ℕ → ℕ → List ℕ
digits_of zero n = []
digits_of (suc most) zero = []
digits_of (suc most) (suc m) = digits_of most (suc m / 10) ++ (digit_of (suc m % 10) ∷ [])

-- n in decimal, with no zero in front: the digits of its tens, and its last digit, which zero has too
unfoldable pub decimal_text : ℕ → List ℕ
decimal_text n = digits_of n (n / 10) ++ (digit_of (n % 10) ∷ [])

-- the last k hexadecimal digits of w
unfoldable pub hex_digits : ℕ → ℕ → List ℕ
hex_digits zero w = []
hex_digits (suc k) w = digit_of (w / 16 ^ k % 16) ∷ hex_digits k w

-- a word of 32 bits in hexadecimal
unfoldable pub hex_text : ℕ → List ℕ
hex_text w = hex_digits 8 w
