-- What the text of a number has to be, said without how it is made (document 02, No. 7).
use Rattle.std.specs.Prelude.{ℕ, ◌+◌, ◌-◌, ◌*◌, ◌^◌, ◌≤◌, Bool, true, ◌≡◌, List, [], ◌∷◌, ◌++◌, leb, ℤ, nat_abs, length, get_or}
use Rattle.words.specs.Tests.{◌and◌, all_of}
use Rattle.numbers.specs.Decimals.{sign_text, point_text}

-- a byte is one of `0` to `9`
abbrev pub is_digit : ℕ → Bool
is_digit b = leb 48 b and leb b 57

-- the number that decimal digits make, after those that made n
unfoldable pub decimal_from : ℕ → List ℕ → ℕ
decimal_from n [] = n
decimal_from n (b ∷ bs) = decimal_from (n * 10 + (b - 48)) bs

abbrev pub decimal_of : List ℕ → ℕ
decimal_of bs = decimal_from 0 bs

-- the text says z / 2^f: sign, digits, point, digits
pub record Exact (f : ℕ) (z : ℤ) (text : List ℕ) : Type 0 where
  pub before : List ℕ
  pub after : List ℕ
  pub is : text ≡ sign_text z ++ before ++ point_text f ++ after
  pub digits_before : all_of is_digit before ≡ true
  pub digits_after : all_of is_digit after ≡ true
  -- "at least one digit before the point"
  pub some_before : 1 ≤ length before
  -- "no needless leading zero"
  pub no_zero : get_or before 0 0 ≡ 48 → length before ≡ 1
  -- "after it exactly as many digits as fraction bits"
  pub places : length after ≡ f
  -- "exact": the digits, with f of them after the point, are a number over 10^f that is |z| / 2^f
  pub value : (decimal_of before * 10 ^ f + decimal_of after) * 2 ^ f ≡ nat_abs z * 10 ^ f
