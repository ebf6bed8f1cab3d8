-- Texts that are known, computed from the definitions. Assumes nothing.
use mathlib.Core.Path.{◌≡◌, refl}
use mathlib.Core.List.{[], ◌∷◌}
use Rattle.text.specs.Digits.{digit_of, digits_of, decimal_text, hex_digits, hex_text}
use Rattle.text.specs.Lines.{tree_line, refusal_line}
use Rattle.text.specs.Buffer.{has_place, put_at, place_after}

-- `0`
zero_is : decimal_text 0 ≡ 48 ∷ []
unfolding digit_of digits_of decimal_text
zero_is = refl

-- `7`
seven_is : decimal_text 7 ≡ 55 ∷ []
unfolding digit_of digits_of decimal_text
seven_is = refl

-- `10`
ten_is : decimal_text 10 ≡ 49 ∷ 48 ∷ []
unfolding digit_of digits_of decimal_text
ten_is = refl

-- `4294967295`
largest_is : decimal_text 4294967295 ≡ 52 ∷ 50 ∷ 57 ∷ 52 ∷ 57 ∷ 54 ∷ 55 ∷ 50 ∷ 57 ∷ 53 ∷ []
unfolding digit_of digits_of decimal_text
largest_is = refl

-- `deadbeef`
word_is : hex_text 0xdeadbeef ≡ 100 ∷ 101 ∷ 97 ∷ 100 ∷ 98 ∷ 101 ∷ 101 ∷ 102 ∷ []
unfolding digit_of hex_digits hex_text
word_is = refl

-- `0000000f`
padded_is : hex_text 15 ≡ 48 ∷ 48 ∷ 48 ∷ 48 ∷ 48 ∷ 48 ∷ 48 ∷ 102 ∷ []
unfolding digit_of hex_digits hex_text
padded_is = refl

-- `10` at index 1 of four bytes, and at index 3, where it does not fit
put_is : put_at (1 ∷ 2 ∷ 3 ∷ 4 ∷ []) 1 (49 ∷ 48 ∷ []) ≡ 1 ∷ 49 ∷ 48 ∷ 4 ∷ []
unfolding has_place put_at
put_is = refl

after_is : place_after (1 ∷ 2 ∷ 3 ∷ 4 ∷ []) 1 (49 ∷ 48 ∷ []) ≡ 3
unfolding has_place place_after
after_is = refl

left_is : put_at (1 ∷ 2 ∷ 3 ∷ 4 ∷ []) 3 (49 ∷ 48 ∷ []) ≡ 1 ∷ 2 ∷ 3 ∷ 4 ∷ []
unfolding has_place put_at
left_is = refl

-- the lines of a tree of four words
zeroth_line_is : tree_line 0 0x70020003 ≡ 48 ∷ 32 ∷ 55 ∷ 48 ∷ 48 ∷ 50 ∷ 48 ∷ 48 ∷ 48 ∷ 51 ∷ 10 ∷ []
unfolding digit_of digits_of decimal_text hex_digits hex_text tree_line
zeroth_line_is = refl

first_line_is : tree_line 1 0x80800003 ≡ 49 ∷ 32 ∷ 56 ∷ 48 ∷ 56 ∷ 48 ∷ 48 ∷ 48 ∷ 48 ∷ 51 ∷ 10 ∷ []
unfolding digit_of digits_of decimal_text hex_digits hex_text tree_line
first_line_is = refl

second_line_is : tree_line 2 0xa0000000 ≡ 50 ∷ 32 ∷ 97 ∷ 48 ∷ 48 ∷ 48 ∷ 48 ∷ 48 ∷ 48 ∷ 48 ∷ 10 ∷ []
unfolding digit_of digits_of decimal_text hex_digits hex_text tree_line
second_line_is = refl

third_line_is : tree_line 3 0x90000000 ≡ 51 ∷ 32 ∷ 57 ∷ 48 ∷ 48 ∷ 48 ∷ 48 ∷ 48 ∷ 48 ∷ 48 ∷ 10 ∷ []
unfolding digit_of digits_of decimal_text hex_digits hex_text tree_line
third_line_is = refl

-- the longest
longest_line_is : tree_line 4294967295 15 ≡ 52 ∷ 50 ∷ 57 ∷ 52 ∷ 57 ∷ 54 ∷ 55 ∷ 50 ∷ 57 ∷ 53 ∷ 32 ∷ 48 ∷ 48 ∷ 48 ∷ 48 ∷ 48 ∷ 48 ∷ 48 ∷ 102 ∷ 10 ∷ []
unfolding digit_of digits_of decimal_text hex_digits hex_text tree_line
longest_line_is = refl

-- the lines of an empty input, of an ambiguous word, and of a place
empty_is : refusal_line 1 0 0 ≡ 114 ∷ 101 ∷ 102 ∷ 117 ∷ 115 ∷ 101 ∷ 100 ∷ 32 ∷ 49 ∷ 32 ∷ 48 ∷ 32 ∷ 48 ∷ 48 ∷ 48 ∷ 48 ∷ 48 ∷ 48 ∷ 48 ∷ 48 ∷ 10 ∷ []
unfolding digit_of digits_of decimal_text hex_digits hex_text refusal_line
empty_is = refl

ambiguous_is : refusal_line 6 0 0xdeadbeef ≡ 114 ∷ 101 ∷ 102 ∷ 117 ∷ 115 ∷ 101 ∷ 100 ∷ 32 ∷ 54 ∷ 32 ∷ 48 ∷ 32 ∷ 100 ∷ 101 ∷ 97 ∷ 100 ∷ 98 ∷ 101 ∷ 101 ∷ 102 ∷ 10 ∷ []
unfolding digit_of digits_of decimal_text hex_digits hex_text refusal_line
ambiguous_is = refl

placed_is : refusal_line 4 16383 0 ≡ 114 ∷ 101 ∷ 102 ∷ 117 ∷ 115 ∷ 101 ∷ 100 ∷ 32 ∷ 52 ∷ 32 ∷ 49 ∷ 54 ∷ 51 ∷ 56 ∷ 51 ∷ 32 ∷ 48 ∷ 48 ∷ 48 ∷ 48 ∷ 48 ∷ 48 ∷ 48 ∷ 48 ∷ 10 ∷ []
unfolding digit_of digits_of decimal_text hex_digits hex_text refusal_line
placed_is = refl
