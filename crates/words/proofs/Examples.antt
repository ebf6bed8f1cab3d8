-- Words of bytes, computed from the definitions. Assumes nothing.
use mathlib.Core.Bool.{true, false}
use mathlib.Core.Path.{◌≡◌, refl}
use mathlib.Core.List.{[], ◌∷◌}
use lib.ListN.{replicate}
use Rattle.words.specs.Bytes.{word_of, words_of, written, filled, is_table}

-- a word and one byte more: low byte first, and the rest left out
words_are : words_of (0x10 ∷ 0x32 ∷ 0x54 ∷ 0x76 ∷ 0x98 ∷ []) ≡ 0x76543210 ∷ []
unfolding word_of words_of
words_are = refl

-- into a buffer of two words, of which the second stays
buffer_is : filled (1 ∷ 0 ∷ 0 ∷ 0 ∷ 5 ∷ []) (7 ∷ 8 ∷ []) ≡ 1 ∷ 8 ∷ []
unfolding word_of words_of written filled
buffer_is = refl

-- no bytes, the longest table, one word more, and a word with a byte left over
none_is : is_table [] ≡ true
unfolding is_table
none_is = refl

longest_is : is_table (replicate 65536 7) ≡ true
unfolding is_table
longest_is = refl

longer_is : is_table (replicate 65540 7) ≡ false
unfolding is_table
longer_is = refl

rest_is : is_table (1 ∷ 0 ∷ 0 ∷ 0 ∷ 5 ∷ []) ≡ false
unfolding is_table
rest_is = refl
