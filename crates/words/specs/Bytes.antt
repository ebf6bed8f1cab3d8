-- Words in a run of bytes: "each word low byte first".
use Rattle.std.specs.Prelude.{ℕ, ◌+◌, ◌*◌, ◌/◌, ◌%◌, ◌^◌, min, Bool, false, cond, List, [], ◌∷◌, ◌++◌, ◌≡◌, leb, eqb, length, take, drop}

-- the word of four bytes, low byte first
unfoldable pub word_of : ℕ → ℕ → ℕ → ℕ → ℕ
word_of a b c d = a + b * 2 ^ 8 + c * 2 ^ 16 + d * 2 ^ 24

-- the whole words of the bytes; a rest of one to three bytes is left out
unfoldable pub words_of : List ℕ → List ℕ
words_of [] = []
words_of (a ∷ []) = []
words_of (a ∷ b ∷ []) = []
words_of (a ∷ b ∷ c ∷ []) = []
words_of (a ∷ b ∷ c ∷ d ∷ rest) = word_of a b c d ∷ words_of rest

-- how many of them a buffer takes
unfoldable pub written : List ℕ → List ℕ → ℕ
written bytes before = min (length bytes / 4) (length before)

-- the buffer with them in its first words
unfoldable pub filled : List ℕ → List ℕ → List ℕ
filled bytes before = take (written bytes before) (words_of bytes) ++ drop (written bytes before) before

-- what filling a buffer leaves in it, and what it answers
pub record Fills (bytes before after : List ℕ) (answer : ℕ) : Type 0 where
  pub buffer : after ≡ filled bytes before
  pub number : answer ≡ written bytes before

-- whether bytes can be a table: at most 16,384 words, and no rest
unfoldable pub is_table : List ℕ → Bool
is_table bytes = cond (leb (length bytes) 65536) (eqb (length bytes % 4) 0) false
