-- The words of a run of bytes. Assumes nothing.
use Prim.Native.Nat.{ℕ, zero, suc, ◌+◌, ◌*◌, ◌/◌, ◌≤◌}
use mathlib.Core.Path.{◌≡◌, refl, ap}
use mathlib.Core.List.{List, [], ◌∷◌}
use native.Mathlib.Omega.{arith}
use lib.ListN.{length, get_or}
use Rattle.words.specs.Bytes.{word_of, words_of}

-- how many words there are
pub words_length : (bs : List ℕ) → length (words_of bs) ≡ length bs / 4
unfolding words_of
words_length [] = refl
words_length (a ∷ []) = refl
words_length (a ∷ b ∷ []) = refl
words_length (a ∷ b ∷ c ∷ []) = refl
words_length (a ∷ b ∷ c ∷ d ∷ rest) = omega (arith, words_length rest)

-- four bytes further on
later : (a b c d : ℕ) (rest : List ℕ) (i k : ℕ) → get_or (a ∷ b ∷ c ∷ d ∷ rest) (suc i * 4 + k) 0 ≡ get_or rest (i * 4 + k) 0
later a b c d rest i k =
    let e : suc i * 4 + k ≡ suc (suc (suc (suc (i * 4 + k)))) = omega arith in
    ap (λ (n : ℕ). get_or (a ∷ b ∷ c ∷ d ∷ rest) n 0) e

-- a word from its four bytes
pub words_at : (i : ℕ) (bs : List ℕ) → i * 4 + 4 ≤ length bs
    → word_of (get_or bs (i * 4 + 0) 0) (get_or bs (i * 4 + 1) 0) (get_or bs (i * 4 + 2) 0) (get_or bs (i * 4 + 3) 0) ≡ get_or (words_of bs) i 0
unfolding words_of
words_at i [] h = absurd (omega arith)
words_at i (a ∷ []) h = absurd (omega arith)
words_at i (a ∷ b ∷ []) h = absurd (omega arith)
words_at i (a ∷ b ∷ c ∷ []) h = absurd (omega arith)
words_at zero (a ∷ b ∷ c ∷ d ∷ rest) h = refl
words_at (suc i) (a ∷ b ∷ c ∷ d ∷ rest) h =
    rw (later a b c d rest i 0, later a b c d rest i 1, later a b c d rest i 2, later a b c d rest i 3) (words_at i rest (omega arith))
