-- The words of a run of bytes, in a buffer. Assumes nothing.
use Prim.Native.Nat.{ℕ, ◌+◌, ◌/◌, ◌≤◌, ◌<◌, min}
use mathlib.Core.Path.{◌≡◌}
use mathlib.Core.List.{List, ◌++◌}
use native.Mathlib.Omega.{arith}
use native.Mathlib.Nat.{zero-add}
use native.Mathlib.Numerals.{add-one}
use lib.ListN.{length, get_or, take, drop, set, length-append, length-take, length-drop}
use lib.Seq.{paste-suc}
use Rattle.words.specs.Bytes.{words_of, written, filled, Fills}
use Rattle.words.proofs.Bytes.{words_length}

-- a turn of the loop that fills: one word more
pub filled_on : (ws before out : List ℕ) (j : ℕ) → out ≡ take j ws ++ drop j before → j < length before → j < length ws
    → set out j (get_or ws j 0) ≡ take (j + 1) ws ++ drop (j + 1) before
filled_on ws before out j e h k = rw (e, add-one) (simp zero-add at (paste-suc before 0 ws j 0 (simp zero-add h) k))

-- after its last turn
pub filled_all : (bytes before out : List ℕ) (i n : ℕ) → n ≡ min (length bytes / 4) (length before) → i ≡ n
    → out ≡ take i (words_of bytes) ++ drop i before → Fills bytes before out n
unfolding written filled
filled_all bytes before out i n e q h = record { buffer = rw (← e, ← q) h; number = e }

-- a buffer keeps its length, and the words written are within it
module _ {bytes before after : List ℕ} {answer : ℕ} (f : Fills bytes before after answer) where
  fills_size : length after ≡ length before
  unfolding written filled
  fills_size = rw f.buffer (simp (length-append, length-take, length-drop) (omega (arith, words_length bytes)))

  pub fills_within : answer ≤ length after
  unfolding written
  fills_within = rw (f.number, fills_size) (omega arith)
