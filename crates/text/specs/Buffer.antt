-- A text put into a buffer.
use Rattle.std.specs.Prelude.{ℕ, ◌+◌, Bool, cond, List, ◌++◌, ◌≡◌, leb, length, take, drop}

-- whether a text has its place in a buffer, from index `at` on
unfoldable pub has_place : List ℕ → ℕ → List ℕ → Bool
has_place before at text = leb (at + length text) (length before)

-- the buffer with the text at index `at`; unchanged where the text has no place there
unfoldable pub put_at : List ℕ → ℕ → List ℕ → List ℕ
put_at before at text = cond (has_place before at text) (take at before ++ text ++ drop (at + length text) before) before

-- the index after the text; `at` where the text has no place there
unfoldable pub place_after : List ℕ → ℕ → List ℕ → ℕ
place_after before at text = cond (has_place before at text) (at + length text) at

-- what a call that puts a text leaves in the buffer, and what it answers
pub record Puts (before : List ℕ) (at : ℕ) (text after : List ℕ) (answer : ℕ) : Type 0 where
  pub buffer : after ≡ put_at before at text
  pub place : answer ≡ place_after before at text
