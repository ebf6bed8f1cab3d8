-- What the code's answers mean.
use Rattle.std.specs.Prelude.{ℕ, ◌≡◌, List, ℤ, Result, length}
use Rattle.words.specs.Outcome.{Outcome, said}
use Rattle.words.specs.declared.Refusal.{Refusal}
use Rattle.numbers.specs.Calls.{length_of, buffer_after}

-- the paper's number for each case of an answer
abbrev pub said_signed : Result ℤ Refusal → Outcome ℤ
said_signed = said

abbrev pub said_stored : Result ℕ Refusal → Outcome ℕ
said_stored = said

abbrev pub said_text : Result ℕ Refusal → Outcome ℕ
said_text = said

-- a call that writes text answers its length, and the whole buffer is as the definition says
pub record Writes (text : Outcome (List ℕ)) (before after : List ℕ) (r : Result ℕ Refusal) : Type 0 where
  pub answer : said_text r ≡ length_of text (length before)
  pub buffer : after ≡ buffer_after text before
