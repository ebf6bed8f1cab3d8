-- Each case of an answer says another thing, so that the promises fix the answers themselves. Assumes nothing.
use Prim.Native.Nat.{ℕ}
use mathlib.Core.Path.{◌≡◌}
use lib.IntN.{ℤ}
use Rattle.std.specs.Prelude.{Result}
use Rattle.words.specs.declared.Refusal.{Refusal}
use Rattle.words.proofs.Outcomes.{said_one}
use Rattle.numbers.specs.Answers.{said_signed, said_stored, said_text}

pub said_signed_lem : (r s : Result ℤ Refusal) → said_signed r ≡ said_signed s → r ≡ s
said_signed_lem = said_one

pub said_stored_lem : (r s : Result ℕ Refusal) → said_stored r ≡ said_stored s → r ≡ s
said_stored_lem = said_one

pub said_text_lem : (r s : Result ℕ Refusal) → said_text r ≡ said_text s → r ≡ s
said_text_lem = said_one
