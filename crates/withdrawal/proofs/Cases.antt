-- Each case of the answer says another thing, so that the promise fixes the answer itself. Assumes nothing.
use mathlib.Core.Path.{◌≡◌}
use Prim.Native.Nat.{ℕ}
use Rattle.std.specs.Prelude.{Result}
use Rattle.words.specs.Outcome.{said}
use Rattle.words.specs.declared.Refusal.{Refusal}
use Rattle.words.proofs.Outcomes.{said_one as one_said}

pub said_one : (r s : Result ℕ Refusal) → said r ≡ said s → r ≡ s
said_one = one_said
