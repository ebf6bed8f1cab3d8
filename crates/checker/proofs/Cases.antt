-- Each case of the checker's answer says another thing, so that the promise fixes the answer itself. Assumes nothing.
use mathlib.Core.Path.{◌≡◌}
use Rattle.std.specs.Prelude.{Result}
use Rattle.words.specs.Outcome.{said}
use Rattle.words.specs.declared.Refusal.{Refusal}
use Rattle.words.proofs.Outcomes.{said_one}

pub check_one : (r s : Result Unit Refusal) → said r ≡ said s → r ≡ s
check_one = said_one
