-- Each case of a walk's answer says another thing, so that the promise fixes the answer itself. Assumes nothing.
use mathlib.Core.Path.{◌≡◌, ap}
use Rattle.std.specs.Prelude.{ℕ, Option, Result}
use Rattle.words.proofs.Outcomes.{option_of, option_back, said_as_one}
use Rattle.words.specs.declared.Refusal.{Refusal}
use Rattle.flat.specs.Walk.{Walk}
use Rattle.walker.specs.Walked.{meant, said}
use Rattle.walker.specs.declared.Walked as found

back : Walk → found.Walked
back a = record { entry = option_of a.entry; count = a.count; mask = a.mask }

back_meant : (a : found.Walked) → back (meant a) ≡ a
unfolding back
back_meant a = ap (λ (o : Option ℕ). record { entry = o; count = a.count; mask = a.mask }) (option_back a.entry)

pub said_one : (r s : Result found.Walked Refusal) → said r ≡ said s → r ≡ s
said_one = said_as_one meant back back_meant
