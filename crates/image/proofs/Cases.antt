-- Each case of a listing's and a step's answers says another thing, so that the promises fix the answers themselves. Assumes nothing.
use mathlib.Core.Path.{◌≡◌, refl}
use mathlib.Core.Option.{Option, none, some}
use Prim.Native.Nat.{ℕ}
use Rattle.std.specs.Prelude.{Result, Option as Maybe, Some, None}
use Rattle.words.specs.declared.Refusal.{Refusal}
use Rattle.words.proofs.Outcomes.{said_one, said_as_one}
use Rattle.image.specs.Listing.{said_list, Step, step_given, said_step}
use Rattle.image.specs.declared.Stepped as handed

pub list_one : (r s : Result ℕ Refusal) → said_list r ≡ said_list s → r ≡ s
list_one = said_one

back : Option Step → Maybe handed.Stepped
back none = None
back (some s) = Some (record { word = s.item.word; next = s.item.next; mask = s.mask })

given_back : (o : Maybe handed.Stepped) → back (step_given o) ≡ o
unfolding back
given_back None = refl
given_back (Some s) = refl

pub step_one : (r s : Result (Maybe handed.Stepped) Refusal) → said_step r ≡ said_step s → r ≡ s
step_one = said_as_one step_given back given_back
