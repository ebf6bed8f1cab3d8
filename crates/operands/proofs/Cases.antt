-- Each case of decoding's and encoding's answers says another thing, so that the promises fix the answers themselves. Assumes nothing.
use mathlib.Core.Path.{◌≡◌, refl, ap}
use mathlib.Core.List.{List}
use Prim.Native.Nat.{ℕ}
use lib.ListN.{length}
use Rattle.std.specs.Prelude.{Option, Some, None, Result}
use Rattle.words.specs.declared.Refusal.{Refusal}
use Rattle.words.proofs.Outcomes.{said_one, said_as_one}
use Rattle.operands.specs.Calls.{Decoded, entry_values, none_selected}
use Rattle.operands.specs.Answers.{decoded_in, said_decode, said_encode}
use Rattle.operands.specs.declared.Decoded as Answered
use Rattle.operands.proofs.Counting.{length_firsts}

back : Decoded → Option Answered.Decoded
back (entry_values e vs) = Some (record { entry = e; count = length vs })
back none_selected = None

back_said : (out : List ℕ) (a : Option Answered.Decoded) → back (decoded_in out a) ≡ a
unfolding back
back_said out (Some d) = ap (λ (n : ℕ). Some (record { entry = d.entry; count = n })) (length_firsts d.count out)
back_said out None = refl

-- in any one buffer
pub decode_one : (out : List ℕ) (r s : Result (Option Answered.Decoded) Refusal) → said_decode r out ≡ said_decode s out → r ≡ s
decode_one out = said_as_one (decoded_in out) back (back_said out)

pub encode_one : (r s : Result ℕ Refusal) → said_encode r ≡ said_encode s → r ≡ s
encode_one = said_one
