-- What the code's answers mean.
use Rattle.std.specs.Prelude.{ℕ, zero, suc, ◌+◌, ◌<◌, ◌≤◌, cond, ◌≡◌, List, [], ◌∷◌, eqb, length, Result}
use Rattle.std.specs.Prelude as code
use Rattle.std.proofs.Math.Option.{Option, none, some}
use Rattle.words.specs.Outcome.{Outcome, result, faulty, refused, said, said_as}
use Rattle.words.specs.declared.Refusal.{Refusal}
use Rattle.table.specs.Table.{Table, Field}
use Rattle.table.specs.Check.{read_table}
use Rattle.selection.specs.Lookup.{look_of}
use Rattle.operands.specs.Fields.{placed, misfit}
use Rattle.operands.specs.Calls.{Decoded, entry_values, none_selected, decode_of, buffer_after}
use Rattle.operands.specs.declared.Decoded as Answered

-- ---- decoding

-- the first n words, and n of them also where the buffer has fewer: zeros stand for the others
unfoldable pub first_words : ℕ → List ℕ → List ℕ
first_words zero out = []
first_words (suc n) [] = 0 ∷ first_words n []
first_words (suc n) (x ∷ out) = x ∷ first_words n out

-- an entry with its values, or nothing; the values are the first `count` words of the buffer as it is then, so that this is the number of the
-- entry's fields
abbrev pub decoded_in : List ℕ → code.Option Answered.Decoded → Decoded
decoded_in out (code.Some d) = entry_values d.entry (first_words d.count out)
decoded_in out code.None = none_selected

-- the paper's number and values for each case of decoding's answer
abbrev pub said_decode : Result (code.Option Answered.Decoded) Refusal → List ℕ → Outcome Decoded
said_decode r out = said_as (decoded_in out) r

-- decoding answers what the definition says, and the whole buffer is as the definition says
pub record Decodes (ws : List ℕ) (w : ℕ) (before after : List ℕ) (r : Result (code.Option Answered.Decoded) Refusal) : Type 0 where
  pub answer : said_decode r after ≡ decode_of (read_table ws) w (length before)
  pub buffer : after ≡ buffer_after (decode_of (read_table ws) w (length before)) before

-- ---- encoding

-- the paper's number and values for each case of encoding's answer
abbrev pub said_encode : Result ℕ Refusal → Outcome ℕ
said_encode = said

-- ---- its parts

-- fields with some bit, below bit 32
unfoldable pub InWord : List Field → Type 0
InWord [] = Unit {0}
InWord (f ∷ fs) = (f.low < 32) × (f.low + f.width ≤ 32) × InWord fs

-- the word made; or 12 with the index of the first value that does not fit
abbrev pub made_or : Option ℕ → ℕ → Outcome ℕ
made_or (some i) w = refused 12 i 0
made_or none w = result w

-- the values placed in w, counted from i
unfoldable pub makes : ℕ → ℕ → List Field → List ℕ → Outcome ℕ
makes i w fs vs = made_or (misfit i fs vs) (placed w fs vs)

-- a word made for entry e, by what lookup says of it
unfoldable pub confirmed : Outcome (Option ℕ) → ℕ → ℕ → Outcome ℕ
confirmed (result (some i)) e w = cond (eqb i e) (result w) (refused 13 0 w)
confirmed (result none) e w = refused 13 0 w
confirmed (faulty n p) e w = refused 13 0 w
confirmed (refused n p x) e w = refused 13 0 w

unfoldable pub made_for : Outcome Table → ℕ → Outcome ℕ → Outcome ℕ
made_for r e (result w) = confirmed (look_of r w) e w
made_for r e (faulty n p) = faulty n p
made_for r e (refused n p x) = refused n p x
