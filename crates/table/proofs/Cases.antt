-- Each case of reading's answer says another thing, so that the promise fixes the answer itself: its refusal, or its shape. Assumes nothing.
use mathlib.Core.Path.{◌≡◌, refl, sym, ◌∙◌}
use Rattle.std.specs.Prelude.{Result, Ok, Err}
use Rattle.words.specs.Outcome.{said as said_of}
use Rattle.words.specs.declared.Refusal.{Refusal}
use Rattle.words.proofs.Outcomes.{said_one as one}
use Rattle.table.specs.Answer.{Shape, shape, said}
use Rattle.table.specs.declared.Table.{Table}

-- the answer with the shape in place of the table
abbrev pub shaped : Result Table Refusal → Result Shape Refusal
shaped (Ok t) = Ok (shape t)
shaped (Err r) = Err r

said_shaped : (r : Result Table Refusal) → said_of (shaped r) ≡ said r
said_shaped (Ok t) = refl
said_shaped (Err r) = refl

pub said_one : (r s : Result Table Refusal) → said r ≡ said s → shaped r ≡ shaped s
said_one r s e = one (shaped r) (shaped s) (said_shaped r ∙ e ∙ sym (said_shaped s))
