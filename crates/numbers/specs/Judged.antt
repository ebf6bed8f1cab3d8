-- What the code's parts mean: a field's word that was judged, and a whole number on its side.
use Rattle.std.specs.Prelude.{ℕ, Bool, ℤ, Result}
use Rattle.words.specs.Outcome.{Outcome, result, faulty, said_as}
use Rattle.words.specs.declared.Refusal.{Refusal}
use Rattle.table.specs.Table.{field_width, fraction_of}
use Rattle.table.specs.Check.{Check, fine, fault}
use Rattle.numbers.specs.Word.{has_sign}
use Rattle.numbers.specs.Whole.{on_side}
use Rattle.numbers.specs.declared.Form.{Form}
use Rattle.numbers.specs.declared.Side.{Side}

-- what a field's word says of its values
pub record Values : Type 0 where
  pub sign : Bool
  pub fraction : ℕ
  pub width : ℕ

abbrev pub said_form : Result Form Refusal → Outcome Values
said_form = said_as (λ f. record { sign = f.sign; fraction = f.fraction; width = f.width })

-- what a word without fault says of its values
unfoldable pub judged_as : Check → ℕ → Outcome Values
judged_as (fault n p) w = faulty n 0
judged_as fine w = result (record { sign = has_sign w; fraction = fraction_of w; width = field_width w })

abbrev pub said_side : Result Side Refusal → Outcome ℤ
said_side = said_as (λ s. on_side s.below s.size)
