-- A field's word by itself, and its faults (document 02, No. 7).
use Rattle.std.specs.Prelude.{ℕ, Bool, not, eqb, leb}
use Rattle.table.specs.Table.{field_width, form_of}
use Rattle.table.specs.Check.{Check, ◌then◌, need, field_word}

-- "1 two's complement", "Form 2 is two's complement too"
abbrev pub has_sign : ℕ → Bool
has_sign w = not (eqb (form_of w) 0)

-- "a wrong kind or spare bit gives 2, then a width outside 1–32 or a form fault as above 4", "all with place 0, the lowest bit not judged";
-- width and form have one number and place, so that their order is not seen
unfoldable pub word_check : ℕ → Check
word_check w =
    field_word w 0
    then need (leb 1 (field_width w)) 4 0
    then need (leb (field_width w) 32) 4 0
