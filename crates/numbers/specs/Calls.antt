-- What the calls on a field's word answer (document 02, No. 7).
use Rattle.std.specs.Prelude.{ℕ, ◌^◌, Bool, cond, List, ◌++◌, ltb, leb, ℤ, length, drop}
use Rattle.words.specs.Outcome.{Outcome, result, faulty, refused}
use Rattle.table.specs.Table.{field_width, fraction_of}
use Rattle.table.specs.Check.{Check, fine, fault}
use Rattle.numbers.specs.Word.{has_sign, word_check}
use Rattle.numbers.specs.Whole.{number_of, in_range, value_of}
use Rattle.numbers.specs.Decimals.{number_text}

-- the word's faults, 2 and 4, "then a value out of range 12, all with place 0"
unfoldable pub answer_of : {A : Type 0} → Check → Bool → A → Outcome A
answer_of (fault n p) fits r = faulty n 0
answer_of fine fits r = cond fits (result r) (refused 12 0 0)

-- "They turn a stored value into a signed whole number (for form 2 the count of its smallest steps)"
unfoldable pub signed_of : ℕ → ℕ → Outcome ℤ
signed_of w v = answer_of (word_check w) (ltb v (2 ^ field_width w)) (number_of (has_sign w) (field_width w) v)

-- "and back"
unfoldable pub stored_of : ℕ → ℤ → Outcome ℕ
stored_of w z = answer_of (word_check w) (in_range (has_sign w) (field_width w) z) (value_of (field_width w) z)

-- the text of a stored value
unfoldable pub text_of : ℕ → ℕ → Outcome (List ℕ)
text_of w v = answer_of (word_check w) (ltb v (2 ^ field_width w)) (number_text (fraction_of w) (number_of (has_sign w) (field_width w) v))

-- "write .. to the start of a buffer, returning its length in bytes"; "18, the text buffer is too short, checked after 2, 4 and 12"
unfoldable pub length_of : Outcome (List ℕ) → ℕ → Outcome ℕ
length_of (faulty n p) room = faulty n p
length_of (refused n p x) room = refused n p x
length_of (result text) room = cond (leb (length text) room) (result (length text)) (refused 18 0 0)

-- "bytes after the text are unchanged"; "buffer unchanged" where it is too short, and where the call is refused
unfoldable pub buffer_after : Outcome (List ℕ) → List ℕ → List ℕ
buffer_after (faulty n p) out = out
buffer_after (refused n p x) out = out
buffer_after (result text) out = cond (leb (length text) (length out)) (text ++ drop (length text) out) out
