-- What decoding and encoding answer.
use Rattle.std.specs.Prelude.{ℕ, ◌^◌, cond, List, ◌++◌, eqb, ltb, leb, length, drop}
use Rattle.std.proofs.Math.Option.{Option, none, some}
use Rattle.words.specs.Tests.{◌and◌}
use Rattle.words.specs.Outcome.{Outcome, result, faulty, refused}
use Rattle.table.specs.Table.{Entry, Table, entry_number}
use Rattle.choice.specs.Rule.{Choice, names, nothing, ambiguous, selects}
use Rattle.selection.specs.Selection.{select}
use Rattle.operands.specs.Fields.{values_in, placed, misfit}

-- ---- decoding

-- an entry with the values of its fields, or nothing
pub data Decoded : Type 0 where
  entry_values : ℕ → List ℕ → Decoded
  none_selected : Decoded

unfoldable pub decoded_as : List Entry → ℕ → Choice → Outcome Decoded
decoded_as es w (names e) = result (entry_values e (values_in (entry_number es e).fields w))
decoded_as es w nothing = result none_selected
decoded_as es w ambiguous = refused 6 0 w

-- decoding a word into a buffer of `room` words: the table's faults, then "decoding 10, 7, 6"; "field buffer under 8 words": 10
unfoldable pub decode_of : Outcome Table → ℕ → ℕ → Outcome Decoded
decode_of (faulty n p) w room = faulty n p
decode_of (refused n p x) w room = refused n p x
decode_of (result t) w room =
    cond (leb 8 room) (cond (ltb w (2 ^ t.width)) (decoded_as t.entries w (select t.entries w)) (refused 7 0 0)) (refused 10 0 0)

-- "Decoding writes field values in table order to the first words of the buffer; the rest is unchanged. The answer nothing writes nothing."
unfoldable pub buffer_after : Outcome Decoded → List ℕ → List ℕ
buffer_after (result (entry_values e vs)) out = vs ++ drop (length vs) out
buffer_after (result none_selected) out = out
buffer_after (faulty n p) out = out
buffer_after (refused n p w) out = out

-- ---- encoding

-- "word made does not select that entry": 13 with "the word"
unfoldable pub encoded_as : List Entry → ℕ → ℕ → Outcome ℕ
encoded_as es e w = cond (selects (select es w) e) (result w) (refused 13 0 w)

-- "value does not fit its field": 12 with "index of the first such value"
unfoldable pub encoded_from : List Entry → ℕ → List ℕ → Option ℕ → Outcome ℕ
encoded_from es e vs (some i) = refused 12 i 0
encoded_from es e vs none = encoded_as es e (placed (entry_number es e).opcode.value (entry_number es e).fields vs)

-- encoding entry e with values: the table's faults, then "encoding 11, 12, 13"; "no such entry, or wrong count of values": 11
unfoldable pub encode_of : Outcome Table → ℕ → List ℕ → Outcome ℕ
encode_of (faulty n p) e vs = faulty n p
encode_of (refused n p x) e vs = refused n p x
encode_of (result t) e vs =
    cond (ltb e (length t.entries) and eqb (length vs) (length (entry_number t.entries e).fields))
    (encoded_from t.entries e vs (misfit 0 (entry_number t.entries e).fields vs))
    (refused 11 0 0)
