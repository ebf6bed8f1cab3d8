-- Document 01's examples of decoding and encoding, by computing the definitions on the worked table's words. Assumes nothing.
use mathlib.Core.Path.{◌≡◌, refl}
use mathlib.Core.List.{List, [], ◌∷◌}
use Prim.Native.Nat.{ℕ}
use Rattle.words.specs.Outcome.{Outcome, result, refused}
use Rattle.table.specs.Check.{read_table}
use Rattle.table.specs.Worked.{worked}
use Rattle.choice.specs.Rule.{selects}
use Rattle.selection.proofs.Examples.{looks}
use Rattle.operands.specs.Fields.{values_in, placed, misfit}
use Rattle.operands.specs.Calls.{Decoded, entry_values, none_selected, decoded_as, decode_of, buffer_after, encoded_as, encoded_from, encode_of}

-- decoding with every definition open
pub decodes : List ℕ → ℕ → ℕ → Outcome Decoded
unfolding looks values_in placed misfit decoded_as decode_of buffer_after selects encoded_as encoded_from encode_of
decodes ws w room = decode_of (read_table ws) w room

-- "0x36 decodes to G, f 0, b 1, c 2", and back
decodes_36 : decode_of (read_table worked) 0x36 8 ≡ result (entry_values 6 (0 ∷ 1 ∷ 2 ∷ []))
unfolding decodes
decodes_36 = refl

encodes_36 : encode_of (read_table worked) 6 (0 ∷ 1 ∷ 2 ∷ []) ≡ result 0x36
unfolding decodes
encodes_36 = refl

-- "Encoding A with 0, 0, 1 is 13 with 0x01"
not_selected : encode_of (read_table worked) 0 (0 ∷ 0 ∷ 1 ∷ []) ≡ refused 13 0 1
unfolding decodes
not_selected = refl

-- a buffer of seven words is 10, before a word too wide; a value too large is 12 with its index; no entry 7, two values for three fields: 11
refusals :
    decode_of (read_table worked) 0x136 7 ∷ decode_of (read_table worked) 0x136 8 ∷ decode_of (read_table worked) 0x82 8 ∷ []
    ≡ refused 10 0 0 ∷ refused 7 0 0 ∷ result none_selected ∷ []
unfolding decodes
refusals = refl

misfits :
    encode_of (read_table worked) 6 (0 ∷ 4 ∷ 4 ∷ []) ∷ encode_of (read_table worked) 7 [] ∷ encode_of (read_table worked) 6 (0 ∷ 1 ∷ []) ∷ []
    ≡ refused 12 1 0 ∷ refused 11 0 0 ∷ refused 11 0 0 ∷ []
unfolding decodes
misfits = refl

-- the buffer afterwards: the values in the first words, the rest unchanged; unchanged where there is no entry
buffers :
    buffer_after (decode_of (read_table worked) 0x36 8) (11 ∷ 12 ∷ 13 ∷ 14 ∷ 15 ∷ 16 ∷ 17 ∷ 18 ∷ []) ∷ buffer_after (decode_of (read_table worked) 0x82 8) (11 ∷ 12 ∷ []) ∷ []
    ≡ (0 ∷ 1 ∷ 2 ∷ 14 ∷ 15 ∷ 16 ∷ 17 ∷ 18 ∷ []) ∷ (11 ∷ 12 ∷ []) ∷ []
unfolding decodes
buffers = refl

-- a table whose entry 0 no word selects (width 1: `-`, which a condition takes word 0 from, and 1): decoding and encoding take it, and no
-- word can be made for entry 0
abbrev covered : List ℕ
covered = 0x10020001 ∷ 0x20000111 ∷ 0 ∷ 0 ∷ 0x30000001 ∷ 0x40000000 ∷ 1 ∷ 0 ∷ 0x20010100 ∷ 1 ∷ 1 ∷ []

covered_decodes :
    decode_of (read_table covered) 0 8 ∷ decode_of (read_table covered) 1 8 ∷ [] ≡ result none_selected ∷ result (entry_values 1 []) ∷ []
unfolding decodes
covered_decodes = refl

covered_encodes :
    encode_of (read_table covered) 1 [] ∷ encode_of (read_table covered) 0 (0 ∷ []) ∷ encode_of (read_table covered) 0 (1 ∷ []) ∷ []
    ≡ result 1 ∷ refused 13 0 0 ∷ refused 13 0 1 ∷ []
unfolding decodes
covered_encodes = refl
