-- Operand fields ('Fields').
use Rattle.std.specs.Prelude.{ℕ, ◌+◌, ◌*◌, ◌^◌, cond, List, [], ◌∷◌, ltb}
use Rattle.std.proofs.Math.Option.{Option, none, some}
use Rattle.std.specs.Int.Bits.{bit_or}
use Rattle.words.specs.Words.{part}
use Rattle.table.specs.Table.{Field}

-- the value that a word has in a field
abbrev pub value_in : Field → ℕ → ℕ
value_in f w = part w f.low f.width

-- "field values in table order"
unfoldable pub values_in : List Field → ℕ → List ℕ
values_in [] w = []
values_in (f ∷ fs) w = value_in f w ∷ values_in fs w

-- "Encoding places the values in the opcode value": the word with each value placed in its field
unfoldable pub placed : ℕ → List Field → List ℕ → ℕ
placed w [] vs = w
placed w (f ∷ fs) [] = w
placed w (f ∷ fs) (v ∷ vs) = placed (bit_or w (v * 2 ^ f.low)) fs vs

-- "index of the first such value", one that does not fit its field, counted from i
unfoldable pub misfit : ℕ → List Field → List ℕ → Option ℕ
misfit i [] vs = none
misfit i (f ∷ fs) [] = none
misfit i (f ∷ fs) (v ∷ vs) = cond (ltb v (2 ^ f.width)) (misfit (i + 1) fs vs) (some i)
