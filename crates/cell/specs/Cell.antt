-- Cells, and what patterns, conditions and entries are in them ('The tree of a table').
use Rattle.std.specs.Prelude.{ℕ, ◌^◌, Bool, not, eqb}
use Rattle.std.specs.Int.Bits.{bit_and, bit_or}
use Rattle.words.specs.Tests.{◌and◌, ◌or◌, all_of, any_of}
use Rattle.words.specs.Words.{includes}
use Rattle.table.specs.Table.{Pattern, Condition, Entry}
use Rattle.choice.specs.Rule.{matches}

-- "A cell fixes some bits": which, as a mask, and their values
pub record Cell : Type 0 where
  pub fixed : ℕ
  pub bits : ℕ

-- "with no bit fixed"
abbrev pub start : Cell
start = record { fixed = 0; bits = 0 }

-- "the cell with it 0, then with it 1": bit i fixed as well
abbrev pub zero_side : Cell → ℕ → Cell
zero_side c i = record { fixed = bit_or c.fixed (2 ^ i); bits = c.bits }

abbrev pub one_side : Cell → ℕ → Cell
one_side c i = record { fixed = bit_or c.fixed (2 ^ i); bits = bit_or c.bits (2 ^ i) }

-- "It implies a pattern when the fixed bits include its mask and agree with it"
unfoldable pub implies : Cell → Pattern → Bool
implies c p = includes c.fixed p.mask and matches c.bits p

-- "and clashes when some fixed bit in the mask differs": on the bits that are fixed and in the mask, cell and pattern are not the same
unfoldable pub clashes : Cell → Pattern → Bool
clashes c p = let common = bit_and c.fixed p.mask in not (eqb (bit_and c.bits common) (bit_and p.value common))

-- "A condition holds in a cell that implies its matching pattern and clashes with all its unmatching ones"
unfoldable pub holds : Cell → Condition → Bool
holds c k = implies c k.matching and all_of (clashes c) k.unmatching

-- "it fails where the cell clashes with the matching pattern or implies an unmatching one"
unfoldable pub fails : Cell → Condition → Bool
fails c k = clashes c k.matching or any_of (implies c) k.unmatching

-- "else it is open"
unfoldable pub open_condition : Cell → Condition → Bool
open_condition c k = not (holds c k) and not (fails c k)

-- "An entry is dead if its opcode pattern clashes or a condition holds"
unfoldable pub dead : Cell → Entry → Bool
dead c e = clashes c e.opcode or any_of (holds c) e.conditions

-- "Live means sure or open": not dead
unfoldable pub live : Cell → Entry → Bool
live c e = not (dead c e)

-- "sure if the pattern is implied and every condition fails"
unfoldable pub sure : Cell → Entry → Bool
sure c e = live c e and (implies c e.opcode and all_of (fails c) e.conditions)

-- "else open"
unfoldable pub open_entry : Cell → Entry → Bool
open_entry c e = live c e and not (implies c e.opcode and all_of (fails c) e.conditions)
