-- What the reader has checked of the patterns of a table without fault.
use Rattle.std.specs.Prelude.{ℕ, ◌^◌, Bool, List, ltb}
use Rattle.words.specs.Tests.{◌and◌, all_of}
use Rattle.words.specs.Words.{includes}
use Rattle.table.specs.Table.{Pattern, Condition, Entry, own_bits}

-- no mask bit at or above the width, no value bit outside the mask
unfoldable pub good_pattern : ℕ → Pattern → Bool
good_pattern width p = ltb p.mask (2 ^ width) and includes p.mask p.value

unfoldable pub good_condition : ℕ → Condition → Bool
good_condition width k = good_pattern width k.matching and all_of (good_pattern width) k.unmatching

unfoldable pub good_entry : ℕ → Entry → Bool
good_entry width e = good_pattern width e.opcode and all_of (good_condition width) e.conditions

unfoldable pub good_table : ℕ → List Entry → Bool
good_table width es = all_of (good_entry width) es

-- every mask of the entry lies in its own bits
unfoldable pub own_pattern : ℕ → Pattern → Bool
own_pattern own p = includes own p.mask

unfoldable pub own_condition : ℕ → Condition → Bool
own_condition own k = own_pattern own k.matching and all_of (own_pattern own) k.unmatching

unfoldable pub own_entry : ℕ → Entry → Bool
own_entry width e =
    own_pattern (own_bits width e.size) e.opcode and all_of (own_condition (own_bits width e.size)) e.conditions
