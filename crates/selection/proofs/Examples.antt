-- The marked twelve of document 01's worked table, from the table's words; and the small tables of 'Mistakes to exclude'. Assumes nothing.
use mathlib.Core.Path.{◌≡◌, refl}
use mathlib.Core.List.{List, [], ◌∷◌, map}
use mathlib.Core.Option.{Option, none, some}
use Prim.Native.Nat.{ℕ}
use Rattle.words.specs.Tests.{◌and◌, ◌or◌, all_of, any_of, every, exists, first}
use Rattle.words.specs.Outcome.{Outcome, result, refused}
use Rattle.table.specs.Check.{read_table}
use Rattle.table.proofs.Examples.{opened}
use Rattle.table.specs.Worked.{worked, printed}
use Rattle.choice.specs.Rule.{matches, more_specific, judge, judge_at, beats_at, gives_way}
use Rattle.selection.specs.Selection.{satisfied, claims, select}
use Rattle.selection.specs.Lookup.{look_of}

-- looking words up in a table, with every definition open
unfoldable pub looks : List ℕ → List ℕ → List (Outcome (Option ℕ))
unfolding opened ◌and◌ ◌or◌ all_of any_of every exists first matches satisfied claims more_specific beats_at gives_way judge judge_at select look_of
looks ws words = map (look_of (read_table ws)) words

-- entry numbers of A to G
abbrev A : Outcome (Option ℕ)
A = result (some 0)

abbrev B : Outcome (Option ℕ)
B = result (some 1)

abbrev C : Outcome (Option ℕ)
C = result (some 2)

abbrev D : Outcome (Option ℕ)
D = result (some 3)

abbrev E : Outcome (Option ℕ)
E = result (some 4)

abbrev F : Outcome (Option ℕ)
F = result (some 5)

abbrev G : Outcome (Option ℕ)
G = result (some 6)

abbrev N : Outcome (Option ℕ)
N = result none

-- "Proved: 0x00 A, 0x01 E, 0x02 F, 0x03 A, 0x11 A, 0x30 G, 0x40 B, 0x70 G, 0x80 C, 0x81 D, 0x82 nothing, 0xC0 nothing."
pub twelve :
    map (look_of (read_table worked)) (0x00 ∷ 0x01 ∷ 0x02 ∷ 0x03 ∷ 0x11 ∷ 0x30 ∷ 0x40 ∷ 0x70 ∷ 0x80 ∷ 0x81 ∷ 0x82 ∷ 0xC0 ∷ [])
    ≡ A ∷ E ∷ F ∷ A ∷ A ∷ G ∷ B ∷ G ∷ C ∷ D ∷ N ∷ N ∷ []
unfolding looks
twelve = refl

-- a word with a bit at or above the width is 7
wide : look_of (read_table worked) 0x100 ≡ refused 7 0 0
unfolding looks
wide = refl

-- width 3, 0-- and --0: word 0 is ambiguous; with 0-0 it selects the third
abbrev pub two : List ℕ
two = 0x10020003 ∷ 0x20000310 ∷ 4 ∷ 0 ∷ 0x30000002 ∷ 0x20000310 ∷ 1 ∷ 0 ∷ 0x30000102 ∷ []

abbrev pub three : List ℕ
three = 0x10030003 ∷ 0x20000310 ∷ 4 ∷ 0 ∷ 0x30000002 ∷ 0x20000310 ∷ 1 ∷ 0 ∷ 0x30000102 ∷ 0x20000310 ∷ 5 ∷ 0 ∷ 0x30000101 ∷ []

overlaps : look_of (read_table two) 0 ∷ look_of (read_table three) 0 ∷ [] ≡ refused 6 0 0 ∷ result (some 2) ∷ []
unfolding looks
overlaps = refl

-- "more mask bits counted as more specific (with 0-- and -00 word 0 is ambiguous)"
more_bits : look_of (read_table (0x10020003 ∷ 0x20000310 ∷ 4 ∷ 0 ∷ 0x30000002 ∷ 0x20000310 ∷ 3 ∷ 0 ∷ 0x30000201 ∷ [])) 0 ≡ refused 6 0 0
unfolding looks
more_bits = refl

-- the table printed for mktree: word 0 is nothing, word 2 the entry
printed_looks : map (look_of (read_table printed)) (0 ∷ 1 ∷ 2 ∷ 3 ∷ 4 ∷ []) ≡ N ∷ N ∷ A ∷ A ∷ refused 7 0 0 ∷ []
unfolding looks
printed_looks = refl
