-- Tables in another order, from their words: the lookups, the trees, 6, 5 and 19, computed. Assumes nothing.
use Prim.Native.Nat.{ℕ}
use mathlib.Core.Path.{◌≡◌, refl}
use mathlib.Core.List.Permᴰ
use mathlib.Core.List.{List, [], ◌∷◌, map}
use mathlib.Core.Option.{none, some}
use Rattle.words.specs.Outcome.{result, refused}
use Rattle.table.specs.Table.{table_of}
use Rattle.table.specs.Check.{read_table}
use Rattle.table.proofs.Examples.{opened}
use Rattle.selection.proofs.Examples.{looks, two, three}
use Rattle.tree.specs.Generate.{generate_of, buffer_of}
use Rattle.tree.proofs.Examples.{answered}
use Rattle.shuffle.specs.Shuffled.{Shuffled}
use Rattle.shuffle.specs.Moved.{moved_word}
use Rattle.shuffle.proofs.Permutations.{permuted}

-- ---- 0--, --0 and 0-0, and the same with the last one first

abbrev last_first : List ℕ
last_first = 0x10030003 ∷ 0x20000310 ∷ 5 ∷ 0 ∷ 0x30000101 ∷ 0x20000310 ∷ 4 ∷ 0 ∷ 0x30000002 ∷ 0x20000310 ∷ 1 ∷ 0 ∷ 0x30000102 ∷ []

-- it is a permutation: the last two change places, then the first two
unfoldable order : Shuffled (table_of three).entries (table_of last_first).entries
unfolding opened permuted
order = permuted (Permᴰ.trans (Permᴰ.cons refl (Permᴰ.swap refl refl)) (Permᴰ.swap refl refl))

-- the number that each entry gets, and the number that it had
numbers : map order.to (0 ∷ 1 ∷ 2 ∷ []) ≡ 1 ∷ 2 ∷ 0 ∷ []
unfolding order
numbers = refl

former : map order.from (0 ∷ 1 ∷ 2 ∷ []) ≡ 2 ∷ 0 ∷ 1 ∷ []
unfolding order
former = refl

-- 0-1, 0-0, 1-0 and 1-1 in each
lookups : looks three (1 ∷ 0 ∷ 4 ∷ 5 ∷ []) ≡ result (some 0) ∷ result (some 2) ∷ result (some 1) ∷ result none ∷ []
unfolding looks
lookups = refl

moved_lookups : looks last_first (1 ∷ 0 ∷ 4 ∷ 5 ∷ []) ≡ result (some 1) ∷ result (some 0) ∷ result (some 2) ∷ result none ∷ []
unfolding looks
moved_lookups = refl

-- the trees, in buffers of nine words: the tests and the nothing stay, each leaf has the entry's other number
abbrev buffer : List ℕ
buffer = 1 ∷ 2 ∷ 3 ∷ 4 ∷ 5 ∷ 6 ∷ 7 ∷ 8 ∷ 9 ∷ []

three_tree : buffer_of (read_table three) buffer ≡ 0x70030007 ∷ 0x81000005 ∷ 0x80000004 ∷ 0x90000002 ∷ 0x90000000 ∷ 0x80000007 ∷ 0x90000001 ∷ 0xa0000000 ∷ 9 ∷ []
unfolding answered
three_tree = refl

last_first_tree : buffer_of (read_table last_first) buffer ≡ 0x70030007 ∷ 0x81000005 ∷ 0x80000004 ∷ 0x90000000 ∷ 0x90000001 ∷ 0x80000007 ∷ 0x90000002 ∷ 0xa0000000 ∷ 9 ∷ []
unfolding answered
last_first_tree = refl

moved_words_lem : map (moved_word order.to) (0x81000005 ∷ 0x90000002 ∷ 0x90000000 ∷ 0x90000001 ∷ 0xa0000000 ∷ []) ≡ 0x81000005 ∷ 0x90000000 ∷ 0x90000001 ∷ 0x90000002 ∷ 0xa0000000 ∷ []
unfolding order answered moved_word
moved_words_lem = refl

-- ---- 0-- and --0, and the same with the last one first: 6 with word 0 in eight words, 5 in seven

abbrev two_turned : List ℕ
two_turned = 0x10020003 ∷ 0x20000310 ∷ 1 ∷ 0 ∷ 0x30000102 ∷ 0x20000310 ∷ 4 ∷ 0 ∷ 0x30000002 ∷ []

both_ambiguous : generate_of (read_table two) 8 ∷ generate_of (read_table two_turned) 8 ∷ [] ≡ refused 6 0 0 ∷ refused 6 0 0 ∷ []
unfolding answered
both_ambiguous = refl

both_short : generate_of (read_table two) 7 ∷ generate_of (read_table two_turned) 7 ∷ [] ≡ refused 5 0 0 ∷ refused 5 0 0 ∷ []
unfolding answered
both_short = refl

-- ---- 19: two entries that match every word, a and b, and 0 and 1; and 0, 1, b, a. The place is that of a, and that of b

abbrev a_b : List ℕ
a_b = 0x10040001 ∷ 0x20000110 ∷ 0 ∷ 0 ∷ 0x30000001 ∷ 0x20030110 ∷ 0 ∷ 0 ∷ 0x30000001 ∷ 0x20010100 ∷ 1 ∷ 0 ∷ 0x20020100 ∷ 1 ∷ 1 ∷ []

abbrev b_a : List ℕ
b_a = 0x10040001 ∷ 0x20010100 ∷ 1 ∷ 0 ∷ 0x20020100 ∷ 1 ∷ 1 ∷ 0x20030110 ∷ 0 ∷ 0 ∷ 0x30000001 ∷ 0x20000110 ∷ 0 ∷ 0 ∷ 0x30000001 ∷ []

lowest_differs : generate_of (read_table a_b) 4 ∷ generate_of (read_table b_a) 4 ∷ [] ≡ refused 19 0 0 ∷ refused 19 2 0 ∷ []
unfolding answered
lowest_differs = refl
