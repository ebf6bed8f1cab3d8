-- The answer in 64 bits and the tree as bytes, computed on the tree that document 01 prints. Assumes nothing.
use Prim.Native.Nat.{ℕ}
use mathlib.Core.Path.{◌≡◌, refl}
use mathlib.Core.List.{List, [], ◌∷◌}
use lib.IntN.{pos, negsuc}
use Rattle.words.specs.Words.{part, bit}
use Rattle.words.specs.Tests.{◌and◌}
use Rattle.words.specs.Bytes.{word_of, words_of}
use Rattle.flat.specs.Nodes.{header_rest, header_of, test_node, names_node, nothing_node, node_of}
use Rattle.flat.specs.Walk.{path, mask_of, enters, walk_of, mask_or_zero}
use Rattle.walker.specs.Walked.{walk_bytes}
use Rattle.words.specs.Outcome.{result, faulty, refused}
use Rattle.kilnumber.specs.Packed.{packed, packed_number, packed_check, packed_measure, packed_count, packed_signed}

-- what the call answers, with every definition open
unfoldable answered : List ℕ → ℕ → ℕ
unfolding part bit ◌and◌ word_of words_of header_rest header_of test_node names_node nothing_node node_of path mask_of enters walk_of walk_bytes
answered bytes w = packed (walk_bytes bytes w)

-- 70020003 80800003 a0000000 90000000, each low byte first
abbrev bytes : List ℕ
bytes = 3 ∷ 0 ∷ 2 ∷ 0x70 ∷ 3 ∷ 0 ∷ 0x80 ∷ 0x80 ∷ 0 ∷ 0 ∷ 0 ∷ 0xa0 ∷ 0 ∷ 0 ∷ 0 ∷ 0x90 ∷ []

-- entry 0 after one test; nothing after one test; a bit at the width: 7; a length that is no multiple of four: 8
entry_is : packed (walk_bytes bytes 2) ≡ 0x10000
unfolding answered
entry_is = refl

nothing_is : packed (walk_bytes bytes 1) ≡ 0x10100
unfolding answered
nothing_is = refl

wide_is : packed (walk_bytes bytes 4) ≡ 0x700000000
unfolding answered
wide_is = refl

odd_is : packed (walk_bytes (3 ∷ 0 ∷ 2 ∷ []) 0) ≡ 0x800000000
unfolding answered
odd_is = refl

-- the mask: bit 1; 0 where the walk is refused
mask_is : mask_or_zero (walk_bytes bytes 2) ≡ 2
unfolding answered
mask_is = refl

no_mask : mask_or_zero (walk_bytes bytes 4) ≡ 0
unfolding answered
no_mask = refl

-- a damaged node at index 1: 9 with its index in bits 63–48
damaged_is : packed (walk_bytes (1 ∷ 0 ∷ 2 ∷ 0x70 ∷ 0 ∷ 0 ∷ 0 ∷ 0xb0 ∷ []) 0) ≡ 0x1000900000000
unfolding answered
damaged_is = refl

-- a check: no (14); a table that ends early at word 4 (2)
no_is : packed_check (refused 14 0 0) ≡ 0xe00000000
no_is = refl

fault_is : packed_check (faulty 2 4) ≡ 0x200000004
fault_is = refl

-- a size: 27 nodes and 6 tests; over the tree limit (5); an ambiguous word (6); entry 255 that no word selects (19)
size_is : packed_measure (result (record { nodes = 27; tests = 6 })) ≡ 0x6001b
size_is = refl

large_is : packed_measure (refused 5 0 0) ≡ 0x500000000
large_is = refl

clash_is : packed_measure (refused 6 0 0x80000001) ≡ 0x680000001
clash_is = refl

unreached_is : packed_measure (refused 19 255 0) ≡ 0x13000000ff
unreached_is = refl

-- an entry's cycles: 65,535; no such entry (11)
cost_is : packed_number (result 65535) ≡ 0xffff
cost_is = refl

no_entry_is : packed_number (refused 11 0 0) ≡ 0xb00000000
no_entry_is = refl

-- a count: one less than all words of a width of 32, and all of them; an ambiguous word (6); a word that is too wide (7)
count_is : packed_count (result 0xffffffff) ≡ 0xffffffff
count_is = refl

all_words_is : packed_count (result 0x100000000) ≡ 0x10000000000
all_words_is = refl

ambiguous_word_is : packed_count (refused 6 0 0x80000001) ≡ 0x680000001
ambiguous_word_is = refl

wide_word_is : packed_count (refused 7 0 0) ≡ 0x700000000
wide_word_is = refl

-- operands: −8, and the greatest number; a stored value; out of range (12); no room for a text (18)
eight_below_is : packed_signed (result (negsuc 7)) ≡ 0x100fffffff8
eight_below_is = refl

greatest_is : packed_signed (result (pos 4294967295)) ≡ 0xffffffff
greatest_is = refl

value_is : packed_number (result 0xf8) ≡ 0xf8
value_is = refl

out_of_range_is : packed_signed (refused 12 0 0) ≡ 0xc00000000
out_of_range_is = refl

no_room_is : packed_number (refused 18 0 0) ≡ 0x1200000000
no_room_is = refl
