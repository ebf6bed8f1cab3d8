-- The trees of the tables of document 01, their written form and their walks, computed. Assumes nothing.
use Prim.Native.Nat.{ℕ}
use mathlib.Core.Path.{◌≡◌, refl}
use mathlib.Core.List.{List, [], ◌∷◌}
use mathlib.Core.Option.{Option, none, some, or_else}
use lib.ListN.{replicate}
use Rattle.words.specs.Tests.{◌and◌, ◌or◌, all_of, any_of, every, exists, how_many, first, best}
use Rattle.words.specs.Words.{part, bit, includes}
use Rattle.words.specs.Outcome.{Outcome, result, faulty, refused}
use Rattle.table.specs.Table.{Entry, table_of}
use Rattle.table.specs.Check.{read_table}
use Rattle.table.specs.Worked.{printed, worked}
use Rattle.table.proofs.Examples.{opened}
use Rattle.choice.specs.Rule.{names, nothing, selects, matches, more_specific, judge, judge_at, beats_at, gives_way}
use Rattle.selection.specs.Selection.{satisfied, claims, select}
use Rattle.selection.specs.Lookup.{look_of}
use Rattle.selection.proofs.Examples.{looks}
use Rattle.cell.specs.Cell.{start, implies, clashes, holds, fails, open_condition, dead, live, sure, open_entry}
use Rattle.cell.specs.Step.{votes_at, in_condition, in_open, wanted_at, tested_at, settled_at, step_at, step, free}
use Rattle.tree.specs.Tree.{leaf, test, tree_of, below, tree, size, depth, conflict}
use Rattle.tree.specs.Written.{header_word, test_word, leaf_word, nodes, written}
use Rattle.tree.specs.Reach.{reached, lowest_unreached}
use Rattle.tree.specs.Generate.{table_with, fits, judged, generate_of, left_by, buffer_of, survey_of, measure_of}
use Rattle.flat.specs.Nodes.{header_rest, header_of, test_node, names_node, nothing_node, node_of}
use Rattle.flat.specs.Walk.{Walk, path, mask_of, ones, enters, walk_of}

-- a tree and its first conflict, with every definition open
unfoldable grown : List Entry → ℕ → Option ℕ
unfolding conflict size tree below free tree_of step step_at settled_at tested_at wanted_at in_open in_condition votes_at open_entry sure live dead open_condition fails holds clashes implies matches judge judge_at beats_at gives_way more_specific first exists every how_many best any_of all_of bit ◌and◌ ◌or◌ includes or_else
grown es width = conflict start (tree es width)

-- an entry without conditions
abbrev plain : ℕ → ℕ → Entry
plain m v = record { label = 0; size = 3; opcode = record { mask = m; value = v }; cycles = 0; fields = []; conditions = [] }

-- `-`: an entry that matches every word of one bit
abbrev every_word : Entry
every_word = plain 0 0

-- width 3, 0-- and --0: 7 nodes, word 0 in conflict
abbrev two : List Entry
two = plain 4 0 ∷ plain 1 0 ∷ []

pub two_nodes : size (tree two 3) ≡ 7
unfolding grown
two_nodes = refl

pub two_conflict : conflict start (tree two 3) ≡ some 0
unfolding grown
two_conflict = refl

-- with 0-0: 7 nodes, no conflict, word 0 selects the third
abbrev three : List Entry
three = plain 4 0 ∷ plain 1 0 ∷ plain 5 0 ∷ []

pub three_tree :
    tree three 3
    ≡ test 2 (test 0 (leaf (names 2)) (leaf (names 0))) (test 0 (leaf (names 1)) (leaf nothing))
unfolding grown
three_tree = refl

-- 0-- and -00: word 0 is in conflict, though the second has more mask bits
pub wide_conflict : conflict start (tree (plain 4 0 ∷ plain 3 0 ∷ []) 3) ≡ some 0
unfolding grown
wide_conflict = refl

-- the table that mktree prints
pub one_tree : tree (plain 2 2 ∷ []) 2 ≡ test 1 (leaf nothing) (leaf (names 0))
unfolding grown
one_tree = refl

-- the worked table, from its words: 27 nodes, no conflict
pub worked_nodes : size (tree (table_of worked).entries 8) ≡ 27
unfolding opened grown
worked_nodes = refl

pub worked_clear : conflict start (tree (table_of worked).entries 8) ≡ none
unfolding opened grown
worked_clear = refl

-- ---- generating, from the words of the table on

-- what generating answers, with every definition open
unfoldable pub answered : Outcome ℕ → Outcome ℕ
unfolding opened grown satisfied claims select selects reached lowest_unreached fits judged generate_of left_by buffer_of header_word test_word leaf_word nodes written
answered r = r

-- "For the words 10010002 20050210 00000002 00000002 30000001 it prints": the four words; a fifth in the buffer stays
abbrev pub printed_tree : List ℕ
printed_tree = 0x70020003 ∷ 0x80800003 ∷ 0xa0000000 ∷ 0x90000000 ∷ []

pub printed_answer : generate_of (read_table printed) 5 ≡ result 4
unfolding answered
printed_answer = refl

pub printed_buffer : buffer_of (read_table printed) (1 ∷ 2 ∷ 3 ∷ 4 ∷ 5 ∷ []) ≡ 0x70020003 ∷ 0x80800003 ∷ 0xa0000000 ∷ 0x90000000 ∷ 5 ∷ []
unfolding answered
printed_buffer = refl

-- in three words it does not fit, and the buffer is all zero; a table at fault leaves it as it was
pub printed_short : generate_of (read_table printed) 3 ≡ refused 5 0 0
unfolding answered
printed_short = refl

pub printed_cleared : buffer_of (read_table printed) (1 ∷ 2 ∷ 3 ∷ []) ≡ 0 ∷ 0 ∷ 0 ∷ []
unfolding answered
printed_cleared = refl

pub empty_kept : buffer_of (read_table []) (1 ∷ 2 ∷ 3 ∷ []) ≡ 1 ∷ 2 ∷ 3 ∷ []
unfolding answered
empty_kept = refl

-- "Width 3, patterns 0-- and --0: .. 8 words give 6 with word 0, 7 words give 5"
pub two_ambiguous : generate_of (result (table_with two 3)) 8 ≡ refused 6 0 0
unfolding answered
two_ambiguous = refl

pub two_cleared : buffer_of (result (table_with two 3)) (replicate 8 9) ≡ replicate 8 0
unfolding answered
two_cleared = refl

pub two_short : generate_of (result (table_with two 3)) 7 ≡ refused 5 0 0
unfolding answered
two_short = refl

-- "With 0-0 added: accepted in 8 words"
pub three_accepted : generate_of (result (table_with three 3)) 8 ≡ result 8
unfolding answered
three_accepted = refl

-- ---- sizing

-- with every definition open
unfoldable sized : ℕ → ℕ
unfolding answered depth survey_of measure_of
sized n = n

pub record Sizings : Type 0 where
  -- the table that mktree prints, and the worked table: 0x00 is one of the words that take all of its 6 tests
  pub printed_size : measure_of (read_table printed) ≡ result (record { nodes = 3; tests = 1 })
  pub worked_size : measure_of (read_table worked) ≡ result (record { nodes = 27; tests = 6 })
  -- no entries: a leaf alone, and no test
  pub empty_size : measure_of (read_table (0x10000008 ∷ [])) ≡ result (record { nodes = 1; tests = 0 })
  -- width 3, 0-- and --0: 6 with word 0, and 5 where 7 words are too few for the 7 nodes; with 0-0 it has a size
  pub two_size : measure_of (result (table_with two 3)) ≡ refused 6 0 0
  pub two_within : survey_of (result (table_with two 3)) 7 ≡ refused 5 0 0
  pub three_size : measure_of (result (table_with three 3)) ≡ result (record { nodes = 7; tests = 2 })
  -- a table at fault
  pub no_size : measure_of (read_table []) ≡ faulty 1 0

pub sizings : Sizings
unfolding sized
sizings =
    record {
      printed_size = refl;
      worked_size = refl;
      empty_size = refl;
      two_size = refl;
      two_within = refl;
      three_size = refl;
      no_size = refl;
    }

-- ---- entries that no word selects

-- width 1: entry 0, `-`, and 1, where its condition takes word 0 away
abbrev pub one_covers : List ℕ
one_covers = 0x10020001 ∷ 0x20000111 ∷ 0 ∷ 0 ∷ 0x30000001 ∷ 0x40000000 ∷ 1 ∷ 0 ∷ 0x20010100 ∷ 1 ∷ 1 ∷ []

-- width 1: `-`, 0 and 1
abbrev two_cover : List ℕ
two_cover = 0x10030001 ∷ 0x20000110 ∷ 0 ∷ 0 ∷ 0x30000001 ∷ 0x20010100 ∷ 1 ∷ 0 ∷ 0x20020100 ∷ 1 ∷ 1 ∷ []

-- width 1: `-` alone, with a condition that every word satisfies
abbrev self_excluded : List ℕ
self_excluded = 0x10010001 ∷ 0x20000111 ∷ 0 ∷ 0 ∷ 0x30000001 ∷ 0x40000000 ∷ 0 ∷ 0 ∷ []

pub record Unreachable : Type 0 where
  -- 19 with entry 0; sizing says the same
  pub by_one : generate_of (read_table one_covers) 4 ≡ refused 19 0 0
  pub by_two : generate_of (read_table two_cover) 4 ≡ refused 19 0 0
  pub by_itself : generate_of (read_table self_excluded) 4 ≡ refused 19 0 0
  pub sized : measure_of (read_table two_cover) ≡ refused 19 0 0
  -- the buffer is all zero; the 3 nodes must fit first
  pub cleared : buffer_of (read_table two_cover) (9 ∷ 9 ∷ 9 ∷ 9 ∷ 9 ∷ []) ≡ 0 ∷ 0 ∷ 0 ∷ 0 ∷ 0 ∷ []
  pub short : generate_of (read_table two_cover) 3 ≡ refused 5 0 0
  -- an ambiguous word comes before an entry that no word selects: width 1, `-` twice, and 0
  pub ambiguous_first : generate_of (result (table_with (every_word ∷ every_word ∷ plain 1 0 ∷ []) 1)) 4 ≡ refused 6 0 1
  -- with 0 and 1 alone every entry is selected
  pub reached_all : generate_of (result (table_with (plain 1 0 ∷ plain 1 1 ∷ []) 1)) 4 ≡ result 4
  -- lookup still takes such a table
  pub looked_up_lem : look_of (read_table one_covers) 0 ∷ look_of (read_table one_covers) 1 ∷ [] ≡ result none ∷ result (some 1) ∷ []

pub unreachable : Unreachable
unfolding looks sized
unreachable =
    record {
      by_one = refl;
      by_two = refl;
      by_itself = refl;
      sized = refl;
      cleared = refl;
      short = refl;
      ambiguous_first = refl;
      reached_all = refl;
      looked_up_lem = refl;
    }

-- ---- walking

unfoldable pub walked : Outcome Walk → Outcome Walk
unfolding bit part ◌and◌ header_rest header_of test_node names_node nothing_node node_of path mask_of ones how_many enters walk_of
walked r = r

-- the printed tree: 1- is entry 0, 0- is nothing, each after one test, of bit 1; 4 has a bit at the width
pub walk_entry : walk_of printed_tree 2 ≡ result (record { entry = some 0; count = 1; mask = 2 })
unfolding walked
walk_entry = refl

pub walk_nothing : walk_of printed_tree 1 ≡ result (record { entry = none; count = 1; mask = 2 })
unfolding walked
walk_nothing = refl

-- the worked table's tree: 0x00 is A after the tests of bits 7 to 4, 1 and 0, as many as its mask has ones
pub walk_worked : walk_of (written 8 (tree (table_of worked).entries 8)) 0x00 ≡ result (record { entry = some 0; count = 6; mask = 0xf3 })
unfolding opened answered walked
walk_worked = refl

pub worked_ones : ones 0xf3 ≡ 6
unfolding walked
worked_ones = refl

pub all_ones : ones 0xffffffff ≡ 32
unfolding walked
all_ones = refl

-- a tree that tests bit 1 twice, which no checker accepts: two tests, one bit in the mask
pub walk_twice : walk_of (0x70020005 ∷ 0x80800005 ∷ 0x80800004 ∷ 0xa0000000 ∷ 0xa0000000 ∷ 0x90000000 ∷ []) 0 ≡ result (record { entry = none; count = 2; mask = 2 })
unfolding walked
walk_twice = refl

pub walk_wide : walk_of printed_tree 4 ≡ refused 7 0 0
unfolding walked
walk_wide = refl

-- no words, a word missing, and a one side at its node's own index + 1
pub walk_empty : walk_of [] 0 ≡ refused 8 0 0
unfolding walked
walk_empty = refl

pub walk_cut : walk_of (0x70020003 ∷ 0x80800003 ∷ 0xa0000000 ∷ []) 0 ≡ refused 8 0 0
unfolding walked
walk_cut = refl

pub walk_damaged : walk_of (0x70020003 ∷ 0x80800002 ∷ 0xa0000000 ∷ 0x90000000 ∷ []) 0 ≡ refused 9 1 0
unfolding walked
walk_damaged = refl

-- a leaf with a spare bit, on the path of 2 and not on that of 1
pub walk_spare : walk_of (0x70020003 ∷ 0x80800003 ∷ 0xa0000000 ∷ 0x90000100 ∷ []) 2 ≡ refused 9 3 0
unfolding walked
walk_spare = refl
