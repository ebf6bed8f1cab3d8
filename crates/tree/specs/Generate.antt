-- What generating and sizing answer, and what generating leaves in the buffer ('The tree of a table', 'Causes, numbers, places'; document
-- 02, No. 2 and 8).
use Rattle.std.specs.Prelude.{ℕ, ◌+◌, Bool, true, false, List, ◌++◌, leb, length, drop, replicate}
use Rattle.std.proofs.Math.Option.{Option, none, some}
use Rattle.words.specs.Tests.{◌and◌}
use Rattle.words.specs.Outcome.{Outcome, result, faulty, refused}
use Rattle.table.specs.Table.{Entry, Table}
use Rattle.cell.specs.Cell.{start}
use Rattle.tree.specs.Tree.{Tree, tree, size, depth, conflict}
use Rattle.tree.specs.Written.{written}
use Rattle.tree.specs.Reach.{lowest_unreached}

-- the tree of entries of a width, as the table's
abbrev pub table_with : List Entry → ℕ → Table
table_with es width = record { width = width; entries = es }

-- "A tree fits when nodes + 1 is at most the buffer's length and at most 16,384"
unfoldable pub fits : Tree → ℕ → Bool
fits t room = leb (size t + 1) room and leb (size t + 1) 16384

-- "Fit is decided before ambiguity": 5; then 6 with "that of the first conflict cell"; then "19, with the lowest such entry as place,
-- after 6"; else the answer
unfoldable pub judged : {A : Type 0} → Bool → Option ℕ → Option ℕ → A → Outcome A
judged false o u a = refused 5 0 0
judged true (some w) u a = refused 6 0 w
judged true none (some e) a = refused 19 e 0
judged true none none a = result a

-- of the tree of a table, in a room of so many words
abbrev pub judged_in : {A : Type 0} → Table → ℕ → A → Outcome A
judged_in t room a = let g = tree t.entries t.width in judged (fits g room) (conflict start g) (lowest_unreached t.entries t.width) a

-- ---- generating

-- "On success generating returns nodes + 1"
unfoldable pub generate_of : Outcome Table → ℕ → Outcome ℕ
generate_of (faulty n p) room = faulty n p
generate_of (refused n p x) room = refused n p x
generate_of (result t) room = judged_in t room (size (tree t.entries t.width) + 1)

-- the buffer afterwards: unchanged for 1 to 4; "tree buffer all zero" for 5, 6 and 19; else the tree, and "words after the tree are unchanged"
unfoldable pub left_by : Table → Outcome ℕ → List ℕ → List ℕ
left_by t (result n) out = let words = written t.width (tree t.entries t.width) in words ++ drop (length words) out
left_by t (faulty n p) out = replicate (length out) 0
left_by t (refused n p w) out = replicate (length out) 0

unfoldable pub buffer_of : Outcome Table → List ℕ → List ℕ
buffer_of (faulty n p) out = out
buffer_of (refused n p x) out = out
buffer_of (result t) out = left_by t (generate_of (result t) (length out)) out

-- ---- sizing

-- "the number of nodes that generating writes and the greatest number of tests on a path to any leaf"
pub record Measure : Type 0 where
  pub nodes : ℕ
  pub tests : ℕ

abbrev pub measured : Tree → Measure
measured g = record { nodes = size g; tests = depth g }

-- sizing within a room of so many words: 5, 6 and 19 as in generating
unfoldable pub survey_of : Outcome Table → ℕ → Outcome Measure
survey_of (faulty n p) room = faulty n p
survey_of (refused n p x) room = refused n p x
survey_of (result t) room = judged_in t room (measured (tree t.entries t.width))

-- "The tree limit applies: over it the answer is 5, then 6 as in generating"
unfoldable pub measure_of : Outcome Table → Outcome Measure
measure_of r = survey_of r 16384
