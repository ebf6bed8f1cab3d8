-- The checker's rule, for the entries of a table and the words of any tree ('Checker and images').
use Rattle.std.specs.Prelude.{ℕ, zero, suc, ◌+◌, Bool, true, false, not, cond, List, eqb, length, Option, Some, None}
use Rattle.words.specs.Tests.{◌and◌}
use Rattle.words.specs.Words.{word, bit}
use Rattle.words.specs.Outcome.{Outcome, result, faulty, refused}
use Rattle.table.specs.Table.{Entry, Table}
use Rattle.choice.specs.Rule.{Choice, names, nothing, ambiguous, selects, judge}
use Rattle.flat.specs.Nodes.{header_of, node_of}
use Rattle.flat.specs.declared.Header.{Header}
use Rattle.flat.specs.declared.Node.{Node}
use Rattle.flat.specs.declared.Node.TheVariants.{Asks, Names, Nothing}
use Rattle.cell.specs.Cell.{Cell, start, zero_side, one_side, live, sure}
use Rattle.cell.specs.Step.{free}

-- ---- a leaf

-- what steps 1 and 2 say of a cell: the entry of step 1, nothing by step 2, or neither
abbrev pub settled : List Entry → Cell → Choice
settled es c = judge es (sure c) (live c)

-- "each nothing has step 2"
unfoldable pub is_step_two : Choice → Bool
is_step_two (names i) = false
is_step_two nothing = true
is_step_two ambiguous = false

-- ---- a subtree: the index after it if it is right, else no

abbrev pub provided : Bool → Option ℕ → Option ℕ
provided true r = r
provided false r = None

-- "each one side begins where the zero side ends"
abbrev pub meeting : Option ℕ → ℕ → Option ℕ → Option ℕ
meeting None k r = None
meeting (Some m) k r = provided (eqb m k) r

-- the node at index i, in its cell: "no node damaged", "each named entry is the one of step 1 in its cell", what a nothing must
-- be, "no path tests a bit twice"
abbrev pub check_node : Option Node → Choice → Cell → ℕ → (ℕ → ℕ → Option ℕ) → Option ℕ
check_node None a c i sides = None
check_node (Some (Names e)) a c i sides = provided (selects a e) (Some (i + 1))
check_node (Some Nothing) a c i sides = provided (is_step_two a) (Some (i + 1))
check_node (Some (Asks b k)) a c i sides = provided (not (bit c.fixed b)) (sides b k)

-- the subtree from index i on, in a cell with at most `fuel` unfixed bits (where none is unfixed any test is of a bit tested before)
unfoldable pub check_from : ℕ → List Entry → List ℕ → ℕ → ℕ → Cell → ℕ → Option ℕ
check_from zero es words width n c i = check_node (node_of width n i (word words i)) (settled es c) c i (λ b k. None)
check_from (suc fuel) es words width n c i =
    check_node (node_of width n i (word words i)) (settled es c) c i
    (λ b k. meeting (check_from fuel es words width n (zero_side c b) (i + 1)) k (check_from fuel es words width n (one_side c b) k))

unfoldable pub check_below : List Entry → List ℕ → ℕ → ℕ → Cell → ℕ → Option ℕ
check_below es words width n c i = check_from (free width c.fixed) es words width n c i

-- the same of a node that tests bit b and has its one side at k
unfoldable pub check_sides : List Entry → List ℕ → ℕ → ℕ → Cell → ℕ → ℕ → ℕ → Option ℕ
check_sides es words width n c i b k =
    provided (not (bit c.fixed b)) (meeting (check_below es words width n (zero_side c b) (i + 1)) k (check_below es words width n (one_side c b) k))

-- ---- the whole tree

-- "all nodes are used": the tree ends after its last node
abbrev pub ends_at : Option ℕ → ℕ → Bool
ends_at None k = false
ends_at (Some m) k = eqb m k

-- "header good, widths equal", and the tree from index 1 on, with no bit fixed
unfoldable pub accepts_by : Option Header → List Entry → ℕ → List ℕ → Bool
accepts_by None es width words = false
accepts_by (Some h) es width words = eqb h.width width and ends_at (check_below es words width h.nodes start 1) (h.nodes + 1)

-- the checker "says yes"
unfoldable pub accepts : List Entry → ℕ → List ℕ → Bool
accepts es width words = accepts_by (header_of (word words 0) (length words)) es width words

-- "After 1–4 it says yes exactly when .. otherwise its answer is 14"
unfoldable pub check_of : Outcome Table → List ℕ → Outcome Unit
check_of (faulty n p) words = faulty n p
check_of (refused n p x) words = refused n p x
check_of (result t) words = cond (accepts t.entries t.width words) (result tt) (refused 14 0 0)
