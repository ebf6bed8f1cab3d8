-- Headers and nodes of a tree in its written form, in any words ('Written form').
use Rattle.std.specs.Prelude.{ℕ, ◌+◌, ◌<◌, ◌≤◌, cond, eqb, ltb, leb, Option, Some, None}
use Rattle.std.proofs.Math.Option as named
use Rattle.words.specs.Tests.{◌and◌}
use Rattle.words.specs.Words.{bits}
use Rattle.words.specs.Outcome.{Outcome, result, refused}
use Rattle.flat.specs.declared.Header.{Header}
use Rattle.flat.specs.declared.Node.{Node}
use Rattle.flat.specs.declared.Node.TheVariants.{Asks, Names, Nothing}

-- ---- the header

-- a good header's width and number of nodes
abbrev pub good : ℕ → ℕ → Option Header
good width n = Some (record { width = width; nodes = n })

-- "tree header: length 0, kind, spare bit, width not 1–32, no nodes, more nodes than words after it": else its width and number of nodes
unfoldable pub header_rest : ℕ → ℕ → ℕ → Option Header
header_rest width n words = cond (leb 1 width and leb width 32 and leb 1 n and ltb n words) (good width n) None

-- the width that a header word says
abbrev pub header_width : ℕ → ℕ
header_width x = bits 21 16 x

-- (a tree of no words has no node, so its length 0 is bad too)
unfoldable pub header_of : ℕ → ℕ → Option Header
header_of x words = cond (eqb (bits 31 28 x) 7 and eqb (bits 27 22 x) 0) (header_rest (header_width x) (bits 15 0 x) words) None

-- a tree's width and its number of nodes
pub record TreeShape : Type 0 where
  pub width : ℕ
  pub nodes : ℕ

-- the paper's number and values for each case of a header
abbrev pub said_header : Option Header → Outcome TreeShape
said_header None = refused 8 0 0
said_header (Some h) = result (record { width = h.width; nodes = h.nodes })

-- ---- nodes

-- "Kind 8 tests the bit in bits 27–23, the one side's index in bits 15–0": damaged if "a spare bit is set, the tested bit is at or above
-- the width, or the one side's index is below its own + 2 or above the number of nodes"
unfoldable pub test_node : ℕ → ℕ → ℕ → ℕ → Option Node
test_node width n i x =
    cond (eqb (bits 22 16 x) 0 and ltb (bits 27 23 x) width and leb (i + 2) (bits 15 0 x) and leb (bits 15 0 x) n)
    (Some (Asks (bits 27 23 x) (bits 15 0 x)))
    None

-- "Kind 9 names the entry in bits 7–0"
unfoldable pub names_node : ℕ → Option Node
names_node x = cond (eqb (bits 27 8 x) 0) (Some (Names (bits 7 0 x))) None

-- "Kind 10 names nothing"
unfoldable pub nothing_node : ℕ → Option Node
nothing_node x = cond (eqb (bits 27 0 x) 0) (Some Nothing) None

-- the word x as the node at index i of a tree of n nodes: "damaged if its kind is not 8–10"
unfoldable pub node_of : ℕ → ℕ → ℕ → ℕ → Option Node
node_of width n i x =
    cond (eqb (bits 31 28 x) 8) (test_node width n i x)
    (cond (eqb (bits 31 28 x) 9) (names_node x)
    (cond (eqb (bits 31 28 x) 10) (nothing_node x)
    None))

-- what a path does at a node: "A kind 8 node is one test", of a bit, with the one side's index; kinds 9 and 10 end it, naming an entry
-- or nothing
pub data Turn : Type 0 where
  tests : (bit one : ℕ) → Turn
  ends : named.Option ℕ → Turn

-- the paper's number and values for each case of the node at index i: "damaged node on the path": 9 with "its index"
abbrev pub said_node : ℕ → Option Node → Outcome Turn
said_node i None = refused 9 i 0
said_node i (Some (Asks b k)) = result (tests b k)
said_node i (Some (Names e)) = result (ends (named.some e))
said_node i (Some Nothing) = result (ends named.none)

-- ---- what the code's answers bound

-- a good header: width at most 32, some nodes, all in the words
abbrev pub HeaderBounds : Option Header → ℕ → Type 0
HeaderBounds None words = Unit {0}
HeaderBounds (Some h) words = (1 ≤ h.width) × (h.width ≤ 32) × (1 ≤ h.nodes) × (h.nodes < words) × (h.nodes < 65536)

-- an undamaged test: of a bit below the width, its one side further on; an entry below 256
abbrev pub NodeBounds : Option Node → ℕ → ℕ → ℕ → Type 0
NodeBounds None width n i = Unit {0}
NodeBounds (Some (Names e)) width n i = e < 256
NodeBounds (Some Nothing) width n i = Unit {0}
NodeBounds (Some (Asks b k)) width n i = (b < width) × (b < 32) × (i + 2 ≤ k) × (k ≤ n) × (k < 65536)
