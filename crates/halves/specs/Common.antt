-- What the walks of all words with one upper half name, in any words of a tree (document 02, No. 6).
use Rattle.std.specs.Prelude.{ℕ, zero, suc, ◌+◌, ◌-◌, ◌*◌, ◌^◌, cond, List, eqb, ltb, length, Option, Some, None}
use Rattle.words.specs.Words.{word, bit}
use Rattle.flat.specs.Nodes.{header_of, node_of}
use Rattle.flat.specs.declared.Header.{Header}
use Rattle.flat.specs.declared.Node.{Node}
use Rattle.flat.specs.declared.Node.TheVariants as node
use Rattle.halves.specs.declared.Shared.{Shared}
use Rattle.halves.specs.declared.Shared.TheVariants.{Entry, Nothing, Several}
use Rattle.halves.specs.declared.Side.{Side}
use Rattle.halves.specs.declared.Side.TheVariants.{Zero, One, Either}

-- the side of a test of bit b to which the words with upper half u go: of a lower bit either
unfoldable pub side_of : ℕ → ℕ → Side
side_of u b = cond (ltb b 16) Either (cond (bit u (b - 16)) One Zero)

-- what two sides name together: "the same entry", or nothing both; else several
unfoldable pub both_of : Shared → Shared → Shared
both_of (Entry e) (Entry f) = cond (eqb e f) (Entry e) Several
both_of (Entry e) Nothing = Several
both_of (Entry e) Several = Several
both_of Nothing (Entry f) = Several
both_of Nothing Nothing = Nothing
both_of Nothing Several = Several
both_of Several x = Several

-- what is named below a test, from what its sides name
unfoldable pub from_sides : Side → Shared → Shared → Shared
from_sides Zero zs os = zs
from_sides One zs os = os
from_sides Either zs os = both_of zs os

-- at a node, where `sides` is said of a test; a damaged node names nothing that all could share
abbrev pub at_node : Option Node → (ℕ → ℕ → Shared) → Shared
at_node None sides = Several
at_node (Some (node.Names e)) sides = Entry e
at_node (Some node.Nothing) sides = Nothing
at_node (Some (node.Asks b k)) sides = sides b k

-- from index i on, in a part of the tree whose last node is n: a zero side is a part of its own, which ends before the one side, so that
-- a test in it whose one side lies further on is damaged. At most `fuel` tests deep: "no path tests a bit twice", so that a deeper one is
-- several, as a damaged one is
unfoldable pub common_from : ℕ → List ℕ → ℕ → ℕ → ℕ → ℕ → Shared
common_from zero ws width n u i = at_node (node_of width n i (word ws i)) (λ b k. Several)
common_from (suc fuel) ws width n u i =
    at_node (node_of width n i (word ws i))
    (λ b k. from_sides (side_of u b) (common_from fuel ws width (k - 1) u (i + 1)) (common_from fuel ws width n u k))

-- the whole tree, where every word with this upper half is one of the width
unfoldable pub common_by : Option Header → List ℕ → ℕ → Shared
common_by None ws u = Several
common_by (Some h) ws u = cond (ltb (2 ^ 16 * u + 65535) (2 ^ h.width)) (common_from h.width ws h.width h.nodes u 1) Several

unfoldable pub common_of : List ℕ → ℕ → Shared
common_of ws u = common_by (header_of (word ws 0) (length ws)) ws u
