-- Laws of the size of a tree. Assumes nothing.
use mathlib.Core.Path.{◌≡◌, refl}
use Prim.Native.Nat.{ℕ, ◌+◌, ◌<◌}
use native.Mathlib.Omega.{arith}
use lib.ListN.{length, length-append}
use Rattle.tree.specs.Tree.{Tree, leaf, test, size, depth}
use Rattle.tree.specs.Written.{nodes}

-- a tree has as many words as nodes
pub length_nodes : (t : Tree) (i : ℕ) → length (nodes i t) ≡ size t
unfolding nodes size
length_nodes (leaf a) i = refl
length_nodes (test b l r) i =
    simp length-append (omega (arith, length_nodes l (i + 1), length_nodes r (i + 1 + size l)))

pub size_pos : (t : Tree) → 0 < size t
unfolding size
size_pos (leaf a) = omega arith
size_pos (test b l r) = omega arith

-- a path has fewer tests than the tree has nodes
pub depth_lt : (t : Tree) → depth t < size t
unfolding depth size
depth_lt (leaf a) = omega arith
depth_lt (test b l r) = omega (arith, depth_lt l, depth_lt r)
