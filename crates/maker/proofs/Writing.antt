-- What was written of a tree, from what was written of its sides. Assumes nothing.
use mathlib.Core.Path.{◌≡◌, refl, sym, ap, ap₂, ◌∙◌}
use mathlib.Core.List.{List, ◌∷◌, ◌++◌}
use mathlib.Core.Bool.{Bool}
use mathlib.Core.Option as maybe
use mathlib.Core.Option.{or_else}
use Prim.Native.Nat.{ℕ, suc, ◌+◌, ◌*◌, ◌^◌, ◌<◌, max}
use native.Mathlib.Numerals.{add-one}
use native.Mathlib.Omega.{arith}
use lib.ListN.{length, set}
use lib.Seq.{sets}
use Rattle.std.specs.Option.{option_or}
use Rattle.words.proofs.Lists.{sets_append, set_sets}
use Rattle.choice.specs.Rule.{Choice, nothing, ambiguous}
use Rattle.cell.specs.Cell.{Cell, zero_side, one_side}
use Rattle.tree.specs.Tree.{Tree, leaf, test, size, depth, conflict, if_conflict}
use Rattle.tree.specs.Written.{leaf_word, test_word, nodes}
use Rattle.tree.proofs.Sizes.{length_nodes, depth_lt}
use Rattle.maker.specs.Parts.{first_of, made_leaf, made_test, marked, marks_of, Written}
use Rattle.maker.specs.declared.Made.{Made}

-- kind 10; a conflict leaf's place is taken by it
pub nothing_word : 10 * 2 ^ 28 ≡ leaf_word nothing
unfolding leaf_word
nothing_word = refl

pub conflict_word : 10 * 2 ^ 28 ≡ leaf_word ambiguous
unfolding leaf_word
conflict_word = refl

-- a leaf
pub leaf_written : (before : List ℕ) (unmarked : List Bool) (c : Cell) (a : Choice) (at limit : ℕ) → at < limit
    → Written before (set before at (leaf_word a)) unmarked (marked a unmarked) (leaf a) c at limit (made_leaf at (first_of (if_conflict a c.bits)))
unfolding size depth nodes conflict marks_of
leaf_written before unmarked c a at limit room =
    record { room = omega arith; within = omega arith; next_is = refl; first_is = refl; depth_is = refl; words = refl; marks_are = refl }

-- the zero side, the node before it, and the one side
node_sides : (out : List ℕ) (at w k : ℕ) (ws vs : List ℕ) → length ws ≡ k
    → sets (set (sets out (at + 1) ws) at w) (at + 1 + k) vs ≡ sets out at (w ∷ (ws ++ vs))
node_sides out at w k ws vs e =
    ap (λ (l : List ℕ). sets l (at + 1 + k) vs) (set_sets ws out (at + 1) at w (omega arith))
    ∙ ap (λ (j : ℕ). sets (sets (set out at w) (at + 1) ws) (at + 1 + j) vs) (sym e)
    ∙ sym (sets_append ws vs (set out at w) (at + 1))
    ∙ ap (λ (j : ℕ). sets (set out at w) j (ws ++ vs)) (add-one at)

-- the first conflict of two sides
first_or : (x y : maybe.Option ℕ) → option_or (first_of x) (first_of y) ≡ first_of (or_else x y)
unfolding or_else
first_or maybe.none y = refl
first_or (maybe.some w) y = refl

-- a test
module _ (z o : Tree) (b at limit : ℕ) where
  pub zero_full : limit < at + 1 + size z → limit < at + size (test b z o)
  unfolding size
  zero_full h = omega arith

  pub one_full : (n : ℕ) → n ≡ at + 1 + size z → limit < n + size o → limit < at + size (test b z o)
  unfolding size
  one_full n e h = omega arith

  pub test_written : (c : Cell) (out o1 o2 : List ℕ) (m0 m1 m2 : List Bool) (m n : Made)
      → Written out o1 m0 m1 z (zero_side c b) (at + 1) limit m
      → Written (set o1 at (test_word b m.next)) o2 m1 m2 o (one_side c b) m.next limit n
      → Written out o2 m0 m2 (test b z o) c at limit (made_test m n)
  unfolding size depth nodes conflict marks_of
  test_written c out o1 o2 m0 m1 m2 m n x y =
      record {
        room = omega (arith, x.next_is, y.room);
        within = omega (arith, x.within, y.within, x.next_is, y.next_is, x.depth_is, y.depth_is, depth_lt z, depth_lt o);
        next_is = omega (arith, x.next_is, y.next_is);
        first_is = ap₂ option_or x.first_is y.first_is ∙ first_or (conflict (zero_side c b) z) (conflict (one_side c b) o);
        depth_is = add-one _ ∙ ap₂ (λ (i j : ℕ). suc (max i j)) x.depth_is y.depth_is;
        words =
            y.words
            ∙ ap (λ (l : List ℕ). sets (set l at (test_word b m.next)) m.next (nodes m.next o)) x.words
            ∙ ap (λ (k : ℕ). sets (set (sets out (at + 1) (nodes (at + 1) z)) at (test_word b k)) k (nodes k o)) x.next_is
            ∙ node_sides out at (test_word b (at + 1 + size z)) (size z) (nodes (at + 1) z) (nodes (at + 1 + size z) o) (length_nodes z (at + 1));
        marks_are = y.marks_are ∙ ap (marks_of o) x.marks_are;
      }
