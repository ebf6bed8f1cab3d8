-- The greatest number of tests of a table's tree. Assumes nothing.
--     zero_side_in, one_side_in     the words of a side are words of the cell
--     asked_few     no path is longer
--     tree_deepest, depth_few     some word of the width takes the longest path, which is no longer than the width
use Prim.Native.Nat.{ℕ, ◌^◌, ◌≤◌, ◌<◌, zero-le}
use native.Mathlib.Nat.{le_refl}
use native.Mathlib.Omega.{arith}
use mathlib.Core.Path.{◌≡◌, refl, sym, ap, ap₂, ◌∙◌}
use mathlib.Core.Bool.{true, false}
use mathlib.Core.List.{List}
use lib.Bits.{bit_and, bit_or, and_comm, and_self, or_lt, or_zero_r}
use lib.Dec.{leb}
use lib.ListN.{length}
use lib.Pow.{pow-lt, pow_pos}
use borrow.Author.Tests.{leb-true, leb-false}
use Rattle.words.specs.Words.{bit}
use Rattle.words.proofs.Bits.{and_assoc, and_or, and_pow, bit_and_lem, bit_or_lem, bit_pow, mask_agree}
use Rattle.words.proofs.Logic.{cases, clash, is_false, and_r, or_ir}
use Rattle.table.specs.Lawful.{good_table}
use Rattle.table.specs.Table.{Entry}
use Rattle.cell.specs.Cell.{Cell, start, zero_side, one_side}
use Rattle.cell.specs.Step.{free}
use Rattle.cell.proofs.Cells.{In}
use Rattle.tree.specs.Tree.{Tree, leaf, test, below, tree, asked, depth}
use Rattle.tree.proofs.Theorem.{induct, own_zero, own_in, own_one, tree_short}

-- ---- the words of a side are words of the cell

-- words that agree on the bits of a side agree on the tested one, and on those of the cell
module _ (c : Cell) (i : ℕ) (f : bit c.fixed i ≡ false) (w x : ℕ) (e : bit_and w (bit_or c.fixed (2 ^ i)) ≡ bit_and x (bit_or c.fixed (2 ^ i))) where
  side_bit : bit w i ≡ bit x i
  side_bit = mask_agree w x (bit_or c.fixed (2 ^ i)) i e (bit_or_lem c.fixed (2 ^ i) i ∙ or_ir _ (bit_pow i))

  side_fixed : bit_and w c.fixed ≡ bit_and x c.fixed
  side_fixed =
      let m : ℕ = bit_or c.fixed (2 ^ i) in
      let q : bit_and m c.fixed ≡ c.fixed
      = and_comm m c.fixed ∙ and_or c.fixed c.fixed (2 ^ i) ∙ ap₂ bit_or (and_self c.fixed) (and_pow c.fixed i ∙ rw f) ∙ or_zero_r c.fixed in
      ap (bit_and w) (sym q) ∙ sym (and_assoc w m c.fixed) ∙ ap (λ (y : ℕ). bit_and y c.fixed) e ∙ and_assoc x m c.fixed ∙ ap (bit_and x) q

module _ (c : Cell) (i : ℕ) (f : bit c.fixed i ≡ false) (own : In c c.bits) (w : ℕ) where
  pub zero_side_in : In (zero_side c i) w → (In c w) × (bit w i ≡ false)
  zero_side_in h =
      let e : bit_and w (bit_or c.fixed (2 ^ i)) ≡ bit_and c.bits (bit_or c.fixed (2 ^ i)) = h ∙ sym (own_zero c i f own) in (
        side_fixed c i f w c.bits e ∙ own,
        side_bit c i f w c.bits e ∙ is_false (λ t. clash (and_r _ (sym (bit_and_lem c.bits c.fixed i) ∙ ap (λ (x : ℕ). bit x i) own ∙ t)) f),
      )

  pub one_side_in : In (one_side c i) w → (In c w) × (bit w i ≡ true)
  one_side_in h =
      let x : ℕ = bit_or c.bits (2 ^ i) in
      let e : bit_and w (bit_or c.fixed (2 ^ i)) ≡ bit_and x (bit_or c.fixed (2 ^ i)) = h ∙ sym (own_one c i f own) in
      (side_fixed c i f w x e ∙ own_in c i f own, side_bit c i f w x e ∙ bit_or_lem c.bits (2 ^ i) i ∙ or_ir _ (bit_pow i))

-- ---- paths

-- no path is longer
pub asked_few : (t : Tree) (w : ℕ) → length (asked t w) ≤ depth t
unfolding asked depth
asked_few (leaf a) w = zero-le
asked_few (test i l r) w = cases (bit w i) (λ t. rw t (omega (arith, asked_few r w))) (λ t. rw t (omega (arith, asked_few l w)))

module _ (es : List Entry) (width : ℕ) (good : good_table width es ≡ true) where
  -- some word's path is as long: below each cell there is one, down the deeper side
  pub tree_deepest : (w : ℕ) × (w < 2 ^ width) × (length (asked (tree es width) w) ≡ depth (tree es width))
  unfolding tree below asked depth
  tree_deepest =
      let s = induct es width good
      (λ c t. In c c.bits → c.bits < 2 ^ width → (w : ℕ) × (In c w) × (w < 2 ^ width) × (length (asked t w) ≡ depth t))
      (λ c a e h lt. (c.bits, h, lt, refl))
      (λ c i l r e b f zs os h lt.
      cases (leb (depth r) (depth l))
      (λ k.
      let s = zs (own_zero c i f h) lt in
      let q = zero_side_in c i f h s.0 s.1 in
      (s.0, q.0, s.2, rw q.1 (omega (arith, s.3, leb-true (depth r) (depth l) k))))
      (λ k.
      let s = os (own_one c i f h) (or_lt width c.bits (2 ^ i) lt (pow-lt b)) in
      let q = one_side_in c i f h s.0 s.1 in
      (s.0, q.0, s.2, rw q.1 (omega (arith, s.3, leb-false (depth r) (depth l) k)))))
      (free width 0) start (le_refl _) refl (pow_pos width) in
      (s.0, s.2, s.3)

  pub depth_few : depth (tree es width) ≤ width
  depth_few = let s = tree_deepest in omega (arith, s.2, tree_short es width good s.0)
