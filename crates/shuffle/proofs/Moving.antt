-- The moved tree: its size, its depth, its first conflict, its paths and its words. Assumes nothing.
--     size_moved, depth_moved, conflict_moved, asked_moved     they stay, and so do the bits that a path tests
--     answer_moved, named_moved     what a path names
--     written_moved, leaf_moved     its words
--     written_named     a word of kind 9 is that of a leaf of the tree
use Prim.Native.Nat.{ℕ, zero, suc, ◌+◌, ◌-◌, ◌*◌, ◌/◌, ◌%◌, ◌^◌, ◌≤◌, ◌<◌, max}
use native.Mathlib.Omega.{arith}
use mathlib.Core.Path.{◌≡◌, refl, sym, ap, ap₂, ◌∙◌, subst}
use mathlib.Core.Bool.{true, cond}
use mathlib.Core.List.{List, [], ◌∷◌, ◌++◌, map, map-append}
use mathlib.Core.Option
use mathlib.Core.Option.{or_else}
use lib.Dec.{ltb, eqb}
use lib.ListN.{length, get_or-append}
use lib.Seq.{get_or-append-add}
use borrow.Author.Tests.{ltb-true, ltb-false, ne_eqb}
use Rattle.words.specs.Tests.{◌and◌}
use Rattle.words.specs.Words.{word, part, bit, bits}
use Rattle.words.proofs.Logic.{cases, or_il, or_ir}
use Rattle.table.specs.Table.{kind_of}
use Rattle.choice.specs.Rule.{Choice, names, nothing, ambiguous, moved_choice}
use Rattle.choice.proofs.Judging.{names_selects}
use Rattle.cell.specs.Cell.{Cell, zero_side, one_side}
use Rattle.tree.specs.Tree.{Tree, leaf, test, size, depth, answer, named, asked, conflict}
use Rattle.tree.specs.Written.{test_word, leaf_word, header_word, nodes, written}
use Rattle.tree.specs.Reach.{names_entry}
use Rattle.tree.proofs.Paths.{Sound}
use Rattle.tree.proofs.Sizes.{length_nodes}
use Rattle.shuffle.specs.Moved.{moved_tree, moved_word}

-- a word is not of kind 9 whose bits from 28 on are no 9
not_nine : (x k : ℕ) → x / 2 ^ 28 ≡ k → (k % 2 ^ 4 ≡ 9 → ⊥) → kind_of x ≡ 9 → ⊥
unfolding part
not_nine x k e d q = d (ap (λ (y : ℕ). y % 2 ^ 4) (sym e) ∙ q)

module _ (to : ℕ → ℕ) where
  -- ---- the tree

  pub size_moved : (t : Tree) → size (moved_tree to t) ≡ size t
  unfolding moved_tree size
  size_moved (leaf a) = refl
  size_moved (test b l r) = ap₂ (λ (x y : ℕ). x + y + 1) (size_moved l) (size_moved r)

  pub depth_moved : (t : Tree) → depth (moved_tree to t) ≡ depth t
  unfolding moved_tree depth
  depth_moved (leaf a) = refl
  depth_moved (test b l r) = ap₂ (λ (x y : ℕ). suc (max x y)) (depth_moved l) (depth_moved r)

  pub conflict_moved : (t : Tree) (c : Cell) → conflict c (moved_tree to t) ≡ conflict c t
  unfolding moved_tree conflict
  conflict_moved (leaf (names e)) c = refl
  conflict_moved (leaf nothing) c = refl
  conflict_moved (leaf ambiguous) c = refl
  conflict_moved (test b l r) c = ap₂ or_else (conflict_moved l (zero_side c b)) (conflict_moved r (one_side c b))

  -- each word's path tests the same bits, and names the moved entry
  pub asked_moved : (t : Tree) (w : ℕ) → asked (moved_tree to t) w ≡ asked t w
  unfolding moved_tree asked
  asked_moved (leaf a) w = refl
  asked_moved (test b l r) w = ap₂ (λ (x y : List ℕ). b ∷ cond (bit w b) y x) (asked_moved l w) (asked_moved r w)

  pub answer_moved : (t : Tree) (w : ℕ) → answer (moved_tree to t) w ≡ moved_choice to (answer t w)
  unfolding moved_tree answer
  answer_moved (leaf a) w = refl
  answer_moved (test b l r) w = cases (bit w b) (λ e. rw e (answer_moved r w)) (λ e. rw e (answer_moved l w))

  pub named_moved : (a : Choice) → named (moved_choice to a) ≡ Option.map to (named a)
  named_moved (names e) = refl
  named_moved nothing = refl
  named_moved ambiguous = refl

  -- ---- its words

  -- a word of another kind stays
  pub stays : (x : ℕ) → (kind_of x ≡ 9 → ⊥) → moved_word to x ≡ x
  unfolding moved_word ◌and◌
  stays x d = rw (ne_eqb (kind_of x) 9 d)

  -- and so does a damaged one
  pub damaged_stays : (x : ℕ) → (bits 27 8 x ≡ 0 → ⊥) → moved_word to x ≡ x
  unfolding moved_word ◌and◌
  damaged_stays x d = cases (eqb (kind_of x) 9) (λ t. rw (t, ne_eqb (bits 27 8 x) 0 d)) (λ t. rw t)

  -- a leaf that names an entry
  pub leaf_is : (x : ℕ) → kind_of x ≡ 9 → bits 27 8 x ≡ 0 → moved_word to x ≡ leaf_word (names (to (bits 7 0 x)))
  unfolding moved_word ◌and◌
  leaf_is x k s = rw (k, s)

  pub leaf_moved : (a : Choice) → ((e : ℕ) → a ≡ names e → e < 256) → leaf_word (moved_choice to a) ≡ moved_word to (leaf_word a)
  unfolding leaf_word moved_word part ◌and◌
  leaf_moved (names e) h =
      let l : e < 256 = h e refl in
      let x : ℕ = 9 * 2 ^ 28 + e in
      let k : kind_of x ≡ 9 = omega arith in
      let s : bits 27 8 x ≡ 0 = omega arith in
      let n : bits 7 0 x ≡ e = omega arith in
      rw (k, s, n)
  leaf_moved nothing h = refl
  leaf_moved ambiguous h = refl

  module _ (width : ℕ) (narrow : width ≤ 32) where
    nodes_moved : (t : Tree) (i : ℕ) → Sound width t → i + size t < 65536 → nodes i (moved_tree to t) ≡ map (moved_word to) (nodes i t)
    unfolding moved_tree nodes Sound size test_word
    nodes_moved (leaf a) i s h = ap (λ (x : ℕ). x ∷ []) (leaf_moved a s)
    nodes_moved (test b l r) i s h =
        rw (size_moved l, map-append (moved_word to))
        (ap₂ ◌∷◌ (sym (stays _ (not_nine _ 8 (omega (arith, s.0)) (omega arith))))
        (ap₂ ◌++◌ (nodes_moved l (i + 1) s.1 (omega arith)) (nodes_moved r (i + 1 + size l) s.2 (omega arith))))

    pub written_moved : (t : Tree) → Sound width t → size t + 1 < 65536 → written width (moved_tree to t) ≡ map (moved_word to) (written width t)
    unfolding written header_word
    written_moved t s h =
        rw (size_moved t)
        (ap₂ ◌∷◌ (sym (stays _ (not_nine _ 7 (omega arith) (omega arith)))) (nodes_moved t 1 s (omega arith)))

-- ---- a word of kind 9 is that of a leaf which names an entry

-- the words after the first, of the zero side and of the one side
module _ (l r : List ℕ) (P : ℕ → Type 0) (left : (j : ℕ) → j < length l → P (word l j)) (right : (j : ℕ) → j < length r → P (word r j)) where
  either_side : (j : ℕ) → j < length l + length r → P (word (l ++ r) j)
  either_side j h =
      cases (ltb j (length l))
      (λ t. let k = ltb-true j (length l) t in subst P (sym (get_or-append l r 0 j k)) (left j k))
      (λ t. let k = ltb-false j (length l) t in
      subst P (sym (ap (word (l ++ r)) (omega arith) ∙ get_or-append-add l r (j - length l) 0)) (right (j - length l) (omega arith)))

-- x is the word of a leaf of the tree that names an entry, if it is of kind 9
abbrev Named : Tree → ℕ → Type 0
Named t x = kind_of x ≡ 9 → (e : ℕ) × (names_entry t e ≡ true) × (x ≡ leaf_word (names e))

module _ (width : ℕ) (narrow : width ≤ 32) where
  nodes_named : (t : Tree) (i : ℕ) → Sound width t → i + size t < 65536 → (j : ℕ) → j < size t → Named t (word (nodes i t) j)
  unfolding nodes size Sound test_word leaf_word names_entry
  nodes_named (leaf (names e)) i s h zero l q = (e, names_selects (names e) e refl, refl)
  nodes_named (leaf nothing) i s h zero l q = absurd (not_nine _ 10 (omega arith) (omega arith) q)
  nodes_named (leaf ambiguous) i s h zero l q = absurd (not_nine _ 10 (omega arith) (omega arith) q)
  nodes_named (leaf a) i s h (suc j) l q = absurd (omega arith)
  nodes_named (test b z o) i s h zero l q = absurd (not_nine _ 8 (omega (arith, s.0)) (omega arith) q)
  nodes_named (test b z o) i s h (suc j) l q =
      either_side (nodes (i + 1) z) (nodes (i + 1 + size z) o) (Named (test b z o))
      (λ k g p. let (e, n, w) = nodes_named z (i + 1) s.1 (omega arith) k (omega (arith, length_nodes z (i + 1))) p in (e, or_il _ n, w))
      (λ k g p. let (e, n, w) = nodes_named o (i + 1 + size z) s.2 (omega arith) k (omega (arith, length_nodes o (i + 1 + size z))) p in (e, or_ir _ n, w))
      j (omega (arith, length_nodes z (i + 1), length_nodes o (i + 1 + size z))) q

  pub written_named : (t : Tree) → Sound width t → size t + 1 < 65536 → (j : ℕ) → j < size t + 1 → Named t (word (written width t) j)
  unfolding written header_word
  written_named t s h zero l q = absurd (not_nine _ 7 (omega arith) (omega arith) q)
  written_named t s h (suc j) l q = nodes_named t 1 s (omega arith) j (omega arith) q
