-- What a tree says of all words with one upper half: its written form says the same, and it says what all of them are answered. Assumes nothing.
use Prim.Native.Nat.{ℕ, zero, suc, ◌+◌, ◌-◌, ◌/◌, ◌^◌, ◌≤◌, ◌<◌}
use native.Mathlib.Omega.{arith}
use mathlib.Core.Path.{◌≡◌, refl, sym, ap, ◌∙◌}
use mathlib.Core.Bool.{true, false}
use mathlib.Core.List.{List}
use lib.Bits.{bit_or}
use lib.Dec.{ltb}
use borrow.Author.Tests.{eq-eqb, ltb-true}
use Rattle.std.specs.Prelude.{Some}
use Rattle.words.specs.Tests.{◌or◌}
use Rattle.words.specs.Words.{word, bit}
use Rattle.words.proofs.Bits.{bit_or_lem, set_own, set_other, set_more, set_upper}
use Rattle.words.proofs.Logic.{cases, clash, or_i, or_l, or_r, one_to_one}
use Rattle.table.specs.Table.{Entry}
use Rattle.choice.specs.Rule.{Choice, names, nothing, ambiguous}
use Rattle.flat.specs.declared.Node.TheVariants as node
use Rattle.flat.proofs.Reading.{Within, node_within}
use Rattle.cell.specs.Cell.{Cell, zero_side, one_side}
use Rattle.cell.specs.Step.{free}
use Rattle.cell.proofs.Cells.{free_less}
use Rattle.tree.specs.Tree.{Tree, leaf, test, size, answer}
use Rattle.tree.proofs.Sizes.{size_pos}
use Rattle.tree.proofs.Paths.{Sound}
use Rattle.checker.proofs.Accepting.{Agrees, Stands}
use Rattle.halves.specs.Common.{side_of, both_of, from_sides, common_from}
use Rattle.halves.specs.declared.Shared.{Shared}
use Rattle.halves.specs.declared.Shared.TheVariants as shared
use Rattle.halves.proofs.Walks.{upper_bit}

-- what all of them say that make one choice, and back
abbrev pub share_of : Choice → Shared
share_of (names e) = shared.Entry e
share_of nothing = shared.Nothing
share_of ambiguous = shared.Several

abbrev choice_of : Shared → Choice
choice_of (shared.Entry e) = names e
choice_of shared.Nothing = nothing
choice_of shared.Several = ambiguous

back : (a : Choice) → choice_of (share_of a) ≡ a
back (names e) = refl
back nothing = refl
back ambiguous = refl

pub same_choice_lem : (a b : Choice) → share_of a ≡ share_of b → a ≡ b
same_choice_lem = one_to_one share_of choice_of back

-- over a tree
unfoldable pub common_in : Tree → ℕ → Shared
common_in (leaf a) u = share_of a
common_in (test b l r) u = from_sides (side_of u b) (common_in l u) (common_in r u)

-- ---- the written form: each side is a part of its own, and no path is deeper than the unfixed bits

module _ (es : List Entry) (ws : List ℕ) (width n u : ℕ) where
  pub stands_common : (t : Tree) (c : Cell) (fuel m i : ℕ) → Agrees es c t → Sound width t → Stands ws width n i t → i + size t ≤ m + 1 → free width c.fixed ≤ fuel
      → common_from fuel ws width m u i ≡ common_in t u
  unfolding Agrees Sound Stands size common_from common_in Within
  stands_common (leaf (names e)) c zero m i g o s k f = rw (node_within width n m i (word ws i) (Some (node.Names e)) s tt)
  stands_common (leaf (names e)) c (suc fuel) m i g o s k f = rw (node_within width n m i (word ws i) (Some (node.Names e)) s tt)
  stands_common (leaf nothing) c zero m i g o s k f = rw (node_within width n m i (word ws i) (Some node.Nothing) s tt)
  stands_common (leaf nothing) c (suc fuel) m i g o s k f = rw (node_within width n m i (word ws i) (Some node.Nothing) s tt)
  stands_common (leaf ambiguous) c fuel m i g o s k f = absurd s
  stands_common (test b l r) c zero m i g o s k f = absurd (let z = free_less c b width o.0 g.0 in omega arith)
  stands_common (test b l r) c (suc fuel) m i g o s k f =
      let z = free_less c b width o.0 g.0 in
      let one : ℕ = i + 1 + size l in
      rw (
        node_within width n m i (word ws i) (Some (node.Asks b one)) s.0 (omega (arith, size_pos r)),
        stands_common l (zero_side c b) fuel (one - 1) (i + 1) g.1 o.1 s.1 (omega arith) (omega arith),
        stands_common r (one_side c b) fuel m one g.2 o.2 s.2 (omega arith) (omega arith),
      )

-- ---- what all of them are answered, the tree says

both_same : (z : Shared) → both_of z z ≡ z
unfolding both_of
both_same (shared.Entry e) = rw (eq-eqb e e refl)
both_same shared.Nothing = refl
both_same shared.Several = refl

module _ (u : ℕ) (es : List Entry) where
  -- v is such a word, with zeros where no bit is fixed; z is what all name that agree with it on the fixed bits
  pub each_common : (t : Tree) (c : Cell) → Agrees es c t → (v : ℕ) → v / 2 ^ 16 ≡ u → ((i : ℕ) → i < 16 → bit c.fixed i ≡ false → bit v i ≡ false) → (z : Shared)
      → ((w : ℕ) → w / 2 ^ 16 ≡ u → ((i : ℕ) → bit c.fixed i ≡ true → bit w i ≡ bit v i) → share_of (answer t w) ≡ z) → common_in t u ≡ z
  unfolding Agrees common_in answer side_of from_sides
  each_common (leaf a) c g v h low z all = all v h (λ i t. refl)
  each_common (test b l r) c g v h low z all =
      let fx : ℕ = c.fixed in
      let low' : (i : ℕ) → i < 16 → bit (bit_or fx (2 ^ b)) i ≡ false → bit v i ≡ false = λ i k f. low i k (or_l _ (sym (bit_or_lem fx (2 ^ b) i) ∙ f)) in
      let one : bit v b ≡ true → (w : ℕ) → w / 2 ^ 16 ≡ u → ((i : ℕ) → bit (bit_or fx (2 ^ b)) i ≡ true → bit w i ≡ bit v i) → share_of (answer r w) ≡ z
      = λ s w k m. rw (m b (set_own fx b) ∙ s) at (all w k (λ i f. m i (set_more fx b i f))) in
      let nil : bit v b ≡ false → (w : ℕ) → w / 2 ^ 16 ≡ u → ((i : ℕ) → bit (bit_or fx (2 ^ b)) i ≡ true → bit w i ≡ bit v i) → share_of (answer l w) ≡ z
      = λ s w k m. rw (m b (set_own fx b) ∙ s) at (all w k (λ i f. m i (set_more fx b i f))) in
      cases (ltb b 16)
      (λ t.
      let k : b < 16 = ltb-true b 16 t in
      let v' : ℕ = bit_or v (2 ^ b) in
      rw (
        t,
        each_common l (zero_side c b) g.1 v h low' z (nil (low b k g.0)),
        each_common r (one_side c b) g.2 v' (set_upper 16 v b k ∙ h)
            (λ i j f. let f' : bit fx i or bit (2 ^ b) i ≡ false = sym (bit_or_lem fx (2 ^ b) i) ∙ f in bit_or_lem v (2 ^ b) i ∙ or_i (low i j (or_l _ f')) (or_r _ f'))
            z
            (λ w j m. rw (m b (set_own fx b) ∙ set_own v b) at (all w j (λ i f. m i (set_more fx b i f) ∙ set_other v b i (λ q. clash (ap (bit fx) (sym q) ∙ f) g.0)))),
      )
      (both_same z))
      (λ t. let q = upper_bit u v h b t in
      cases (bit v b)
      (λ s. rw (t, q ∙ s) (each_common r (one_side c b) g.2 v h low' z (one s)))
      (λ s. rw (t, q ∙ s) (each_common l (zero_side c b) g.1 v h low' z (nil s))))
