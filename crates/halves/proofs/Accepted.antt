-- What all words with one upper half select, from the words of a tree that the checker accepts. Assumes nothing.
use Prim.Native.Nat.{ℕ, ◌+◌, ◌*◌, ◌%◌, ◌^◌, ◌<◌}
use native.Mathlib.Omega.{arith}
use mathlib.Core.Path.{◌≡◌, refl, sym, ap, ◌∙◌}
use mathlib.Core.Logic.{◌↔◌}
use mathlib.Core.Bool.{Bool, true, not}
use mathlib.Core.List.{List}
use mathlib.Core.Option.{Option, none, some}
use lib.Bits.{and_zero_r}
use lib.ListN.{length}
use borrow.Author.Tests.{lt-ltb}
use Rattle.words.specs.Tests.{exists}
use Rattle.words.specs.Words.{bit}
use Rattle.words.specs.Outcome.{result}
use Rattle.words.proofs.Bits.{low_zero}
use Rattle.words.proofs.Logic.{cases, clash, not_t, not_f, exists_at, exists_none, how_many_le}
use Rattle.table.specs.Table.{Entry}
use Rattle.choice.specs.Rule.{Choice, names, nothing, ambiguous, same_choice}
use Rattle.choice.proofs.Judging.{same_exactly}
use Rattle.selection.specs.Selection.{select}
use Rattle.selection.proofs.Formula.{names_exactly, nothing_exactly}
use Rattle.flat.specs.Walk.{mask_of, Walk}
use Rattle.cell.specs.Cell.{start}
use Rattle.cell.specs.Step.{free}
use Rattle.tree.specs.Tree.{Tree, answer, named}
use Rattle.tree.proofs.Demand.{Right}
use Rattle.checker.specs.Checker.{accepts}
use Rattle.checker.proofs.Accepting.{agrees_right, not_conflict, nothing_clear, accepted, accepted_right}
use Rattle.halves.specs.Common.{common_by, common_of}
use Rattle.halves.specs.declared.Shared.{Shared}
use Rattle.halves.specs.declared.Shared.TheVariants as shared
use Rattle.halves.proofs.Walks.{told, walks_common}
use Rattle.halves.proofs.Halves.{share_of, same_choice_lem, common_in, stands_common, each_common}

-- all words with the upper half u select this: "all 65,536 lower halves"
abbrev pub AllSelect : List Entry → ℕ → Choice → Type 0
AllSelect es u a = (l : ℕ) → l < 2 ^ 16 → select es (2 ^ 16 * u + l) ≡ a

-- zeros are one of the lower halves
pub zeros_below : (es : List Entry) (u : ℕ) (a : Choice) → AllSelect es u a → select es (2 ^ 16 * u) ≡ a
zeros_below es u a all = let z : 2 ^ 16 * u ≡ 2 ^ 16 * u + 0 = omega arith in ap (select es) z ∙ all 0 (omega arith)

-- what s says of the upper half u is what the entries say: that all select the same entry, or nothing, or that two of them differ
pub record OfAll (es : List Entry) (u : ℕ) (s : Shared) : Type 0 where
  pub entry : (e : ℕ) → (s ≡ shared.Entry e) ↔ AllSelect es u (names e)
  pub none : (s ≡ shared.Nothing) ↔ AllSelect es u nothing
  pub several : (s ≡ shared.Several) ↔ ((l : ℕ) × (l < 2 ^ 16) × (select es (2 ^ 16 * u + l) ≡ select es (2 ^ 16 * u) → ⊥))

-- by cases on what is said
shares {ℓ} : {G : Type ℓ} (s : Shared) → ((a : Choice) → (a ≡ ambiguous → ⊥) → s ≡ share_of a → G) → (s ≡ shared.Several → G) → G
shares (shared.Entry e) f g = f (names e) (not_conflict e) refl
shares shared.Nothing f g = f nothing nothing_clear refl
shares shared.Several f g = g refl

-- ---- an accepted tree of a width that every word with the upper half u has

module _ (es : List Entry) (width : ℕ) (ws : List ℕ) (yes : accepts es width ws ≡ true) (u : ℕ) (fits : 2 ^ 16 * u + 65535 < 2 ^ width) where
  abbrev whole : Tree
  whole = (accepted es width ws yes).whole.held

  answer_is : (w : ℕ) → answer whole w ≡ select es w
  answer_is w = agrees_right es whole start (accepted es width ws yes).whole.right w (and_zero_r w)

  common_tree : common_of ws u ≡ common_in whole u
  unfolding common_of common_by free
  common_tree =
      let a = accepted es width ws yes in
      let h = a.whole in
      rw (a.header, lt-ltb (2 ^ 16 * u + 65535) (2 ^ width) fits)
      (stands_common es ws width a.number u h.held start width a.number 1 h.right h.sound h.stands (omega (arith, h.ends)) (how_many_le (λ i. not (bit 0 i)) width))

  -- what is said, every walk answers, and so every word selects
  module _ (l : ℕ) (h : l < 2 ^ 16) where
    right : Right es width (accepted es width ws yes).number ws (2 ^ 16 * u + l)
    right = accepted_right es width ws yes (2 ^ 16 * u + l) (omega arith)

    walks_to : (o : Option ℕ) → common_of ws u ≡ told o → named (select es (2 ^ 16 * u + l)) ≡ o
    walks_to o e =
        let (a, walks, names-it) = walks_common ws u (2 ^ 16 * u + l) o e (omega arith) in
        let q : result (record { entry = named (select es (2 ^ 16 * u + l)); count = length right.tests; mask = mask_of right.tests }) ≡ result a = sym right.answers ∙ walks in
        let same : record { entry = named (select es (2 ^ 16 * u + l)); count = length right.tests; mask = mask_of right.tests } ≡ a = cc in
        ap (λ (x : Walk). x.entry) same ∙ names-it

  common_selects : (a : Choice) → (a ≡ ambiguous → ⊥) → common_of ws u ≡ share_of a → AllSelect es u a
  common_selects (names e) n q l h = (names_exactly es _ e).1 (((right l h).selected e).0 (walks_to l h (some e) q))
  common_selects nothing n q l h = (nothing_exactly es _).1 ((right l h).unclaimed.0 (walks_to l h none q))
  common_selects ambiguous n q l h = absurd (n refl)

  selects_common : (a : Choice) → AllSelect es u a → common_of ws u ≡ share_of a
  selects_common a all =
      common_tree
      ∙ each_common u es whole start (accepted es width ws yes).whole.right (2 ^ 16 * u) (omega arith) (λ i k f. low_zero 16 u i k) (share_of a)
      (λ w h m. let q : w ≡ 2 ^ 16 * u + w % 2 ^ 16 = omega arith in ap share_of (answer_is w ∙ ap (select es) q ∙ all (w % 2 ^ 16) (omega arith)))

  abbrev differs : ℕ → Bool
  differs l = not (same_choice (select es (2 ^ 16 * u + l)) (select es (2 ^ 16 * u)))

  -- where not all are the same, two of them differ
  some_differ : common_of ws u ≡ shared.Several → (l : ℕ) × (l < 2 ^ 16) × (select es (2 ^ 16 * u + l) ≡ select es (2 ^ 16 * u) → ⊥)
  some_differ q =
      cases (exists differs (2 ^ 16))
      (λ t. let r = exists_at differs (2 ^ 16) t in (r.0, r.1, λ z. clash ((same_exactly _ _).1 z) (not_t r.2)))
      (λ t.
      let s = selects_common (select es (2 ^ 16 * u)) (λ l h. (same_exactly _ _).0 (not_f (exists_none differs (2 ^ 16) t l h))) in
      let z : 2 ^ 16 * u + 0 ≡ 2 ^ 16 * u = omega arith in
      absurd ((right 0 (omega arith)).clear (ap (select es) z ∙ same_choice_lem _ ambiguous (sym s ∙ q))))

  pub accepted_common : OfAll es u (common_of ws u)
  accepted_common =
      record {
        entry = λ e. (common_selects (names e) (not_conflict e), selects_common (names e));
        none = (common_selects nothing nothing_clear, selects_common nothing);
        several = (
          some_differ,
          λ p. shares (common_of ws u)
              (λ a n q. let all = common_selects a n q in absurd (p.2 (all p.0 p.1 ∙ sym (zeros_below es u a all))))
              (λ q. q),
        );
      }

-- the width of an image's table
pub accepted_halves : (es : List Entry) (ws : List ℕ) → accepts es 32 ws ≡ true → (u : ℕ) → u < 2 ^ 16 → OfAll es u (common_of ws u)
accepted_halves es ws a u h = accepted_common es 32 ws a u (omega arith)
