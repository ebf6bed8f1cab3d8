-- The leaves of a table's tree name the entries that words of the width select. Assumes nothing.
--     Reached, Lowest     an entry that some word selects; the lowest that none does
--     leaf_exactly     a leaf names an entry exactly when some word of the width selects it
--     reached_exactly, none_exactly, lowest_exactly     what the definitions say
use Prim.Native.Nat.{ℕ, ◌^◌, ◌<◌}
use native.Mathlib.Nat.{le_refl}
use mathlib.Core.Path.{◌≡◌, refl, ◌∙◌}
use mathlib.Core.Logic.{◌↔◌}
use mathlib.Core.Bool.{true, false, not}
use mathlib.Core.List.{List}
use mathlib.Core.Option.{none, some}
use lib.Bits.{or_lt}
use lib.ListN.{length}
use lib.Pow.{pow-lt, pow_pos}
use Rattle.words.specs.Words.{bit}
use Rattle.words.proofs.Logic.{cases, clash, is_false, not_t, not_f, not_it, not_if, or_il, or_ir, or_e, exists_at, exists_make, first_some, first_none, first_no, first_found, first_least}
use Rattle.table.specs.Lawful.{good_table}
use Rattle.table.specs.Table.{Entry}
use Rattle.choice.specs.Rule.{selects}
use Rattle.choice.proofs.Judging.{selects_names, names_selects}
use Rattle.selection.specs.Selection.{select}
use Rattle.selection.proofs.Formula.{Selects, names_exactly}
use Rattle.cell.specs.Cell.{start}
use Rattle.cell.specs.Step.{free}
use Rattle.cell.proofs.Cells.{In}
use Rattle.tree.specs.Tree.{Tree, leaf, test, below, tree, answer}
use Rattle.tree.specs.Reach.{reached, lowest_unreached, names_entry}
use Rattle.tree.proofs.Theorem.{induct, leaf_right, own_zero, own_one, tree_right}

-- some word of the width selects entry e: e claims it, and is more specific than every other entry that does
abbrev pub Reached : List Entry → ℕ → ℕ → Type 0
Reached es width e = (w : ℕ) × (w < 2 ^ width) × Selects es w e

-- e is the lowest entry that no word of the width selects
pub record Lowest (es : List Entry) (width e : ℕ) : Type 0 where
  pub entry : e < length es
  pub unreached : Reached es width e → ⊥
  pub others : (j : ℕ) → j < e → Reached es width j

-- ---- the leaves

-- what a path names a leaf names
answer_named : (t : Tree) (w e : ℕ) → selects (answer t w) e ≡ true → names_entry t e ≡ true
unfolding answer names_entry
answer_named (leaf a) w e h = h
answer_named (test i l r) w e h =
    cases (bit w i) (λ t. or_ir _ (answer_named r w e (rw t at h))) (λ t. or_il _ (answer_named l w e (rw t at h)))

module _ (es : List Entry) (width : ℕ) (good : good_table width es ≡ true) (e : ℕ) where
  -- what a leaf names, its cell's own word selects
  named_selected : names_entry (tree es width) e ≡ true → (w : ℕ) × (w < 2 ^ width) × (selects (select es w) e ≡ true)
  unfolding tree below names_entry
  named_selected =
      induct es width good
      (λ c t. In c c.bits → c.bits < 2 ^ width → names_entry t e ≡ true → (w : ℕ) × (w < 2 ^ width) × (selects (select es w) e ≡ true))
      (λ c a s h lt k. (c.bits, lt, rw (leaf_right es width good c a s c.bits h) k))
      (λ c i l r s b f zs os h lt k.
      cases (names_entry l e)
      (λ t. zs (own_zero c i f h) lt t)
      (λ t. os (own_one c i f h) (or_lt width c.bits (2 ^ i) lt (pow-lt b)) (or_e k t)))
      (free width 0) start (le_refl _) refl (pow_pos width)

  pub leaf_exactly : (names_entry (tree es width) e ≡ true) ↔ Reached es width e
  leaf_exactly = (
    λ t. let (w, h, s) = named_selected t in (w, h, (names_exactly es w e).0 (selects_names _ e s)),
    λ r.
        let (w, h, s) = r in
        answer_named (tree es width) w e (names_selects _ e (tree_right es width good w ∙ (names_exactly es w e).1 s)),
  )

-- ---- the definitions

module _ (es : List Entry) (width : ℕ) where
  pub reached_exactly : (e : ℕ) → (reached es width e ≡ true) ↔ Reached es width e
  unfolding reached
  reached_exactly e = (
    λ t. let (w, h, s) = exists_at _ (2 ^ width) t in (w, h, (names_exactly es w e).0 (selects_names _ e s)),
    λ r. let (w, h, s) = r in exists_make _ (2 ^ width) w h (names_selects _ e ((names_exactly es w e).1 s)),
  )

  is_reached : (e : ℕ) → not (reached es width e) ≡ false → Reached es width e
  is_reached e h = (reached_exactly e).0 (not_f h)

  not_reached : (e : ℕ) → (Reached es width e → ⊥) → not (reached es width e) ≡ true
  not_reached e h = not_it (is_false (λ t. h ((reached_exactly e).0 t)))

  pub none_exactly : (lowest_unreached es width ≡ none) ↔ ((e : ℕ) → e < length es → Reached es width e)
  unfolding lowest_unreached
  none_exactly = (
    λ q e h. is_reached e (first_none _ (length es) q e h),
    λ f. first_no _ (length es) (λ e h. not_if ((reached_exactly e).1 (f e h))),
  )

  pub lowest_exactly : (e : ℕ) → (lowest_unreached es width ≡ some e) ↔ Lowest es width e
  unfolding lowest_unreached
  lowest_exactly e = (
    λ q. let s = first_some _ (length es) e q in
        record {
          entry = s.0;
          unreached = λ r. clash ((reached_exactly e).1 r) (not_t s.1);
          others = λ j h. is_reached j (first_least _ (length es) e q j h);
        },
    λ l. first_found _ (length es) e l.entry (not_reached e l.unreached) (λ j h. not_if ((reached_exactly j).1 (l.others j h))),
  )
