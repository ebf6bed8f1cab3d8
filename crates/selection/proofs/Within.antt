-- One list of entries within another: what is selected in the one, and in the other. Assumes nothing.
--     selects_back, unclaimed_back     what is selected in the larger list is selected in the smaller
--     select_moved     where all entries that claim the word are in the smaller one, the answers are the same, by the other numbers
use Prim.Native.Nat.{ℕ, ◌<◌}
use mathlib.Core.Path.{◌≡◌, sym, ap, ◌∙◌}
use mathlib.Core.List.{List}
use lib.ListN.{length}
use Rattle.table.specs.Table.{Entry}
use Rattle.choice.specs.Rule.{moved_choice}
use Rattle.choice.proofs.Within.{Within, Covers, over_back, judge_moved}
use Rattle.selection.specs.Selection.{claims, select}
use Rattle.selection.proofs.Formula.{Selects, Unclaimed}

module _ (es us : List Entry) (to : ℕ → ℕ) (in-us : Within es us to) (w : ℕ) where
  pub selects_back : (i : ℕ) → i < length es → Selects us w (to i) → Selects es w i
  selects_back i h s =
      record { entry = h; here = ap (claims w) (sym (in-us.each i h)) ∙ s.here; over = over_back es us to in-us (claims w) i h s.over }

  pub unclaimed_back : Unclaimed us w → Unclaimed es w
  unclaimed_back u j h = ap (claims w) (sym (in-us.each j h)) ∙ u (to j) (in-us.inside j h)

  pub select_moved : Covers es us to (claims w) → select us w ≡ moved_choice to (select es w)
  unfolding select
  select_moved covers = judge_moved es us to in-us (claims w) (claims w) (λ e t. t) covers
