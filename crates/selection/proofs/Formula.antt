-- What selection says, as a formula: an entry is selected exactly when it claims the word and is more specific than every other entry that
-- claims it; nothing exactly when no entry claims; ambiguous exactly when some entry claims and none is selected. Assumes nothing.
use mathlib.Core.Path.{◌≡◌, sym}
use mathlib.Core.Logic.{◌↔◌}
use mathlib.Core.List.{List}
use mathlib.Core.Bool.{Bool, true, false}
use Prim.Native.Nat.{ℕ, ◌<◌}
use lib.Dec.{eqb}
use lib.ListN.{length}
use borrow.Author.Tests.{eqb-true, eqb-false}
use Rattle.words.specs.Tests.{◌and◌, exists, first}
use Rattle.words.proofs.Logic.{cases, clash, is_false, and_l, and_r, and_i, exists_at, exists_make, exists_none, exists_no, first_some, first_none, first_only, first_no}
use Rattle.table.specs.Table.{Entry, entry_number}
use Rattle.choice.specs.Rule.{names, nothing, ambiguous, more_specific, beats, judge, judge_at}
use Rattle.selection.specs.Selection.{claims, select}
use Rattle.choice.proofs.Judging.{not_mutual, choice_names, choice_nothing, choice_ambiguous, over, overs_beat}

-- entry i claims the word, and is more specific than every other entry that claims it
pub record Selects (es : List Entry) (w i : ℕ) : Type 0 where
  pub entry : i < length es
  pub here : claims w (entry_number es i) ≡ true
  pub over : (j : ℕ) → j < length es → (j ≡ i → ⊥) → claims w (entry_number es j) ≡ true → more_specific (entry_number es i) (entry_number es j) ≡ true

-- some entry claims the word; no entry does
abbrev pub Claimed : List Entry → ℕ → Type 0
Claimed es w = (j : ℕ) × (j < length es) × (claims w (entry_number es j) ≡ true)

abbrev pub Unclaimed : List Entry → ℕ → Type 0
Unclaimed es w = (j : ℕ) → j < length es → claims w (entry_number es j) ≡ false

-- the word is ambiguous: some entry claims it, and none that is more specific than all the others that claim it
abbrev pub Contested : List Entry → ℕ → Type 0
Contested es w = Claimed es w × ((i : ℕ) → Selects es w i → ⊥)

module _ (es : List Entry) (w : ℕ) where
  abbrev wins : ℕ → Bool
  wins i = claims w (entry_number es i) and beats es (claims w) i

  abbrev claimed : ℕ → Bool
  claimed i = claims w (entry_number es i)

  -- the test and the formula
  wins_selects : (i : ℕ) → i < length es → wins i ≡ true → Selects es w i
  wins_selects i h t =
      record { entry = h; here = and_l _ t; over = λ j k d c. over (entry_number es) claimed (length es) i j (and_r _ t) k d c }

  selects_wins : (i : ℕ) → Selects es w i → wins i ≡ true
  selects_wins i s = and_i s.here (overs_beat (entry_number es) claimed (length es) i s.over)

  -- at most one entry is selected
  pub selects_one : (i j : ℕ) → Selects es w i → Selects es w j → j ≡ i
  selects_one i j s t =
      cases (eqb j i)
      (λ a. eqb-true _ _ a)
      (λ a. let d = eqb-false j i a in absurd (not_mutual _ _ (s.over j t.entry d t.here) (t.over i s.entry (λ e. d (sym e)) s.here)))

  -- ---- the three answers
  pub names_exactly : (i : ℕ) → (select es w ≡ names i) ↔ Selects es w i
  unfolding select judge judge_at
  names_exactly i = (
    λ e. let f = first_some wins (length es) i (choice_names (first wins (length es)) (exists claimed (length es)) i e) in wins_selects i f.0 f.1,
    λ s. rw (first_only wins (length es) i s.entry (selects_wins i s) (λ j h t. selects_one i j s (wins_selects j h t))),
  )

  pub nothing_exactly : (select es w ≡ nothing) ↔ Unclaimed es w
  unfolding select judge judge_at
  nothing_exactly = (
    λ e. exists_none claimed (length es) (choice_nothing (first wins (length es)) _ e),
    λ u. rw (first_no wins (length es) (λ j h. is_false (λ t. clash (and_l _ t) (u j h))), exists_no claimed (length es) u),
  )

  pub ambiguous_exactly : (select es w ≡ ambiguous) ↔ Contested es w
  unfolding select judge judge_at
  ambiguous_exactly = (
    λ e. let p = choice_ambiguous (first wins (length es)) (exists claimed (length es)) e in (
      exists_at claimed (length es) p.1,
      λ i s. clash (selects_wins i s) (first_none wins (length es) p.0 i s.entry),
    ),
    λ p. rw (
      first_no wins (length es) (λ j h. is_false (λ t. p.1 j (wins_selects j h t))),
      exists_make claimed (length es) p.0.0 p.0.1 p.0.2,
    ),
  )
