-- Lookup's answer on a table that reads, by what selection says. Assumes nothing.
use mathlib.Core.Path.{◌≡◌, refl, sym, ap, ◌∙◌}
use mathlib.Core.Logic.{◌↔◌}
use mathlib.Core.List.{List}
use mathlib.Core.Option.{none, some}
use Prim.Native.Nat.{ℕ, ◌^◌, ◌≤◌, ◌<◌}
use native.Mathlib.Omega.{arith}
use lib.Dec.{ltb}
use borrow.Author.Tests.{lt-ltb, le-ltb, ltb-false}
use Rattle.words.specs.Outcome.{result, faulty, refused}
use Rattle.words.proofs.Logic.{cases}
use Rattle.words.proofs.Outcomes.{not_refused, not_faulty, refused_not_faulty, other_number}
use Rattle.table.specs.Table.{Table, table_of}
use Rattle.table.specs.Check.{fine, table_check, read_table}
use Rattle.choice.specs.Rule.{Choice, names, nothing, ambiguous}
use Rattle.selection.specs.Selection.{select}
use Rattle.selection.specs.Lookup.{looked_up, look_of}
use Rattle.selection.proofs.Formula.{Selects, Contested, Unclaimed, names_exactly, nothing_exactly, ambiguous_exactly}

-- what is looked up tells the choice
chose_entry : (w e : ℕ) (c : Choice) → looked_up w c ≡ result (some e) → c ≡ names e
chose_entry w e (names i) h = let q : i ≡ e = cc in ap names q
chose_entry w e nothing h = absurd (let z : ◌≡◌ {A = ℕ} 0 1 = cc in omega arith)
chose_entry w e ambiguous h = absurd (let z : ◌≡◌ {A = ℕ} 0 1 = cc in omega arith)

chose_nothing : (w : ℕ) (c : Choice) → looked_up w c ≡ result none → c ≡ nothing
chose_nothing w (names i) h = absurd (let z : ◌≡◌ {A = ℕ} 0 1 = cc in omega arith)
chose_nothing w nothing h = refl
chose_nothing w ambiguous h = absurd (let z : ◌≡◌ {A = ℕ} 0 1 = cc in omega arith)

chose_ambiguous : (w : ℕ) (c : Choice) → looked_up w c ≡ refused 6 0 w → c ≡ ambiguous
chose_ambiguous w (names i) h = absurd (let z : ◌≡◌ {A = ℕ} 0 1 = cc in omega arith)
chose_ambiguous w nothing h = absurd (let z : ◌≡◌ {A = ℕ} 0 1 = cc in omega arith)
chose_ambiguous w ambiguous h = refl

not_wide : (w : ℕ) (c : Choice) → looked_up w c ≡ refused 7 0 0 → ⊥
not_wide w (names i) h = not_refused h
not_wide w nothing h = not_refused h
not_wide w ambiguous h = other_number h (λ z. omega arith)

looked_own : (w : ℕ) (c : Choice) (n p : ℕ) → looked_up w c ≡ faulty n p → ⊥
looked_own w (names i) n p h = not_faulty h
looked_own w nothing n p h = not_faulty h
looked_own w ambiguous n p h = refused_not_faulty h

pub look_own : (w : ℕ) (t : Table) (n p : ℕ) → look_of (result t) w ≡ faulty n p → ⊥
unfolding look_of
look_own w t n p e = cases (ltb w (2 ^ t.width)) (λ h. looked_own w (select t.entries w) n p (rw h at e)) (λ h. refused_not_faulty (rw h at e))

pub looks_wide : (ws : List ℕ) → table_check ws ≡ fine → (w : ℕ) → (look_of (read_table ws) w ≡ refused 7 0 0) ↔ (2 ^ (table_of ws).width ≤ w)
unfolding look_of
looks_wide ws reads w = (
  λ h. cases (ltb w (2 ^ (table_of ws).width)) (λ t. absurd (not_wide w (select (table_of ws).entries w) (rw (reads, t) at h))) (λ t. ltb-false _ _ t),
  λ h. rw (reads, le-ltb w _ h),
)

module _ (ws : List ℕ) (reads : table_check ws ≡ fine) (w : ℕ) (of_width : w < 2 ^ (table_of ws).width) where
  looks : look_of (read_table ws) w ≡ looked_up w (select (table_of ws).entries w)
  unfolding look_of
  looks = rw (reads, lt-ltb w _ of_width)

  pub looks_entry : (e : ℕ) → (look_of (read_table ws) w ≡ result (some e)) ↔ Selects (table_of ws).entries w e
  looks_entry e =
      let x = names_exactly (table_of ws).entries w e in
      (λ h. x.0 (chose_entry w e _ (sym looks ∙ h)), λ s. looks ∙ ap (looked_up w) (x.1 s))

  pub looks_nothing : (look_of (read_table ws) w ≡ result none) ↔ Unclaimed (table_of ws).entries w
  looks_nothing =
      let x = nothing_exactly (table_of ws).entries w in
      (λ h. x.0 (chose_nothing w _ (sym looks ∙ h)), λ s. looks ∙ ap (looked_up w) (x.1 s))

  pub looks_ambiguous : (look_of (read_table ws) w ≡ refused 6 0 w) ↔ Contested (table_of ws).entries w
  looks_ambiguous =
      let x = ambiguous_exactly (table_of ws).entries w in
      (λ h. x.0 (chose_ambiguous w _ (sym looks ∙ h)), λ s. looks ∙ ap (looked_up w) (x.1 s))
