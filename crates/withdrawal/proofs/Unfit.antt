-- The first unfit word of a list, and what is said of a list. Assumes nothing.
use Prim.Native.Nat.{ℕ, ◌^◌, ◌≤◌, ◌<◌}
use mathlib.Core.Path.{◌≡◌, sym, ap, ◌∙◌}
use mathlib.Core.Bool.{true, false}
use mathlib.Core.Logic.{◌↔◌}
use mathlib.Core.List.{List}
use mathlib.Core.Option.{some}
use lib.Dec.{ltb}
use lib.ListN.{length}
use borrow.Author.Tests.{lt-ltb, ltb-true, ltb-false}
use Rattle.words.specs.Tests.{how_many, first}
use Rattle.words.specs.Words.{word}
use Rattle.words.specs.Outcome.{result, faulty, refused}
use Rattle.words.proofs.Logic.{cases, clash, is_true, is_false, or_l, or_i, or_e, not_f, not_if, options, first_some, first_none, first_least, first_no, first_found, how_many_same}
use Rattle.words.proofs.Outcomes.{not_refused, not_faulty, refused_not_faulty, other_number}
use Rattle.table.specs.Table.{Table}
use Rattle.choice.specs.Rule.{ambiguous, selects, same_choice}
use Rattle.choice.proofs.Judging.{same_exactly}
use Rattle.selection.specs.Selection.{select}
use Rattle.selection.proofs.Formula.{Contested, ambiguous_exactly}
use Rattle.withdrawal.specs.Counted.{unfit, unfit_at, refused_for, counted_in}
use Rattle.withdrawal.proofs.Counting.{fit_clear, fit_changes}

-- a word that is fit: it is of the width, and was not ambiguous
abbrev pub Fit : Table → ℕ → Type 0
Fit t w = (w < 2 ^ t.width) × (Contested t.entries w → ⊥)

fit_exactly : (t : Table) (w : ℕ) → (unfit t w ≡ false) ↔ Fit t w
unfolding unfit same_choice
fit_exactly t w = (
  λ f. (ltb-true _ _ (not_f (or_l _ f)), λ c. fit_clear t w f ((ambiguous_exactly t.entries w).1 c)),
  λ f. or_i (not_if (lt-ltb _ _ f.0))
      (is_false (λ a. f.1 ((ambiguous_exactly t.entries w).0 (sym ((same_exactly ambiguous (select t.entries w)).0 a))))),
)

contested : (t : Table) (w : ℕ) → unfit t w ≡ true → w < 2 ^ t.width → Contested t.entries w
unfolding unfit same_choice
contested t w u l = (ambiguous_exactly t.entries w).0 (sym ((same_exactly ambiguous (select t.entries w)).0 (or_e u (not_if (lt-ltb _ _ l)))))

-- the "first unfit word of the list"
pub record FirstUnfit (t : Table) (list : List ℕ) (i : ℕ) : Type 0 where
  pub inside : i < length list
  pub before : (j : ℕ) → j < i → Fit t (word list j)
  pub here : Fit t (word list i) → ⊥

module _ (t : Table) (list : List ℕ) where
  first_exactly : (i : ℕ) → (first (unfit_at t list) (length list) ≡ some i) ↔ FirstUnfit t list i
  unfolding unfit_at
  first_exactly i = (
    λ e. let s = first_some (unfit_at t list) (length list) i e in
        record {
          inside = s.0;
          before = λ j l. (fit_exactly t (word list j)).0 (first_least (unfit_at t list) (length list) i e j l);
          here = λ f. clash s.1 ((fit_exactly t (word list i)).1 f);
        },
    λ f. first_found (unfit_at t list) (length list) i f.inside (is_true (λ e. f.here ((fit_exactly t (word list i)).0 e))) (λ j l. (fit_exactly t (word list j)).1 (f.before j l)),
  )

module _ (t : Table) (k : ℕ) (h : k < length t.entries) (list : List ℕ) where
  pub all_fit : ((i : ℕ) → i < length list → Fit t (word list i)) → counted_in t k list ≡ result (how_many (λ i. selects (select t.entries (word list i)) k) (length list))
  unfolding counted_in unfit_at
  all_fit f =
      let g : (i : ℕ) → i < length list → unfit_at t list i ≡ false = λ i l. (fit_exactly t (word list i)).1 (f i l) in
      rw (first_no (unfit_at t list) (length list) g) (ap result (how_many_same _ _ (length list) (λ i l. fit_changes t k h (word list i) (g i l))))

  pub at_first : (i : ℕ) → FirstUnfit t list i → counted_in t k list ≡ refused_for t (word list i)
  unfolding counted_in
  at_first i u = rw ((first_exactly t list i).1 u)

  -- what is said of a list: the count, or 6 or 7 for its first unfit word
  pub three {ℓ} : {G : Type ℓ} → (((i : ℕ) → i < length list → Fit t (word list i)) → G)
      → ((i : ℕ) → FirstUnfit t list i → (word list i < 2 ^ t.width) × Contested t.entries (word list i) → counted_in t k list ≡ refused 6 0 (word list i) → G)
      → ((i : ℕ) → FirstUnfit t list i → 2 ^ t.width ≤ word list i → counted_in t k list ≡ refused 7 0 0 → G) → G
  unfolding unfit_at
  three f six seven =
      options (first (unfit_at t list) (length list))
      (λ e. f (λ i l. (fit_exactly t (word list i)).0 (first_none (unfit_at t list) (length list) e i l)))
      (λ i e. let u = (first_exactly t list i).0 e in
      cases (ltb (word list i) (2 ^ t.width))
      (λ l. six i u (ltb-true _ _ l, contested t (word list i) (first_some (unfit_at t list) (length list) i e).1 (ltb-true _ _ l)) (at_first i u ∙ rw l))
      (λ l. seven i u (ltb-false _ _ l) (at_first i u ∙ rw l)))

  -- so it is no fault, and has no other number
  pub no_fault : (n p : ℕ) → counted_in t k list ≡ faulty n p → ⊥
  no_fault n p q =
      three (λ f. not_faulty (sym (all_fit f) ∙ q)) (λ i u l e. refused_not_faulty (sym e ∙ q)) (λ i u l e. refused_not_faulty (sym e ∙ q))

  pub six_or_seven : (n p w : ℕ) → counted_in t k list ≡ refused n p w → (6 ≡ n → ⊥) → (7 ≡ n → ⊥) → ⊥
  six_or_seven n p w q d e =
      three (λ f. not_refused (sym (all_fit f) ∙ q)) (λ i u l x. other_number (sym x ∙ q) d) (λ i u l x. other_number (sym x ∙ q) e)
