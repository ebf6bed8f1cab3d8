-- The list without an entry lies within the whole list; what a word selects in the two. Assumes nothing.
use Prim.Native.Nat.{ℕ, ◌+◌, ◌-◌, ◌≤◌, ◌<◌}
use native.Mathlib.Omega.{arith}
use mathlib.Core.Path.{◌≡◌, refl, sym, ap, ◌∙◌}
use mathlib.Core.Bool.{true, false}
use mathlib.Core.List.{List, ◌++◌}
use mathlib.Core.Logic.{◌↔◌}
use lib.Dec.{ltb}
use lib.ListN.{length, get_or, take, drop, length-append, length-take, length-drop, get_or-append}
use lib.Seq.{get_or-append-add, get_or-take, get_or-drop, length-take-le}
use borrow.Author.Tests.{ltb-true, ltb-false, le-ltb}
use Rattle.words.proofs.Logic.{cases, clash, is_true, not_f, not_if}
use Rattle.table.specs.Table.{Entry, entry_number}
use Rattle.choice.specs.Rule.{Choice, names, nothing, ambiguous, selects, moved_choice}
use Rattle.choice.proofs.Judging.{answers, selects_names, names_selects, same_exactly}
use Rattle.choice.proofs.Within.{Within}
use Rattle.selection.specs.Selection.{select}
use Rattle.selection.proofs.Formula.{Selects, names_exactly, nothing_exactly}
use Rattle.selection.proofs.Within.{selects_back, unclaimed_back}
use Rattle.withdrawal.specs.Withdrawn.{without, lowered, formerly, renumbered, changes}

-- ---- the numbers

-- by cases on where i stands
formerly-is {ℓ} : {G : Type ℓ} (k i : ℕ) → (i < k → formerly k i ≡ i → G) → (k ≤ i → formerly k i ≡ i + 1 → G) → G
unfolding formerly
formerly-is k i f g = cases (ltb i k) (λ t. f (ltb-true i k t) (rw t)) (λ t. g (ltb-false i k t) (rw t))

-- it was not k
pub formerly_not : (k i : ℕ) → formerly k i ≡ k → ⊥
formerly_not k i e = formerly-is k i (λ h q. omega arith) (λ h q. omega arith)

pub formerly_lowered : (k i : ℕ) → (i ≡ k → ⊥) → formerly k (lowered k i) ≡ i
unfolding formerly lowered
formerly_lowered k i d =
    cases (ltb i k)
    (λ t. rw (t, t))
    (λ t. let h = ltb-false i k t in rw (t, le-ltb (i - 1) k (omega arith)) (omega arith))

pub lowered_lt : (k i n : ℕ) → (i ≡ k → ⊥) → k < n + 1 → i < n + 1 → lowered k i < n
unfolding lowered
lowered_lt k i n d h l =
    cases (ltb i k)
    (λ t. let a = ltb-true i k t in rw t (omega arith))
    (λ t. let a = ltb-false i k t in rw t (omega arith))

-- ---- the list

module _ {A : Type 0} (l : List A) (d : A) (k : ℕ) (h : k < length l) where
  cut_low : (i : ℕ) → i < k → get_or (take k l ++ drop (k + 1) l) i d ≡ get_or l i d
  cut_low i a = get_or-append (take k l) (drop (k + 1) l) d i (omega (arith, length-take-le k l (omega arith))) ∙ get_or-take k l i d a

  cut_high : (i : ℕ) → k ≤ i → get_or (take k l ++ drop (k + 1) l) i d ≡ get_or l (i + 1) d
  cut_high i a =
      ap (λ (x : ℕ). get_or (take k l ++ drop (k + 1) l) x d) (omega (arith, length-take-le k l (omega arith)))
      ∙ get_or-append-add (take k l) (drop (k + 1) l) (i - k) d ∙ get_or-drop (k + 1) l (i - k) d
      ∙ ap (λ (x : ℕ). get_or l x d) (omega arith)

-- ---- answers

-- an answer, renumbered, in the old numbers
moved_back : (k : ℕ) (a : Choice) → (a ≡ names k → ⊥) → moved_choice (formerly k) (renumbered k a) ≡ a
moved_back k (names i) h = ap names (formerly_lowered k i (λ e. h (ap names e)))
moved_back k nothing h = refl
moved_back k ambiguous h = refl

-- no answer is, in the old numbers, entry k
never_own : (k : ℕ) (a : Choice) → selects (moved_choice (formerly k) a) k ≡ true → ⊥
unfolding selects
never_own k (names i) t = formerly_not k i (let e : names (formerly k i) ≡ names k = selects_names (names (formerly k i)) k t in cc)
never_own k nothing t = clash t refl
never_own k ambiguous t = clash t refl

-- ---- a word

-- a word keeps its answer exactly when the two, in the old numbers, are the same
pub unchanged : (es : List Entry) (k w : ℕ) → (changes es k w ≡ false) ↔ (moved_choice (formerly k) (select (without k es) w) ≡ select es w)
unfolding changes
unchanged es k w = (λ f. (same_exactly _ _).0 (not_f f), λ e. not_if ((same_exactly _ _).1 e))

module _ (es : List Entry) (k : ℕ) (h : k < length es) where
  pub length_without : length (without k es) + 1 ≡ length es
  unfolding without
  length_without = simp (length-append, length-take, length-drop) (omega arith)

  pub within : Within (without k es) es (formerly k)
  unfolding without
  within =
      record {
        inside = λ i l. let n = length_without in formerly-is k i (λ a p. omega arith) (λ a p. omega arith);
        once = λ i j l m e. formerly-is k i
            (λ a p. formerly-is k j (λ b q. omega arith) (λ b q. omega arith))
            (λ a p. formerly-is k j (λ b q. omega arith) (λ b q. omega arith));
        each = λ i l. formerly-is k i
            (λ a p. rw p (sym (cut_low es _ k h i a)))
            (λ a p. rw p (sym (cut_high es _ k h i a)));
      }

  -- each other entry is there, renumbered
  pub each_other : (i : ℕ) → i < length es → (i ≡ k → ⊥) → (lowered k i < length (without k es)) × (entry_number (without k es) (lowered k i) ≡ entry_number es i)
  each_other i l d =
      let n = length_without in
      let m : lowered k i < length (without k es) = lowered_lt k i _ d (omega arith) (omega arith) in
      (m, sym (within.each (lowered k i) m) ∙ ap (entry_number es) (formerly_lowered k i d))

  module _ (w : ℕ) (fit : select es w ≡ ambiguous → ⊥) where
    pub others_stay : (select es w ≡ names k → ⊥) → select (without k es) w ≡ renumbered k (select es w)
    others_stay other =
        answers (select es w)
        (λ i e. let d : i ≡ k → ⊥ = λ q. other (e ∙ ap names q) in
        let s : Selects es w i = (names_exactly es w i).0 e in
        let n = length_without in
        rw e ((names_exactly (without k es) w (lowered k i)).1
        (selects_back (without k es) es (formerly k) within w (lowered k i) (lowered_lt k i _ d (omega arith) (omega (arith, s.entry))) (rw (formerly_lowered k i d) s))))
        (λ e. rw e ((nothing_exactly (without k es) w).1 (unclaimed_back (without k es) es (formerly k) within w ((nothing_exactly es w).0 e))))
        (λ e. absurd (fit e))

    pub others_same : (select es w ≡ names k → ⊥) → changes es k w ≡ false
    others_same other = (unchanged es k w).1 (ap (moved_choice (formerly k)) (others_stay other) ∙ moved_back k (select es w) other)

pub own_changes : (es : List Entry) (k w : ℕ) → select es w ≡ names k → changes es k w ≡ true
own_changes es k w e = is_true (λ f. never_own k (select (without k es) w) (names_selects _ k ((unchanged es k w).0 f ∙ e)))

-- the code's test: of a word that is not ambiguous, whether it selects the entry
pub changes_selects : (es : List Entry) (k : ℕ) → k < length es → (w : ℕ) → (select es w ≡ ambiguous → ⊥) → changes es k w ≡ selects (select es w) k
changes_selects es k h w fit =
    cases (selects (select es w) k)
    (λ t. own_changes es k w (selects_names _ k t) ∙ sym t)
    (λ t. others_same es k h w fit (λ e. clash (names_selects _ k e) t) ∙ sym t)
