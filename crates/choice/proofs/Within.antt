-- One list of entries within another: the same entry is named, by its other number, where all that pass a test are there. Assumes nothing.
--     Within, Covers     one list within another, by an index map; all entries that pass a test are in the smaller one
--     over_back     what is more specific than all others that pass, in the larger list, is so in the smaller
--     some_moved, count_in     whether some entry passes, and how many do
--     judge_moved     what is judged
use Prim.Native.Nat.{ℕ, ◌≤◌, ◌<◌}
use mathlib.Core.Path.{◌≡◌, refl, sym, ap, ◌∙◌}
use mathlib.Core.Bool.{Bool, true, false}
use mathlib.Core.List.{List}
use mathlib.Core.Option.{none}
use lib.ListN.{length}
use Rattle.words.specs.Tests.{◌and◌, exists, how_many, first}
use Rattle.words.proofs.Logic.{options, clash, is_false, same, and_l, and_r, and_i, exists_at, exists_make, first_some, first_none, first_only, first_no, how_many_into}
use Rattle.table.specs.Table.{Entry, entry_number}
use Rattle.choice.specs.Rule.{choice_of, moved_choice, more_specific, beats, judge, judge_at}
use Rattle.choice.proofs.Judging.{over, overs_beat, wins_one}

-- entry i of es is entry (to i) of us, and two entries of es are two of us
pub record Within (es us : List Entry) (to : ℕ → ℕ) : Type 0 where
  pub inside : (i : ℕ) → i < length es → to i < length us
  pub once : (i j : ℕ) → i < length es → j < length es → to i ≡ to j → i ≡ j
  pub each : (i : ℕ) → i < length es → entry_number us (to i) ≡ entry_number es i

-- each entry of us that passes q is one of es
abbrev pub Covers : List Entry → List Entry → (ℕ → ℕ) → (Entry → Bool) → Type 0
Covers es us to q = (j : ℕ) → j < length us → q (entry_number us j) ≡ true → (i : ℕ) × (i < length es) × (to i ≡ j)

-- entry i is more specific than every other entry that passes q
abbrev pub Over : List Entry → (Entry → Bool) → ℕ → Type 0
Over es q i =
    (j : ℕ) → j < length es → (j ≡ i → ⊥) → q (entry_number es j) ≡ true → more_specific (entry_number es i) (entry_number es j) ≡ true

module _ (es us : List Entry) (to : ℕ → ℕ) (in-us : Within es us to) where
  module _ (q : Entry → Bool) where
    -- an entry passes by either number
    passes : (i : ℕ) → i < length es → q (entry_number us (to i)) ≡ q (entry_number es i)
    passes i h = ap q (in-us.each i h)

    -- entry m of es is entry j of us
    passes_as : (j m : ℕ) → m < length es → to m ≡ j → q (entry_number us j) ≡ true → q (entry_number es m) ≡ true
    passes_as j m l e t = sym (passes m l) ∙ ap (λ (x : ℕ). q (entry_number us x)) e ∙ t

    pub over_back : (i : ℕ) → i < length es → Over us q (to i) → Over es q i
    over_back i h o j k d t =
        rw (in-us.each i h, in-us.each j k) at (o (to j) (in-us.inside j k) (λ e. d (in-us.once j i k h e)) (passes j k ∙ t))

    over_in : Covers es us to q → (i : ℕ) → i < length es → Over es q i → Over us q (to i)
    over_in covers i h o j k d t =
        let (m, l, e) = covers j k t in
        rw (← e, in-us.each i h, in-us.each m l) (o m l (λ f. d (sym e ∙ ap to f)) (passes_as j m l e t))

    pub some_moved : Covers es us to q → exists (λ i. q (entry_number us i)) (length us) ≡ exists (λ i. q (entry_number es i)) (length es)
    some_moved covers =
        same
        (λ t. let (j, k, p) = exists_at (λ i. q (entry_number us i)) (length us) t in
        let (m, l, e) = covers j k p in
        exists_make _ (length es) m l (passes_as j m l e p))
        (λ t. let (i, h, p) = exists_at _ (length es) t in exists_make _ (length us) (to i) (in-us.inside i h) (passes i h ∙ p))

    pub count_in : how_many (λ i. q (entry_number es i)) (length es) ≤ how_many (λ i. q (entry_number us i)) (length us)
    count_in = how_many_into _ _ to (length es) (length us) in-us.inside in-us.once (λ i h t. passes i h ∙ t)

  module _ (p q : Entry → Bool) (pq : (e : Entry) → p e ≡ true → q e ≡ true) (covers : Covers es us to q) where
    -- an entry that passes p, and is more specific than every other one that passes q
    unfoldable wins : List Entry → ℕ → Bool
    wins l i = p (entry_number l i) and beats l q i

    wins_in : (i : ℕ) → i < length es → wins es i ≡ true → wins us (to i) ≡ true
    unfolding wins
    wins_in i h t =
        let o : Over es q i = λ j k d s. over (entry_number es) _ (length es) i j (and_r _ t) k d s in
        and_i (passes p i h ∙ and_l _ t) (overs_beat (entry_number us) _ (length us) (to i) (over_in q covers i h o))

    wins_back : (i : ℕ) → i < length es → wins us (to i) ≡ true → wins es i ≡ true
    unfolding wins
    wins_back i h t =
        let o : Over us q (to i) = λ j k d s. over (entry_number us) _ (length us) (to i) j (and_r _ t) k d s in
        and_i (sym (passes p i h) ∙ and_l _ t) (overs_beat (entry_number es) _ (length es) i (over_back q i h o))

    -- none wins in us where none does in es
    none_in : first (wins es) (length es) ≡ none → (j : ℕ) → j < length us → wins us j ≡ false
    unfolding wins
    none_in e j h =
        is_false (λ t. let (m, l, k) = covers j h (pq _ (and_l _ t)) in
        clash (wins_back m l (ap (wins us) k ∙ t)) (first_none (wins es) (length es) e m l))

    pub judge_moved : judge us p q ≡ moved_choice to (judge es p q)
    unfolding judge judge_at wins
    judge_moved =
        rw (some_moved q covers)
        (options (first (wins es) (length es))
        (λ e. rw (e, first_no (wins us) (length us) (none_in e)) (unnamed (exists (λ i. q (entry_number es i)) (length es))))
        (λ i e. let (h, s) = first_some (wins es) (length es) i e in
        let t = wins_in i h s in
        rw (e, first_only (wins us) (length us) (to i) (in-us.inside i h) t (λ j k u. wins_one us p q pq (to i) j (in-us.inside i h) k t u))))
      where
        unnamed : (b : Bool) → choice_of none b ≡ moved_choice to (choice_of none b)
        unnamed true = refl
        unnamed false = refl
