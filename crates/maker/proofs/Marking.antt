-- The marks that the leaves of a table's tree leave: an entry has none exactly when no word of the width selects it. Assumes nothing.
use mathlib.Core.Path.{◌≡◌, refl, sym, ap, ◌∙◌}
use mathlib.Core.Bool.{Bool, true, false, not, cond}
use mathlib.Core.List.{List}
use Prim.Native.Nat.{ℕ, ◌≤◌, ◌<◌}
use native.Mathlib.Nat.{le_refl, le_trans}
use native.Mathlib.Omega.{arith}
use lib.Dec.{eqb}
use lib.ListN.{length, get_or, take, replicate, length-set, length-replicate}
use lib.Seq.{get_or-set_same, get_or-set_other}
use borrow.Author.Tests.{eqb-true, eqb-false, lt-ltb, le-ltb}
use Rattle.std.specs.Prelude.{position}
use Rattle.std.proofs.lemmas.List.{get_or-replicate, get_or-take, length-take-le}
use Rattle.std.proofs.lemmas.List.Sums.{position_or_len_is}
use Rattle.words.specs.Tests.{◌or◌}
use Rattle.words.proofs.Logic.{cases, same, options, first_same, first_some, first_least, first_none}
use Rattle.table.specs.Lawful.{good_table}
use Rattle.table.specs.Table.{Entry}
use Rattle.choice.specs.Rule.{names, nothing, ambiguous, selects}
use Rattle.tree.specs.Tree.{Tree, leaf, test, tree}
use Rattle.tree.specs.Reach.{reached, lowest_unreached, names_entry}
use Rattle.tree.proofs.Reach.{leaf_exactly, reached_exactly}
use Rattle.maker.specs.Parts.{first_of, marks_of, lowest_unmarked}

length_marks : (t : Tree) (marks : List Bool) → length (marks_of t marks) ≡ length marks
unfolding marks_of
length_marks (leaf (names e)) marks = simp length-set
length_marks (leaf nothing) marks = refl
length_marks (leaf ambiguous) marks = refl
length_marks (test i l r) marks = length_marks r (marks_of l marks) ∙ length_marks l marks

or_marks : (a b x : Bool) → cond b true (cond a true x) ≡ cond (a or b) true x
unfolding ◌or◌
or_marks true true x = refl
or_marks true false x = refl
or_marks false b x = refl

-- an entry has a mark if a leaf names it, or if it had one
marks_at : (t : Tree) (marks : List Bool) (e : ℕ) → e < length marks → get_or (marks_of t marks) e false ≡ cond (names_entry t e) true (get_or marks e false)
unfolding marks_of names_entry selects
marks_at (leaf (names i)) marks e h =
    cases (eqb i e)
    (λ t. rw (t, eqb-true i e t) (get_or-set_same marks e true false h))
    (λ t. rw t (get_or-set_other marks i e true false (λ q. eqb-false i e t (sym q))))
marks_at (leaf nothing) marks e h = refl
marks_at (leaf ambiguous) marks e h = refl
marks_at (test i l r) marks e h =
    marks_at r (marks_of l marks) e (rw (length_marks l marks) h)
    ∙ ap (λ (x : Bool). cond (names_entry r e) true x) (marks_at l marks e h)
    ∙ or_marks (names_entry l e) (names_entry r e) (get_or marks e false)

module _ (es : List Entry) (width : ℕ) (good : good_table width es ≡ true) (few : length es ≤ 256) where
  -- the mark of an entry, from no marks on
  mark_of : (e : ℕ) → e < length es → get_or (marks_of (tree es width) (replicate 256 false)) e false ≡ cond (reached es width e) true false
  mark_of e h =
      let within : e < 256 = le_trans h few in
      let named : names_entry (tree es width) e ≡ reached es width e
      = same (λ t. (reached_exactly es width e).1 ((leaf_exactly es width good e).0 t)) (λ t. (leaf_exactly es width good e).1 ((reached_exactly es width e).0 t)) in
      marks_at (tree es width) (replicate 256 false) e (rw (length-replicate {A = Bool} 256 false) within)
      ∙ rw (named, get_or-replicate 256 e false false within)

  pub lowest_marked : {marks : List Bool} → marks ≡ marks_of (tree es width) (replicate 256 false) → lowest_unmarked marks (length es) ≡ lowest_unreached es width
  unfolding lowest_unreached
  lowest_marked q =
      first_same _ _ (length es)
      (λ e h. rw (q, mark_of e h) (cases (reached es width e) (λ t. rw t) (λ t. rw t)))

-- the search for the lowest entry that has no mark, among the marks
pub position_lowest : (marks : List Bool) → position not marks ≡ first_of (lowest_unmarked marks (length marks))
position_lowest marks =
    let n : ℕ = length marks in
    options (lowest_unmarked marks n)
    (λ e. let p = position_or_len_is not marks n false (omega arith) (λ k l. first_none _ n e k l) (λ l. absurd (omega arith)) in
    rw (e, p, le-ltb n n (le_refl n)))
    (λ i e. let r = first_some _ n i e in
    let p = position_or_len_is not marks i false (omega (arith, r.0)) (λ k l. first_least _ n i e k l) (λ l. r.1) in
    rw (e, p, lt-ltb i n r.0))

-- of the first n marks alone
pub lowest_taken : (marks : List Bool) (n : ℕ) → n ≤ length marks → lowest_unmarked (take n marks) (length (take n marks)) ≡ lowest_unmarked marks n
lowest_taken marks n h = rw (length-take-le n marks h) (first_same _ _ n (λ e l. ap not (get_or-take n marks e false l)))
