-- What a word selects, from the walk of a tree that the checker accepts; what all words with one upper half select, from what `halves` finds in
-- it. Assumes nothing.
use mathlib.Core.Path.{◌≡◌, refl, sym, ap, ◌∙◌}
use mathlib.Core.Bool.{Bool, true, false}
use mathlib.Core.List.{List, []}
use mathlib.Core.Option.{Option}
use Prim.Native.Nat.{ℕ, ◌+◌, ◌*◌, ◌^◌, ◌<◌}
use native.Mathlib.Omega.{arith}
use lib.Dec.{eqb}
use lib.ListN.{get_or, length}
use Rattle.words.specs.Words.{word}
use Rattle.std.specs.Prelude.{Some, None, Result, Ok, Err, IsOk}
use Rattle.words.specs.Outcome.{result, maybe_of}
use Rattle.words.specs.declared.Refusal.{Refusal}
use Rattle.words.proofs.Outcomes.{refused_no_result}
use Rattle.words.proofs.Logic.{is_false, every_at, every_make}
use Rattle.table.specs.Table.{Entry, size_of, count_of, entry_number, table_of}
use Rattle.table.proofs.Laws.{length_entries}
use Rattle.table.specs.Ready.{Ready}
use Rattle.table.proofs.Views.{ready_at}
use Rattle.choice.specs.Rule.{Choice, names, nothing, same_choice}
use Rattle.choice.proofs.Judging.{same_exactly}
use Rattle.selection.specs.Selection.{select}
use Rattle.selection.proofs.Formula.{names_exactly, nothing_exactly}
use Rattle.flat.specs.Walk.{mask_of, Walk, walk_of}
use Rattle.tree.specs.Tree.{named}
use Rattle.tree.proofs.Demand.{Right}
use Rattle.checker.specs.Checker.{accepts}
use Rattle.checker.proofs.Accepting.{accepted, accepted_right}
use Rattle.walker.specs.Walked.{said}
use Rattle.walker.specs.declared.Walked as walker
use Rattle.halves.specs.Common.{common_of}
use Rattle.halves.specs.declared.Shared.{Shared}
use Rattle.halves.specs.declared.Shared.TheVariants as shared
use Rattle.halves.proofs.Accepted.{AllSelect, zeros_below, OfAll, accepted_halves}
use Rattle.image.specs.declared.Picked.TheVariants.{Short, Long, Nothing, Cut}
use Rattle.image.specs.Items.{picked_by, picked, all_same, last_by, last_picked}

-- ---- an entry at its place

module _ (ws places : List ℕ) (width count : ℕ) (r : Ready ws places width count) where
  -- its length is in its head word
  pub size_is : (e : ℕ) → e < count → (size : ℕ) → size ≡ size_of (word ws (get_or places e 0)) → eqb size 16 ≡ eqb (entry_number (table_of ws).entries e).size 16
  size_is e h size z =
      ap (λ (x : ℕ). eqb x 16) (z ∙ sym (ap (λ (x : Entry). x.size) (rw r.number at (ready_at ws places width count r e h (entry_number [] 0)))))

  -- a selected entry is one of them
  pub selected_below : (w e : ℕ) → select (table_of ws).entries w ≡ names e → e < count
  selected_below w e k = omega (arith, r.number, ((names_exactly (table_of ws).entries w e).0 k).entry, length_entries ws (count_of (word ws 0)) 1)

-- ---- a full word

abbrev walked_to : Option ℕ → ℕ → ℕ → Walk
walked_to e n m = record { entry = e; count = n; mask = m }

module _ (es : List Entry) (tree : List ℕ) (yes : accepts es 32 tree ≡ true) (w : ℕ) (h : w < 2 ^ 32) where
  -- the walk answers the selection, which is not ambiguous
  right : Right es 32 (accepted es 32 tree yes).number tree w
  right = accepted_right es 32 tree yes w h

  -- it is not refused
  pub walks : (r : Result walker.Walked Refusal) → said r ≡ walk_of tree w → IsOk r
  walks (Ok a) q = refl
  walks (Err e) q = absurd (refused_no_result e _ (q ∙ right.answers))

  module _ (r : Result walker.Walked Refusal) (q : said r ≡ walk_of tree w) (a : walker.Walked) (found : r ≡ Ok a) where
    named_as : maybe_of a.entry ≡ named (select es w)
    named_as =
        let s : result (walked_to (maybe_of a.entry) a.count a.mask) ≡ result (walked_to (named (select es w)) (length right.tests) (mask_of right.tests)) = sym (ap said found) ∙ q ∙ right.answers in
        let v : walked_to (maybe_of a.entry) a.count a.mask ≡ walked_to (named (select es w)) (length right.tests) (mask_of right.tests) = cc in
        ap (λ (x : Walk). x.entry) v

    pub selects_entry : (e : ℕ) → a.entry ≡ Some e → select es w ≡ names e
    selects_entry e k = (names_exactly es w e).1 ((right.selected e).0 (sym named_as ∙ ap maybe_of k))

    pub picks_short : (e : ℕ) → a.entry ≡ Some e → eqb (entry_number es e).size 16 ≡ true → Short e ≡ picked es w
    unfolding picked picked_by
    picks_short e k s = rw (selects_entry e k, s) refl

    pub picks_long : (e : ℕ) → a.entry ≡ Some e → eqb (entry_number es e).size 16 ≡ false → Long e ≡ picked es w
    unfolding picked picked_by
    picks_long e k s = rw (selects_entry e k, s) refl

    pub picks_nothing : a.entry ≡ None → Nothing ≡ picked es w
    unfolding picked picked_by
    picks_nothing k = rw ((nothing_exactly es w).1 (right.unclaimed.0 (sym named_as ∙ ap maybe_of k))) refl

-- ---- the last halfword

-- that all select the same, both ways
module _ (es : List Entry) (v : ℕ) where
  abbrev as_zeros : ℕ → Bool
  as_zeros l = same_choice (select es (2 ^ 16 * v + l)) (select es (2 ^ 16 * v))

  pub same_all : all_same es v ≡ true → AllSelect es v (select es (2 ^ 16 * v))
  unfolding all_same
  same_all t l h = (same_exactly _ _).0 (every_at as_zeros (2 ^ 16) t l h)

  pub all_same_lem : (a : Choice) → AllSelect es v a → all_same es v ≡ true
  unfolding all_same
  all_same_lem a all = every_make as_zeros (2 ^ 16) (λ l h. (same_exactly _ _).1 (all l h ∙ sym (zeros_below es v a all)))

  -- what they select decides
  pub last_all : (a : Choice) → AllSelect es v a → last_picked es v ≡ last_by es a
  unfolding last_picked
  last_all a all = rw (all_same_lem a all, zeros_below es v a all)

module _ (es : List Entry) (tree : List ℕ) (right : accepts es 32 tree ≡ true) (v : ℕ) (h : v < 2 ^ 16) (s : Shared) (q : s ≡ common_of tree v) where
  of_all : OfAll es v s
  of_all = rw q (accepted_halves es tree right v h)

  pub last_entry : (e : ℕ) → s ≡ shared.Entry e → AllSelect es v (names e)
  last_entry e k = (of_all.entry e).0 k

  pub last_short : (e : ℕ) → s ≡ shared.Entry e → eqb (entry_number es e).size 16 ≡ true → Short e ≡ last_picked es v
  unfolding last_by
  last_short e k t = sym (last_all es v (names e) (last_entry e k) ∙ rw t)

  pub last_long : (e : ℕ) → s ≡ shared.Entry e → eqb (entry_number es e).size 16 ≡ false → Cut ≡ last_picked es v
  unfolding last_by
  last_long e k t = sym (last_all es v (names e) (last_entry e k) ∙ rw t)

  pub last_nothing : s ≡ shared.Nothing → Nothing ≡ last_picked es v
  unfolding last_by
  last_nothing k = sym (last_all es v nothing (of_all.none.0 k))

  pub last_several : s ≡ shared.Several → Cut ≡ last_picked es v
  unfolding last_picked
  last_several k =
      let (l, below, differ) = of_all.several.0 k in
      rw (is_false (λ t. differ (same_all es v t l below)))

-- the entry that all select is selected
pub last_selects : (es : List Entry) (tree : List ℕ) → accepts es 32 tree ≡ true → (v : ℕ) → v < 2 ^ 16 → (s : Shared) → s ≡ common_of tree v → (e : ℕ) → s ≡ shared.Entry e
    → select es (2 ^ 16 * v) ≡ names e
last_selects es tree right v h s q e k = zeros_below es v (names e) (last_entry es tree right v h s q e k)
