-- Document 02, No. 13, sentence by sentence, over the definitions that the calls' contracts cite. Assumes nothing.
--   `withdrawal::count_changed` answers `changed_of (read_table ws) k list`; lookup answers `look_of (read_table ws) w`.
--     lacks_one, lacking_words     what the table is that lacks a single entry; every table that reads has words for it
--     same_entry, same_nothing     what a withdrawal leaves as it was
--     ambiguous_changes, renumbering_not     what counts as a change
--     changes_exactly, bound     which words change
--     counts_exactly     the count
--     faulty_first, no_such_entry, seven_exactly, six_exactly     what is refused
use Prim.Native.Nat.{ℕ, ◌+◌, ◌^◌, ◌≤◌, ◌<◌}
use native.Mathlib.Omega.{arith}
use mathlib.Core.Path.{◌≡◌, refl, sym, ap, ◌∙◌}
use mathlib.Core.Bool.{true, false}
use mathlib.Core.Logic.{◌↔◌}
use mathlib.Core.List.{List}
use mathlib.Core.Option.{Option, none, some}
use lib.Dec.{ltb}
use lib.ListN.{length}
use borrow.Author.Tests.{lt-ltb, le-ltb, ltb-true, ltb-false, ne_eqb}
use Rattle.words.specs.Tests.{how_many}
use Rattle.words.specs.Words.{word}
use Rattle.words.specs.Outcome.{Outcome, result, faulty, refused}
use Rattle.words.proofs.Logic.{cases, clash, is_true, or_l, not_f}
use Rattle.words.proofs.Outcomes.{not_refused, refused_not_faulty, other_number, faults_passed}
use Rattle.table.specs.Table.{Entry, Table, entry_number, kind_of}
use Rattle.table.specs.Check.{read_table}
use Rattle.choice.specs.Rule.{names, ambiguous, selects, moved_choice}
use Rattle.choice.proofs.Judging.{selects_names, names_selects}
use Rattle.layout.specs.Layout.{table_words}
use Rattle.layout.specs.Readable.{Small, Means}
use Rattle.layout.proofs.Drawing.{drawn_words}
use Rattle.selection.specs.Selection.{select}
use Rattle.selection.specs.Lookup.{looked_up, look_of}
use Rattle.selection.proofs.Formula.{Contested, ambiguous_exactly}
use Rattle.withdrawal.specs.Withdrawn.{without, lowered, formerly, renumbered, changes}
use Rattle.withdrawal.specs.Counted.{unfit, counted_in, changed_of}
use Rattle.withdrawal.proofs.Withdrawing.{formerly_lowered, length_without, within, each_other, others_stay, unchanged, changes_selects}
use Rattle.withdrawal.proofs.Counting.{Tells, tells, fit_clear}
use Rattle.withdrawal.proofs.Unfit.{Fit, FirstUnfit, all_fit, at_first, three, no_fault, six_or_seven}

-- ---- the table that lacks an entry

-- "the one that lacks a single entry": it is one shorter, and each other entry is there, renumbered
pub lacks_one : (es : List Entry) (k : ℕ) → k < length es → (length (without k es) + 1 ≡ length es)
    × ((i : ℕ) → i < length es → (i ≡ k → ⊥) → (lowered k i < length (without k es)) × (entry_number (without k es) (lowered k i) ≡ entry_number es i))
lacks_one es k h = (length_without es k h, each_other es k h)

-- a table that reads has words of 32 bits, of its kind, that read as the table that lacks entry k
pub lacking_words : (ws : List ℕ) (t : Table) → read_table ws ≡ result t → Small ws → (k : ℕ) → k < length t.entries
    → Means (kind_of (word ws 0)) t.width (without k t.entries) (table_words (kind_of (word ws 0)) t.width (without k t.entries))
lacking_words ws t reads s k h = drawn_words ws t reads s (without k t.entries) (formerly k) (within t.entries k h)

-- "Compare an unambiguous table with the one that lacks a single entry": two tables that read, and what lookup answers
module _ (ws vs : List ℕ) (t u : Table) (reads : read_table ws ≡ result t) (lacking : read_table vs ≡ result u) (k : ℕ) (h : k < length t.entries)
    (wide : u.width ≡ t.width) (lacks : u.entries ≡ without k t.entries) (w : ℕ) where
  looked_up_lem : (a : Option ℕ) → look_of (read_table ws) w ≡ result a → Tells t w (result a)
  unfolding look_of
  looked_up_lem a e = tells t w (result a) (sym (rw reads at e))

  stays : unfit t w ≡ false → selects (select t.entries w) k ≡ false → look_of (read_table vs) w ≡ looked_up w (renumbered k (select t.entries w))
  unfolding look_of unfit
  stays f other =
      let l : ltb w (2 ^ t.width) ≡ true = not_f (or_l _ f) in
      rw (lacking, wide, lacks, l, others_stay t.entries k h w (fit_clear t w f) (λ e. clash (names_selects _ k e) other))

  -- "every word that did not select this entry selects the same entry as before, renumbered,"
  pub same_entry : (i : ℕ) → (i ≡ k → ⊥) → look_of (read_table ws) w ≡ result (some i) → look_of (read_table vs) w ≡ result (some (lowered k i))
  unfolding selects
  same_entry i d e = let a = looked_up_lem (some i) e in rw a.1 at (stays a.0 (rw a.1 (ne_eqb i k d)))

  -- "or nothing as before"
  pub same_nothing : look_of (read_table ws) w ≡ result none → look_of (read_table vs) w ≡ result none
  unfolding selects
  same_nothing e = let a = looked_up_lem none e in rw a.1 at (stays a.0 (rw a.1))

-- ---- a word that changes its answer

module _ (es : List Entry) (k w : ℕ) where
  -- "turning ambiguous included"
  pub ambiguous_changes : (select es w ≡ ambiguous → ⊥) → select (without k es) w ≡ ambiguous → changes es k w ≡ true
  ambiguous_changes fit e = is_true (λ f. fit (sym ((unchanged es k w).0 f) ∙ ap (moved_choice (formerly k)) e))

  -- "renumbering not"
  pub renumbering_not : (i : ℕ) → (i ≡ k → ⊥) → select es w ≡ names i → select (without k es) w ≡ names (lowered k i) → changes es k w ≡ false
  renumbering_not i d e q = (unchanged es k w).1 (rw (q, e) (ap names (formerly_lowered k i d)))

-- a word that was not ambiguous changes its answer exactly when it selected the entry
pub changes_exactly : (es : List Entry) (k : ℕ) → k < length es → (w : ℕ) → (select es w ≡ ambiguous → ⊥) → (changes es k w ≡ true) ↔ (select es w ≡ names k)
changes_exactly es k h w fit = (
  λ t. selects_names _ k (sym (changes_selects es k h w fit) ∙ t),
  λ e. changes_selects es k h w fit ∙ names_selects _ k e,
)

-- so no other word of the width of an unambiguous table changes its answer
pub bound : (t : Table) (k : ℕ) → k < length t.entries → ((w : ℕ) → w < 2 ^ t.width → Contested t.entries w → ⊥)
    → (w : ℕ) → w < 2 ^ t.width → (changes t.entries k w ≡ true) ↔ (select t.entries w ≡ names k)
bound t k h clear w l = changes_exactly t.entries k h w (λ e. clear w l ((ambiguous_exactly t.entries w).0 e))

-- ---- the call

-- a table that reads
module _ (ws : List ℕ) (t : Table) (reads : read_table ws ≡ result t) (k : ℕ) (list : List ℕ) where
  module _ (h : k < length t.entries) where
    counted : changed_of (read_table ws) k list ≡ counted_in t k list
    unfolding changed_of
    counted = rw (reads, lt-ltb k _ h)

    -- "the count is the number of those words that selected the entry"; there is one exactly when all words of the list are fit
    pub counts_exactly : (n : ℕ) → (changed_of (read_table ws) k list ≡ result n)
        ↔ (((i : ℕ) → i < length list → Fit t (word list i)) × (n ≡ how_many (λ i. selects (select t.entries (word list i)) k) (length list)))
    counts_exactly n = (
      λ q. three t k h list
          (λ f. (f, let e = sym q ∙ counted ∙ all_fit t k h list f in cc))
          (λ i u l e. absurd (not_refused (sym q ∙ counted ∙ e)))
          (λ i u l e. absurd (not_refused (sym q ∙ counted ∙ e))),
      λ c. counted ∙ all_fit t k h list c.0 ∙ ap result (sym c.1),
    )

    -- "for the first unfit word of the list 7, or 6 if it was ambiguous before the withdrawal", with the word
    pub seven_exactly : (changed_of (read_table ws) k list ≡ refused 7 0 0) ↔ ((i : ℕ) × FirstUnfit t list i × (2 ^ t.width ≤ word list i))
    seven_exactly = (
      λ q. three t k h list
          (λ f. absurd (not_refused (sym (counted ∙ all_fit t k h list f) ∙ q)))
          (λ i u l e. absurd (other_number (sym e ∙ sym counted ∙ q) (omega arith)))
          (λ i u l e. (i, u, l)),
      λ u. counted ∙ at_first t k h list u.0 u.1 ∙ rw (le-ltb _ _ u.2),
    )

    pub six_exactly : (w : ℕ) → (changed_of (read_table ws) k list ≡ refused 6 0 w)
        ↔ ((i : ℕ) × FirstUnfit t list i × (word list i ≡ w) × (w < 2 ^ t.width) × Contested t.entries w)
    six_exactly w = (
      λ q. three t k h list
          (λ f. absurd (not_refused (sym (counted ∙ all_fit t k h list f) ∙ q)))
          (λ i u l e. let o : refused 6 0 (word list i) ≡ refused 6 0 w = sym e ∙ sym counted ∙ q in
          let z : word list i ≡ w = cc in
          (i, u, z, rw z at l.0, rw z at l.1))
          (λ i u l e. absurd (other_number (sym e ∙ sym counted ∙ q) (omega arith))),
      λ u. counted ∙ at_first t k h list u.0 u.1 ∙ rw (u.2, lt-ltb _ _ u.3),
    )

  -- "11 for no such entry", whatever the list is
  pub no_such_entry : (changed_of (read_table ws) k list ≡ refused 11 0 0) ↔ (length t.entries ≤ k)
  unfolding changed_of
  no_such_entry = (
    λ q. cases (ltb k (length t.entries))
        (λ l. let h = ltb-true _ _ l in absurd (six_or_seven t k h list 11 0 0 (sym (counted h) ∙ q) (omega arith) (omega arith)))
        (λ l. ltb-false _ _ l),
    λ l. rw (reads, le-ltb k _ l),
  )

-- "After the table's faults"
pub faulty_first : (ws list : List ℕ) (k n p : ℕ) → (changed_of (read_table ws) k list ≡ faulty n p) ↔ (read_table ws ≡ faulty n p)
unfolding changed_of
faulty_first ws list k n p =
    faults_passed (λ (o : Outcome Table). changed_of o k list) (λ a b. refl) (λ a b x. refl)
    (λ t a b q. cases (ltb k (length t.entries)) (λ l. no_fault t k (ltb-true _ _ l) list a b (rw l at q)) (λ l. refused_not_faulty (rw l at q)))
    (read_table ws) n p
