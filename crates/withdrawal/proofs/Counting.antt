-- The count: what a lookup tells of a word, and what has been counted so far. Assumes nothing.
use Prim.Native.Nat.{ℕ, suc, min, ◌+◌, ◌≤◌, ◌<◌, ◌^◌}
use native.Mathlib.Numerals.{add-one}
use native.Mathlib.Omega.{arith}
use mathlib.Core.Path.{◌≡◌, refl, ap, ◌∙◌}
use mathlib.Core.Bool.{true, false}
use mathlib.Core.List.{List}
use mathlib.Core.Option.{Option, none, some}
use lib.Dec.{ltb}
use lib.ListN.{length}
use borrow.Author.Count.{below_none, below_more}
use borrow.Author.Tests.{lt-ltb, le-ltb, eq-eqb, ne_eqb}
use Rattle.words.specs.Tests.{◌or◌, how_many}
use Rattle.words.specs.Words.{word}
use Rattle.std.specs.Prelude.{Result, Err}
use Rattle.std.specs.Prelude as code
use Rattle.words.specs.Outcome.{Outcome, result, faulty, refused, refused_as}
use Rattle.words.specs.declared.Refusal.{Refusal}
use Rattle.words.specs.declared.Refusal.TheVariants as refusal
use Rattle.words.proofs.Outcomes.{refused_no_result, said_one}
use Rattle.words.proofs.Logic.{cases, clash, or_r, first_no, first_found, how_many_le}
use Rattle.table.specs.Table.{Table, entries_at}
use Rattle.table.specs.Check.{read_table}
use Rattle.table.specs.Answer.{Reads}
use Rattle.table.specs.Ready.{Ready}
use Rattle.table.specs.declared.Entries.{Entries}
use Rattle.table.proofs.Laws.{length_entries}
use Rattle.table.proofs.Views.{ready_read, read_refused}
use Rattle.choice.specs.Rule.{names, nothing, ambiguous, selects, is_ambiguous}
use Rattle.choice.proofs.Judging.{answers}
use Rattle.selection.specs.Selection.{select}
use Rattle.selection.specs.Lookup.{looked_in, said_found}
use Rattle.selection.specs.Places.{FindsAmong}
use Rattle.selection.specs.declared.Found.{Found}
use Rattle.selection.proofs.Finding.{among_all}
use Rattle.withdrawal.specs.Withdrawn.{changes}
use Rattle.withdrawal.specs.Counted.{unfit, unfit_at, refused_for, counted_in, changed_of}
use Rattle.withdrawal.proofs.Withdrawing.{changes_selects}

-- ---- a word

-- a word that lookup answers is fit, and one that it refuses is unfit and refused alike
abbrev pub Tells : Table → ℕ → Outcome (Option ℕ) → Type 0
Tells t w (result (some e)) = (unfit t w ≡ false) × (select t.entries w ≡ names e)
Tells t w (result none) = (unfit t w ≡ false) × (select t.entries w ≡ nothing)
Tells t w (faulty n p) = ⊥
Tells t w (refused n p v) = (unfit t w ≡ true) × (refused n p v ≡ refused_for t w)

pub tells : (t : Table) (w : ℕ) (o : Outcome (Option ℕ)) → o ≡ looked_in t.width w (select t.entries w) → Tells t w o
unfolding unfit ◌or◌ is_ambiguous
tells t w o e =
    cases (ltb w (2 ^ t.width))
    (λ h. answers (select t.entries w)
    (λ i q. let p : o ≡ result (some i) = rw (h, q) at e in rw p (rw (h, q), q))
    (λ q. let p : o ≡ result none = rw (h, q) at e in rw p (rw (h, q), q))
    (λ q. let p : o ≡ refused 6 0 w = rw (h, q) at e in rw p (rw (h, q), rw h)))
    (λ h. let p : o ≡ refused 7 0 0 = rw h at e in rw p (rw h, rw h))

-- a word that lookup refuses is unfit, and what refuses it is said of it
pub refused_tells : (t : Table) (w : ℕ) (r : Refusal) → refused_as r ≡ looked_in t.width w (select t.entries w) → (unfit t w ≡ true) × (refused_as r ≡ refused_for t w)
unfolding unfit ◌or◌ is_ambiguous
refused_tells t w r e =
    cases (ltb w (2 ^ t.width))
    (λ h. answers (select t.entries w)
    (λ i q. absurd (refused_no_result r (some i) (rw (h, q) at e)))
    (λ q. absurd (refused_no_result r none (rw (h, q) at e)))
    (λ q. let p = said_one {A = Option ℕ} (Err r) (Err (refusal.Ambiguous w)) (rw (h, q) at e) in
    let z : r ≡ refusal.Ambiguous w = cc in rw z (rw (h, q), rw h)))
    (λ h. let p = said_one {A = Option ℕ} (Err r) (Err refusal.TooWide) (rw h at e) in
    let z : r ≡ refusal.TooWide = cc in rw z (rw h, rw h))

-- the table as it is read
abbrev pub table : Entries → ℕ → Table
table es width = record { width = width; entries = entries_at es.words.now es.count 1 }

module _ (es : Entries) (width w : ℕ) (ready : Ready es.words.now es.places width es.count) where
  pub told : (r : Result (code.Option Found) Refusal) → FindsAmong es.words.now es.places width (min es.count 256) w r → Tells (table es width) w (said_found r)
  told r f = tells (table es width) w (said_found r) (among_all es.words.now es.places width es.count w ready r f)

  pub told_refused : (r : Refusal) → FindsAmong es.words.now es.places width (min es.count 256) w (Err r) → (unfit (table es width) w ≡ true) × (refused_as r ≡ refused_for (table es width) w)
  told_refused r f = refused_tells (table es width) w r (among_all es.words.now es.places width es.count w ready (Err r) f)

-- a fit word is not ambiguous, so it changes exactly when it selects the entry
pub fit_clear : (t : Table) (w : ℕ) → unfit t w ≡ false → select t.entries w ≡ ambiguous → ⊥
unfolding unfit is_ambiguous
fit_clear t w f e = clash (ap is_ambiguous e) (or_r _ f)

pub fit_changes : (t : Table) (k : ℕ) → k < length t.entries → (w : ℕ) → unfit t w ≡ false → changes t.entries k w ≡ selects (select t.entries w) k
fit_changes t k h w f = changes_selects t.entries k h w (fit_clear t w f)

-- ---- a list

-- the first i words are fit, and n of them change
pub record SoFar (t : Table) (k : ℕ) (list : List ℕ) (i n : ℕ) : Type 0 where
  pub fit : (j : ℕ) → j < i → unfit_at t list j ≡ false
  pub sum : n ≡ how_many (λ j. changes t.entries k (word list j)) i

pub none_yet : (t : Table) (k : ℕ) (list : List ℕ) → SoFar t k list 0 0
unfolding how_many
none_yet t k list = record { fit = below_none _; sum = refl }

module _ (t : Table) (k : ℕ) (list : List ℕ) (i n : ℕ) (s : SoFar t k list i n) where
  pub few : n ≤ i
  few = rw s.sum (how_many_le _ i)

  -- one word more, which is fit: it changes, or it does not
  one_changes : unfit_at t list i ≡ false → changes t.entries k (word list i) ≡ true → SoFar t k list (i + 1) (n + 1)
  unfolding how_many
  one_changes f e =
      record { fit = below_more (λ (j : ℕ). unfit_at t list j ≡ false) i s.fit f; sum = rw (add-one i, e, add-one n) (ap suc s.sum) }

  one_stays : unfit_at t list i ≡ false → changes t.entries k (word list i) ≡ false → SoFar t k list (i + 1) n
  unfolding how_many
  one_stays f e =
      record { fit = below_more (λ (j : ℕ). unfit_at t list j ≡ false) i s.fit f; sum = rw (add-one i, e) s.sum }

  module _ (h : k < length t.entries) where
    -- it selects the entry, another one, or nothing
    pub own_counts : (e : ℕ) → Tells t (word list i) (result (some e)) → e ≡ k → SoFar t k list (i + 1) (n + 1)
    unfolding selects unfit_at
    own_counts e w q = one_changes w.0 (fit_changes t k h (word list i) w.0 ∙ rw w.1 (eq-eqb e k q))

    pub other_stays : (e : ℕ) → Tells t (word list i) (result (some e)) → (e ≡ k → ⊥) → SoFar t k list (i + 1) n
    unfolding selects unfit_at
    other_stays e w d = one_stays w.0 (fit_changes t k h (word list i) w.0 ∙ rw w.1 (ne_eqb e k d))

    pub nothing_stays : Tells t (word list i) (result none) → SoFar t k list (i + 1) n
    unfolding selects unfit_at
    nothing_stays w = one_stays w.0 (fit_changes t k h (word list i) w.0 ∙ rw w.1)

    -- the answer at the end of the list, and at an unfit word
    module _ (ws : List ℕ) (reads : read_table ws ≡ result t) where
      pub all_counted : i ≡ length list → result n ≡ changed_of (read_table ws) k list
      unfolding changed_of counted_in
      all_counted e =
          rw (reads, lt-ltb k _ h, first_no (unfit_at t list) (length list) (λ j l. s.fit j (rw e l)), s.sum, e)

      pub stopped : i < length list → (r : Refusal) → (unfit t (word list i) ≡ true) × (refused_as r ≡ refused_for t (word list i))
          → refused_as r ≡ changed_of (read_table ws) k list
      unfolding changed_of counted_in unfit_at
      stopped l r w =
          rw (reads, lt-ltb k _ h, first_found (unfit_at t list) (length list) i l w.0 s.fit) w.1

-- ---- a table that is refused, and one without such an entry

pub changed_refused : (ws list : List ℕ) (k : ℕ) (r : Refusal) → Reads ws (Err r) → refused_as r ≡ changed_of (read_table ws) k list
unfolding changed_of
changed_refused ws list k r reads = read_refused ws r reads (λ (o : Outcome Table). changed_of o k list) (λ n p. refl)

pub changed_none : (es : Entries) (width k : ℕ) (list : List ℕ) → Ready es.words.now es.places width es.count → es.count ≤ k
    → refused 11 0 0 ≡ changed_of (read_table es.words.now) k list
unfolding changed_of
changed_none es width k list r h = rw (ready_read es.words.now es.places width es.count r, length_entries es.words.now es.count 1, le-ltb k es.count h)

-- there is such an entry
pub entry : (es : Entries) (width k : ℕ) → k < es.count → k < length (table es width).entries
entry es width k h = omega (arith, length_entries es.words.now es.count 1)
