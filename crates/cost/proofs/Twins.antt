-- Words that differ from a table's in cycles only read as a table that differs in cycles only. Assumes nothing.
use Prim.Native.Nat.{ℕ, zero, suc, ◌+◌, ◌*◌, ◌^◌, ◌≤◌, ◌<◌}
use native.Mathlib.Omega.{arith}
use mathlib.Core.Path.{◌≡◌, refl, sym, ap, ap₂, ◌∙◌}
use mathlib.Core.Bool.{true}
use mathlib.Core.List.{List, [], ◌∷◌, ◌++◌, map}
use lib.ListN.{length}
use lib.Seq.{slice}
use Rattle.words.specs.Tests.{◌or◌, all_of}
use Rattle.words.specs.Words.{word}
use Rattle.words.specs.Outcome.{result}
use Rattle.words.proofs.Logic.{and_i}
use Rattle.table.specs.Table.{Entry, Table, kind_of, count_of, width_of, cycles_place, entry_place, entry_at, entries_at, table_of}
use Rattle.table.specs.Check.{fine, entry_check, entries_check, first_check, table_check, read_table}
use Rattle.table.proofs.Laws.{then_l, then_r, first_some, first_short, first_count, first_wide, first_width}
use Rattle.layout.specs.Layout.{all_words, pattern_words, entry_head, cycles_words, entry_words, entries_words, table_head, table_words}
use Rattle.layout.specs.Readable.{good_kind, Readable, lawful, Small}
use Rattle.layout.proofs.Standing.{Stands, done, next, here, joined, ends_at, slice_is}
use Rattle.layout.proofs.Laying.{entry_laid, first_laid}
use Rattle.layout.proofs.Changing.{with_cycles, recosted_lawful}
use Rattle.layout.proofs.OneToOne.{reads_back}
use Rattle.layout.proofs.Rereading.{table_back}
use Rattle.layout.proofs.Placing.{last_place}
use Rattle.cost.specs.Recosted.{uncosted, bare, OtherCycles, twin_from, twin}

-- the entries of a table from entry k on, with other cycles
unfoldable recosted : (ℕ → ℕ) → List ℕ → ℕ → ℕ → List Entry
recosted cycles ws zero k = []
recosted cycles ws (suc n) k = with_cycles (cycles k) (entry_at ws (entry_place ws k)) ∷ recosted cycles ws n (suc k)

module _ (cycles : ℕ → ℕ) (ws : List ℕ) (width : ℕ) where
  recosted_length : (n k : ℕ) → length (recosted cycles ws n k) ≡ n
  unfolding recosted
  recosted_length zero k = refl
  recosted_length (suc n) k = ap suc (recosted_length n (suc k))

  -- without cycles they are the table's
  recosted_bare : (n k : ℕ) → map uncosted (recosted cycles ws n k) ≡ map uncosted (entries_at ws n (entry_place ws k))
  unfolding recosted with_cycles uncosted entries_at entry_place
  recosted_bare zero k = refl
  recosted_bare (suc n) k = ap (λ (l : List Entry). uncosted (entry_at ws (entry_place ws k)) ∷ l) (recosted_bare n (suc k))

  all_lawful : (n k : ℕ) → ((j : ℕ) → j < k + n → cycles j ≤ 65535) → entries_check ws width n (entry_place ws k) ≡ fine → all_of (lawful 6 width) (recosted cycles ws n k) ≡ true
  unfolding recosted entries_check entry_place all_of
  all_lawful zero k few e = refl
  all_lawful (suc n) k few e =
      and_i (recosted_lawful (kind_of (word ws 0)) width (cycles k) (entry_at ws (entry_place ws k)) (few k (omega arith)) (entry_laid ws width (entry_place ws k) (then_l _ _ e)).passes)
      (all_lawful n (suc k) (λ j h. few j (omega arith)) (then_r _ _ e))

-- ---- a table that reads

module _ (ws : List ℕ) (s : Small ws) (e : table_check ws ≡ fine) (cycles : ℕ → ℕ) (few : (k : ℕ) → k < count_of (word ws 0) → cycles k ≤ 65535) where
  abbrev n : ℕ
  n = count_of (word ws 0)

  abbrev es : List Entry
  es = recosted cycles ws n 0

  first : first_check ws ≡ fine
  unfolding table_check
  first = then_l _ _ e

  rest : entries_check ws (width_of (word ws 0)) n 1 ≡ fine
  unfolding table_check
  rest = then_r _ _ e

  readable : length (table_words 6 (width_of (word ws 0)) es) ≤ 16384 → Readable 6 (width_of (word ws 0)) es
  unfolding good_kind ◌or◌ entry_place
  readable short =
      record {
        known = refl;
        some = first_wide ws first;
        wide = first_width ws first;
        few = omega (arith, first_count ws first, recosted_length cycles ws (width_of (word ws 0)) n 0);
        short = short;
        each = all_lawful cycles ws (width_of (word ws 0)) n 0 (λ j h. few j (omega arith)) rest;
      }

  alike : bare (record { width = width_of (word ws 0); entries = es }) ≡ bare (table_of ws)
  unfolding bare entry_place
  alike = ap (λ (l : List Entry). record { width = width_of (word ws 0); entries = l }) (recosted_bare cycles ws (width_of (word ws 0)) n 0)

-- ---- other cycles in a kind 6 table

-- words that stand in one list stand in another that has the same words there
stands_same : {ws : List ℕ} (vs : List ℕ) {p q : ℕ} {xs : List ℕ} → length vs ≡ length ws → ((i : ℕ) → p ≤ i → i < q → word vs i ≡ word ws i) → Stands ws p xs q → Stands vs p xs q
stands_same vs l f (done e) = done e
stands_same vs {p = p} l f (next h e s) =
    next {p = p} (omega arith) (f p (omega arith) (omega (arith, ends_at s)) ∙ e) (stands_same vs l (λ i a b. f i (omega arith) b) s)

module _ (ws vs : List ℕ) (s : Small ws) (e : table_check ws ≡ fine) (six : kind_of (word ws 0) ≡ 6) (o : OtherCycles ws vs) where
  abbrev costs : ℕ → ℕ
  costs k = word vs (cycles_place ws (entry_place ws k))

  entry_stands : (k : ℕ) → k < count_of (word ws 0) → entry_check ws (width_of (word ws 0)) (entry_place ws k) ≡ fine
      → Stands vs (entry_place ws k) (entry_words 6 (with_cycles (costs k) (entry_at ws (entry_place ws k)))) (entry_place ws (suc k))
  unfolding entry_words pattern_words cycles_words with_cycles entry_head entry_place
  entry_stands k h c =
      let p : ℕ = entry_place ws k in
      let own : (i : ℕ) → p ≤ i → i < entry_place ws (suc k) → (i ≡ p + 3 → ⊥) → word vs i ≡ word ws i = o.same k h in
      let a = here (rw six at ((entry_laid ws (width_of (word ws 0)) p c).stands s)) in
      let b = here a.2 in
      let d = here b.2 in
      let f = here d.2 in
      let end = ends_at f.2 in
      let third : p + 1 + 1 + 1 ≡ p + 3 = omega arith in
      let l = o.as_many in
      next {p = p} (omega (arith, a.0)) (own p (omega arith) (omega arith) (λ z. omega arith) ∙ a.1)
      (next {p = p + 1} (omega (arith, b.0)) (own (p + 1) (omega arith) (omega arith) (λ z. omega arith) ∙ b.1)
      (next {p = p + 1 + 1} (omega (arith, d.0)) (own (p + 1 + 1) (omega arith) (omega arith) (λ z. omega arith) ∙ d.1)
      (next {p = p + 1 + 1 + 1} (omega (arith, f.0)) (ap (word vs) third)
      (stands_same vs l (λ i x y. own i (omega arith) y (λ z. omega arith)) f.2))))

  entries_stand : (m k : ℕ) → k + m ≡ count_of (word ws 0) → entries_check ws (width_of (word ws 0)) m (entry_place ws k) ≡ fine
      → Stands vs (entry_place ws k) (entries_words 6 (recosted costs ws m k)) (length vs)
  unfolding recosted entries_check entry_place all_words
  entries_stand zero k h c =
      let q : k ≡ count_of (word ws 0) = omega arith in
      let end : entry_place ws k ≡ length ws = ap (entry_place ws) q ∙ last_place ws s e in
      done (end ∙ sym o.as_many)
  entries_stand (suc m) k h c =
      joined (entry_stands k (omega arith) (then_l _ _ c)) (entries_stand m (suc k) (omega arith) (then_r _ _ c))

  pub other_reads : (u : Table) × (read_table vs ≡ result u) × (bare u ≡ bare (table_of ws))
  unfolding table_words entry_place
  other_reads =
      let count : ℕ = count_of (word ws 0) in
      let width : ℕ = width_of (word ws 0) in
      let first_Fine = first ws s e costs o.cycles in
      let rest-fine = rest ws s e costs o.cycles in
      let fs : List Entry = recosted costs ws count 0 in
      let long : length fs ≡ count = recosted_length costs ws width count 0 in
      let head : word vs 0 ≡ table_head 6 width (length fs) = o.first ∙ rw six at (first_laid ws (length fs) first_Fine long s) in
      let some : 0 < length vs = omega (arith, first_some ws first_Fine, o.as_many) in
      let whole : Stands vs 0 (table_words 6 width fs) (length vs) = next {p = 0} some head (entries_stand count 0 (omega arith) rest-fine) in
      let short : length (table_words 6 width fs) ≤ 16384 = omega (arith, ends_at whole, first_short ws first_Fine, o.as_many) in
      (record { width = width; entries = fs }, table_back vs width (first_width ws first_Fine) 6 fs (readable ws s e costs o.cycles short) whole, alike ws s e costs o.cycles)

-- ---- the twin of a kind 1 table

module _ (ws : List ℕ) (s : Small ws) (e : table_check ws ≡ fine) (one : kind_of (word ws 0) ≡ 1) (cycles : ℕ → ℕ) where
  entry_twin : (k : ℕ) → k < count_of (word ws 0) → entry_check ws (width_of (word ws 0)) (entry_place ws k) ≡ fine
      → slice (entry_place ws k) (entry_place ws k + 3) ws ++ (cycles k ∷ slice (entry_place ws k + 3) (entry_place ws (suc k)) ws)
      ≡ entry_words 6 (with_cycles (cycles k) (entry_at ws (entry_place ws k)))
  unfolding entry_words pattern_words cycles_words with_cycles entry_head entry_place
  entry_twin k h c =
      let p : ℕ = entry_place ws k in
      let a = here (rw one at ((entry_laid ws (width_of (word ws 0)) p c).stands s)) in
      let b = here a.2 in
      let d = here b.2 in
      let three : slice p (p + 3) ws ≡ entry_head (entry_at ws p) ∷ pattern_words (entry_at ws p).opcode = slice_is (next {p = p} a.0 a.1 (next {p = p + 1} b.0 b.1 (next {p = p + 1 + 1} d.0 d.1 (done {q = p + 3} (omega arith))))) in
      let at : p + 1 + 1 + 1 ≡ p + 3 = omega arith in
      let others = rw at at (slice_is d.2) in
      ap₂ (λ (x y : List ℕ). x ++ (cycles k ∷ y)) three others

  entries_twin : (m k : ℕ) → k + m ≡ count_of (word ws 0) → entries_check ws (width_of (word ws 0)) m (entry_place ws k) ≡ fine
      → twin_from cycles ws m k ≡ entries_words 6 (recosted cycles ws m k)
  unfolding recosted twin_from entries_check entry_place all_words
  entries_twin zero k h c = refl
  entries_twin (suc m) k h c =
      ap₂ (λ (x y : List ℕ). x ++ y) (entry_twin k (omega arith) (then_l _ _ c)) (entries_twin m (suc k) (omega arith) (then_r _ _ c))

  module _ (few : (k : ℕ) → k < count_of (word ws 0) → cycles k ≤ 65535) (room : length (twin cycles ws) ≤ 16384) where
    pub twin_reads : (u : Table) × (read_table (twin cycles ws) ≡ result u) × (bare u ≡ bare (table_of ws))
    unfolding table_words entry_place twin table_head
    twin_reads =
        let count : ℕ = count_of (word ws 0) in
        let width : ℕ = width_of (word ws 0) in
        let first_Fine = first ws s e cycles few in
        let rest-fine = rest ws s e cycles few in
        let fs : List Entry = recosted cycles ws count 0 in
        let long : length fs ≡ count = recosted_length cycles ws width count 0 in
        let old : word ws 0 ≡ table_head 1 width (length fs) = rw one at (first_laid ws (length fs) first_Fine long s) in
        let head : word ws 0 + 5 * 2 ^ 28 ≡ table_head 6 width (length fs) = omega arith in
        let same : twin cycles ws ≡ table_words 6 width fs = ap₂ ◌∷◌ head (entries_twin count 0 (omega arith) rest-fine) in
        let short : length (table_words 6 width fs) ≤ 16384 = omega (arith, ap length same) in
        (record { width = width; entries = fs }, ap read_table same ∙ reads_back (readable ws s e cycles few short), alike ws s e cycles few)
