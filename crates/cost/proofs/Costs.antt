-- Document 02, No. 3, sentence by sentence, over the definitions that the calls' contracts cite. Assumes nothing.
--   `cost::cycles` answers `cycles_of (read_table ws) e`; the other calls answer `look_of`, `generate_of`, `measure_of`, `decode_of`, `encode_of` of
--   `read_table ws`, and generating leaves `buffer_of (read_table ws) out`.
--     either_kind, kind_one, kind_six, small     what an entry's cycles are
--     over_is_two, missing_is_two     what they may not be
--     no_such_entry, faulty_first     what is refused
--     other_cycles, twin_alike     words that differ in cycles only
--     lookup_alike, generate_alike, buffer_alike, measure_alike, decode_alike, encode_alike     what does not depend on cycles
use mathlib.Core.Path.{◌≡◌, refl, sym, ap, ◌∙◌, subst}
use mathlib.Core.List.{List}
use mathlib.Core.Logic.{◌↔◌, ◌⊎◌, inl, inr}
use Prim.Native.Nat.{ℕ, ◌+◌, ◌≤◌, ◌<◌}
use native.Mathlib.Omega.{arith}
use lib.Dec.{eqb, ltb}
use lib.ListN.{length}
use borrow.Author.Tests.{lt-ltb, le-ltb, ltb-false, le-leb, lt-leb, eqb-true}
use Rattle.words.specs.Words.{word}
use Rattle.words.specs.Outcome.{Outcome, result, faulty, refused}
use Rattle.words.proofs.Logic.{cases, or_e}
use Rattle.words.proofs.Outcomes.{not_faulty, refused_not_faulty, faults_passed}
use Rattle.table.specs.Table.{Field, Table, kind_of, has_cycles, opcode_place, cycles_at, entry_place, count_of, width_of, size_of, own_bits}
use Rattle.table.specs.Check.{fine, fault, first_check, head_check, pattern_check, cycles_check, entry_check, table_check, read_table}
use Rattle.table.proofs.Laws.{checks, fine_then, fault_then, then_l, then_r, need_true, length_entries}
use Rattle.table.proofs.Views.{read_is, entry_check_lem, entry_stops, entry_at_lem, entry_cost}
use Rattle.layout.specs.Readable.{Small}
use Rattle.selection.specs.Lookup.{look_of}
use Rattle.tree.specs.Generate.{generate_of, buffer_of, measure_of}
use Rattle.operands.specs.Calls.{decode_of, encode_of}
use Rattle.cost.specs.Cost.{cycles_of}
use Rattle.cost.specs.Recosted.{bare, OtherCycles, twin}
use Rattle.cost.proofs.Twins.{other_reads, twin_reads}
use Rattle.cost.proofs.Free.{changed_table, kept_bare, bare_is, lookup_same, generate_same, buffer_same, measure_same, decode_same, encode_same}

-- ---- an entry's cycles

module _ (ws : List ℕ) (t : Table) (r : read_table ws ≡ result t) where
  -- "begins with kind 6 in place of kind 1"
  pub either_kind : (kind_of (word ws 0) ≡ 1) ⊎ (kind_of (word ws 0) ≡ 6)
  unfolding table_check first_check
  either_kind =
      let k = need_true _ _ _ (then_l _ _ (then_r _ _ (then_r _ _ (then_l _ _ (read_is ws t r).0)))) in
      cases (eqb (kind_of (word ws 0)) 1) (λ h. inl (eqb-true _ _ h)) (λ h. inr (eqb-true _ _ (or_e k h)))

  module _ (e : ℕ) where
    -- "11 for no such entry"
    pub no_such_entry : (cycles_of (read_table ws) e ≡ refused 11 0 0) ↔ (length t.entries ≤ e)
    unfolding cycles_of
    no_such_entry =
        (λ h. cases (ltb e (length t.entries)) (λ l. absurd (let q = rw (r, l) at h in let z : ◌≡◌ {A = ℕ} 0 1 = cc in omega arith)) (λ l. ltb-false _ _ l), λ h. rw (r, le-ltb e _ h))

    module _ (h : e < length t.entries) where
      few : e < count_of (word ws 0)
      few =
          let l = subst (λ x. e < length x.entries) (sym (read_is ws t r).1) h in
          omega (arith, length_entries ws (count_of (word ws 0)) 1, l)

      cycles_are : cycles_of (read_table ws) e ≡ result (cycles_at ws (entry_place ws e))
      unfolding cycles_of
      cycles_are =
          let n = count_of (word ws 0) in
          rw r (subst (λ x. cycles_of (result x) e ≡ result (cycles_at ws (entry_place ws e))) (read_is ws t r).1 (rw (length_entries ws n 1, lt-ltb e n few, entry_at_lem ws (width_of (word ws 0)) e n _ few)))

      -- "Kind 1 tables are still read, with cycles 0."
      pub kind_one : kind_of (word ws 0) ≡ 1 → cycles_of (read_table ws) e ≡ result 0
      unfolding cycles_at has_cycles
      kind_one k = cycles_are ∙ rw k

      -- "has, after each entry's value word, a word with its cycles"
      pub kind_six : kind_of (word ws 0) ≡ 6 → cycles_of (read_table ws) e ≡ result (word ws (entry_place ws e + 3))
      unfolding cycles_at has_cycles
      kind_six k = cycles_are ∙ rw k

      -- "0 to 65,535"
      pub small : (n : ℕ) → cycles_of (read_table ws) e ≡ result n → n ≤ 65535
      unfolding table_check
      small n q =
          let l = entry_cost ws (width_of (word ws 0)) _ (entry_check_lem ws (width_of (word ws 0)) e (count_of (word ws 0)) (then_r _ _ (read_is ws t r).0) few) in
          let c : result (cycles_at ws (entry_place ws e)) ≡ result n = sym cycles_are ∙ q in
          let z : cycles_at ws (entry_place ws e) ≡ n = cc in
          omega (arith, l)

-- "upper bits zero, else number 2": of a table of kind 6 that is right up to the cycles of entry k, which are over 65,535, or are not there
module _ (ws : List ℕ) (first : first_check ws ≡ fine) (six : kind_of (word ws 0) ≡ 6) (k : ℕ) (h : k < count_of (word ws 0)) where
  abbrev place : ℕ
  place = entry_place ws k

  abbrev width : ℕ
  width = width_of (word ws 0)

  module _ (earlier : (i : ℕ) → i < k → entry_check ws width (entry_place ws i) ≡ fine) (head : head_check ws width place ≡ fine)
      (opcode : pattern_check ws (own_bits width (size_of (word ws place))) (opcode_place ws place) ≡ fine) where
    stops : (n p : ℕ) → cycles_check ws place ≡ fault n p → read_table ws ≡ faulty n p
    unfolding table_check entry_check
    stops n p c =
        let e : entry_check ws width place ≡ fault n p = rw (head, fine_then, opcode, fine_then, c, fault_then) in
        let t : table_check ws ≡ fault n p = rw (first, fine_then) (entry_stops ws width k _ n p earlier h e) in
        rw t

    pub over_is_two : place + 4 ≤ length ws → 65535 < word ws (place + 3) → read_table ws ≡ faulty 2 (place + 3)
    unfolding cycles_check has_cycles
    over_is_two l o =
        let g : place + 3 + 1 ≤ length ws = omega arith in
        stops 2 (place + 3) (rw six (simp (le-leb _ _ g, lt-leb _ _ o, checks)))

    pub missing_is_two : length ws ≤ place + 3 → read_table ws ≡ faulty 2 (length ws)
    unfolding cycles_check has_cycles
    missing_is_two l =
        let g : length ws < place + 3 + 1 = omega arith in
        stops 2 (length ws) (rw six (simp (lt-leb _ _ g, checks)))

-- "after the table's faults"
pub faulty_first : (ws : List ℕ) (e n p : ℕ) → (cycles_of (read_table ws) e ≡ faulty n p) ↔ (read_table ws ≡ faulty n p)
unfolding cycles_of
faulty_first ws e n p =
    faults_passed (λ (o : Outcome Table). cycles_of o e) (λ a b. refl) (λ a b x. refl)
    (λ t a b q. cases (ltb e (length t.entries)) (λ l. not_faulty (rw l at q)) (λ l. refused_not_faulty (rw l at q)))
    (read_table ws) n p

-- "differ in cycles only", of words: those of a kind 6 table, and others that differ in the cycles words only, each at most 65,535; those of a kind 1
-- table, and its twin of kind 6. Both read, and the tables that they say are the same but for their cycles
module _ (ws : List ℕ) (s : Small ws) (t : Table) (r : read_table ws ≡ result t) where
  pub other_cycles : kind_of (word ws 0) ≡ 6 → (vs : List ℕ) → OtherCycles ws vs → (u : Table) × (read_table vs ≡ result u) × (bare t ≡ bare u)
  other_cycles six vs o =
      let (e, m) = read_is ws t r in
      let (u, reads, same) = other_reads ws vs s e six o in
      (u, reads, sym (same ∙ ap bare m))

  pub twin_alike : kind_of (word ws 0) ≡ 1 → (cycles : ℕ → ℕ) → ((k : ℕ) → k < count_of (word ws 0) → cycles k ≤ 65535) → length (twin cycles ws) ≤ 16384
      → (u : Table) × (read_table (twin cycles ws) ≡ result u) × (bare t ≡ bare u)
  twin_alike one cycles few room =
      let (e, m) = read_is ws t r in
      let (u, reads, same) = twin_reads ws s e one cycles few room in
      (u, reads, sym (same ∙ ap bare m))

-- "Selection, tree and fields do not depend on cycles, so two tables that differ in cycles only have equal trees": two tables that read, of
-- whatever kinds, are the same but for their cycles
module _ (ws vs : List ℕ) (t u : Table) (r : read_table ws ≡ result t) (s : read_table vs ≡ result u) (d : bare t ≡ bare u) where
  abbrev none : ℕ → ℕ
  none n = 0

  abbrev same : List Field → List Field
  same fs = fs

  same_bare : changed_table none same t ≡ changed_table none same u
  same_bare = bare_is t ∙ d ∙ sym (bare_is u)

  pub lookup_alike : (w : ℕ) → look_of (read_table ws) w ≡ look_of (read_table vs) w
  lookup_alike w = lookup_same none same kept_bare ws vs t u r s same_bare w

  -- the answer, and every word of the buffer
  pub generate_alike : (room : ℕ) → generate_of (read_table ws) room ≡ generate_of (read_table vs) room
  generate_alike room = generate_same none same kept_bare ws vs t u r s same_bare room

  pub buffer_alike : (out : List ℕ) → buffer_of (read_table ws) out ≡ buffer_of (read_table vs) out
  buffer_alike out = buffer_same none same kept_bare ws vs t u r s same_bare out

  pub measure_alike : measure_of (read_table ws) ≡ measure_of (read_table vs)
  measure_alike = measure_same none same kept_bare ws vs t u r s same_bare

  -- the answer, with the values that are written
  pub decode_alike : (w room : ℕ) → decode_of (read_table ws) w room ≡ decode_of (read_table vs) w room
  decode_alike w room = decode_same none same kept_bare ws vs t u r s same_bare w room

  pub encode_alike : (e : ℕ) (values : List ℕ) → encode_of (read_table ws) e values ≡ encode_of (read_table vs) e values
  encode_alike e values = encode_same none same kept_bare ws vs t u r s same_bare e values
