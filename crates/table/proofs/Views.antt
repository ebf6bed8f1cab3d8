-- What callers rely on, of a table without fault: its entries by their numbers and places, and what the reader's answer tells. Assumes nothing.
use mathlib.Core.Path.{◌≡◌, refl, sym, ◌∙◌}
use mathlib.Core.List.{List}
use Prim.Native.Nat.{ℕ, zero, suc, ◌+◌, ◌≤◌, ◌<◌}
use native.Mathlib.Nat.{add-zero, zero-add}
use native.Mathlib.Omega.{arith}
use lib.ListN.{length, get_or}
use borrow.Author.Tests.{leb-true}
use Rattle.words.specs.Words.{word}
use Rattle.std.specs.Prelude.{Err}
use Rattle.words.specs.Outcome.{Outcome, result, faulty, refused_as}
use Rattle.words.specs.declared.Refusal.{Refusal}
use Rattle.words.proofs.Outcomes.{refused_no_result, fault_in_all}
use Rattle.words.proofs.Logic.{cases}
use Rattle.table.specs.Table.{Table, Entry, size_of, fields_of, has_cycles, opcode_place, fields_place, cycles_at, entry_at, entries_at, entry_place, table_of}
use Rattle.table.specs.Check.{Check, fine, fault, reading, read_table, table_check, first_check, field_check, fields_check, used_before, head_check, cycles_check, entry_check, entries_check}
use Rattle.table.specs.Ready.{Ready}
use Rattle.table.specs.Answer.{shape_of, Reads}
use Rattle.table.proofs.Laws.{fine_then, fault_then, then_l, then_r, need_true, head_fits, first_short, first_count, first_width}

-- ---- an entry without fault

module _ (ws : List ℕ) (width p : ℕ) (e : entry_check ws width p ≡ fine) where
  pub entry_head_lem : head_check ws width p ≡ fine
  unfolding entry_check
  entry_head_lem = then_l _ _ e

  pub entry_here : p + 1 ≤ length ws
  entry_here = head_fits ws width p entry_head_lem

  pub entry_field_check : fields_check ws p width (size_of (word ws p)) (word ws (opcode_place ws p)) (fields_of (word ws p)) (fields_place ws p) ≡ fine
  unfolding entry_check
  entry_field_check = then_l _ _ (then_r _ _ (then_r _ _ (then_r _ _ e)))

  entry_cycles : cycles_check ws p ≡ fine
  unfolding entry_check
  entry_cycles = then_l _ _ (then_r _ _ (then_r _ _ e))

  -- "0 to 65,535"
  pub entry_cost : cycles_at ws p ≤ 65535
  unfolding cycles_check cycles_at
  entry_cost =
      cases (has_cycles ws)
      (λ t. rw t (leb-true _ _ (need_true _ _ _ (then_r _ _ (rw t at entry_cycles)))))
      (λ t. rw t (omega arith))

  pub entry_few_fields : fields_of (word ws p) ≤ 8
  unfolding head_check
  entry_few_fields = leb-true _ _ (need_true _ _ _ (then_l _ _ (then_r _ _ (then_r _ _ (then_r _ _ (then_r _ _ entry_head_lem))))))

-- ---- field j of an entry, by its place

module _ (ws : List ℕ) (e width size : ℕ) where
  -- each field of an entry without fault is without fault
  pub field_at_lem : (j n used p : ℕ) → fields_check ws e width size used n p ≡ fine → j < n → field_check ws width size (used_before ws used j p) (p + j) ≡ fine
  unfolding fields_check used_before
  field_at_lem j zero used p c h = absurd (omega arith)
  field_at_lem zero (suc n) used p c h = rw add-zero (then_l _ _ c)
  field_at_lem (suc j) (suc n) used p c h =
      let g : p + 1 + j ≡ p + suc j = omega arith in
      rw g at (field_at_lem j n _ (p + 1) (then_r _ _ c) (omega arith))

  -- the first field with a fault is the entry's
  pub field_stops : (j n used p a b : ℕ) → ((i : ℕ) → i < j → field_check ws width size (used_before ws used i p) (p + i) ≡ fine) → j < n
      → field_check ws width size (used_before ws used j p) (p + j) ≡ fault a b → fields_check ws e width size used n p ≡ fault a b
  unfolding fields_check used_before
  field_stops j zero used p a b f h c = absurd (omega arith)
  field_stops zero (suc n) used p a b f h c = rw (rw add-zero at c, fault_then)
  field_stops (suc j) (suc n) used p a b f h c =
      let g : (i : ℕ) → p + suc i ≡ p + 1 + i = λ i. omega arith in
      let first : field_check ws width size used p ≡ fine = rw add-zero at (f 0 (omega arith)) in
      rw (first, fine_then) (field_stops j n _ (p + 1) a b (λ i l. rw (g i) at (f (suc i) (omega arith))) (omega arith) (rw (g j) at c))

-- ---- entry k, by its place

module _ (ws : List ℕ) (width : ℕ) where
  check_from_lem : (k n j : ℕ) → entries_check ws width n (entry_place ws j) ≡ fine → k < n → entry_check ws width (entry_place ws (j + k)) ≡ fine
  unfolding entries_check entry_place
  check_from_lem zero zero j e h = absurd (omega arith)
  check_from_lem zero (suc n) j e h = rw add-zero (then_l _ _ e)
  check_from_lem (suc k) zero j e h = absurd (omega arith)
  check_from_lem (suc k) (suc n) j e h =
      let g : suc j + k ≡ j + suc k = omega arith in
      rw g at (check_from_lem k n (suc j) (then_r _ _ e) (omega arith))

  stop_from : (k n j a b : ℕ) → ((i : ℕ) → i < k → entry_check ws width (entry_place ws (j + i)) ≡ fine) → k < n → entry_check ws width (entry_place ws (j + k)) ≡ fault a b
      → entries_check ws width n (entry_place ws j) ≡ fault a b
  unfolding entries_check entry_place
  stop_from k zero j a b f h e = absurd (omega arith)
  stop_from zero (suc n) j a b f h e = rw (rw add-zero at e, fault_then)
  stop_from (suc k) (suc n) j a b f h e =
      let g : (i : ℕ) → j + suc i ≡ suc j + i = λ i. omega arith in
      let first : entry_check ws width (entry_place ws j) ≡ fine = rw add-zero at (f 0 (omega arith)) in
      rw (first, fine_then) (stop_from k n (suc j) a b (λ i l. rw (g i) at (f (suc i) (omega arith))) (omega arith) (rw (g k) at e))

  entry_from : (k n j : ℕ) (d : Entry) → k < n → get_or (entries_at ws n (entry_place ws j)) k d ≡ entry_at ws (entry_place ws (j + k))
  unfolding entries_at entry_place
  entry_from zero zero j d h = absurd (omega arith)
  entry_from zero (suc n) j d h = rw (add-zero j)
  entry_from (suc k) zero j d h = absurd (omega arith)
  entry_from (suc k) (suc n) j d h =
      let g : suc j + k ≡ j + suc k = omega arith in
      rw (← g) (entry_from k n (suc j) d (omega arith))

  -- in a table without fault each entry is without fault, and the words from its place on are that entry
  pub entry_check_lem : (k n : ℕ) → entries_check ws width n 1 ≡ fine → k < n → entry_check ws width (entry_place ws k) ≡ fine
  unfolding entry_place
  entry_check_lem k n e h = rw zero-add at (check_from_lem k n 0 e h)

  -- the first entry with a fault is the table's
  pub entry_stops : (k n a b : ℕ) → ((i : ℕ) → i < k → entry_check ws width (entry_place ws i) ≡ fine) → k < n → entry_check ws width (entry_place ws k) ≡ fault a b
      → entries_check ws width n 1 ≡ fault a b
  unfolding entry_place
  entry_stops k n a b f h e =
      let g : (i : ℕ) → i ≡ 0 + i = λ i. omega arith in
      stop_from k n 0 a b (λ i l. rw (g i) at (f i l)) h (rw (g k) at e)

  pub entry_at_lem : (k n : ℕ) (d : Entry) → k < n → get_or (entries_at ws n 1) k d ≡ entry_at ws (entry_place ws k)
  unfolding entry_place
  entry_at_lem k n d h = rw zero-add at (entry_from k n 0 d h)

-- ---- a table that was read

reading_is : (v : Check) (x t : Table) → reading v x ≡ result t → (v ≡ fine) × (x ≡ t)
reading_is fine x t e = (refl, cc)
reading_is (fault n p) x t e = absurd (let z : ◌≡◌ {A = ℕ} 0 1 = cc in omega arith)

pub read_is : (ws : List ℕ) (t : Table) → read_table ws ≡ result t → (table_check ws ≡ fine) × (table_of ws ≡ t)
read_is ws t e = reading_is (table_check ws) (table_of ws) t e

-- ---- what the reader's answer tells a caller

module _ (ws places : List ℕ) (width count : ℕ) (r : Ready ws places width count) where
  first_fine : first_check ws ≡ fine
  unfolding table_check
  first_fine = then_l _ _ r.good

  pub ready_entries : entries_check ws width count 1 ≡ fine
  unfolding table_check
  ready_entries = rw (r.wide, r.number) (then_r _ _ r.good)

  pub ready_read : read_table ws ≡ result (record { width = width; entries = entries_at ws count 1 })
  ready_read = rw (r.good, r.wide, r.number)

  pub ready_short : length ws ≤ 16384
  ready_short = first_short ws first_fine

  pub ready_few : count ≤ 256
  ready_few = rw r.number (first_count ws first_fine)

  pub ready_wide : width ≤ 32
  ready_wide = rw r.wide (first_width ws first_fine)

  -- entry k stands at its place in the array, without fault
  module _ (k : ℕ) (h : k < count) where
    pub ready_entry : entry_check ws width (get_or places k 0) ≡ fine
    ready_entry = rw (r.each k h) (entry_check_lem ws width k count ready_entries h)

    pub ready_at : (d : Entry) → get_or (entries_at ws count 1) k d ≡ entry_at ws (get_or places k 0)
    ready_at d = rw (r.each k h) (entry_at_lem ws width k count d h)

    pub ready_place : get_or places k 0 + 1 ≤ length ws
    ready_place = entry_here ws width _ ready_entry

-- ---- what refuses a table is a fault of its own; a call that passes faults on says the same

refused_in : (v : Check) (t : Table) (r : Refusal) → refused_as r ≡ shape_of (reading v t)
    → {B : Type 0} (call : Outcome Table → Outcome B) → ((n p : ℕ) → call (faulty n p) ≡ faulty n p) → refused_as r ≡ call (reading v t)
refused_in fine t r e call f = absurd (refused_no_result r _ e)
refused_in (fault n p) t r e call f = fault_in_all r n p e ∙ sym (f n p)

pub read_refused : (ws : List ℕ) (r : Refusal) → Reads ws (Err r) → {B : Type 0} (call : Outcome Table → Outcome B)
    → ((n p : ℕ) → call (faulty n p) ≡ faulty n p) → refused_as r ≡ call (read_table ws)
read_refused ws r reads call f = refused_in (table_check ws) (table_of ws) r reads.answer call f
