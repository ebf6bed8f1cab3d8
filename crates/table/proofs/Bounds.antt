-- The number of a fault is one of 1 to 4, and its place is at most the table's length. Assumes nothing.
use mathlib.Core.Path.{◌≡◌, refl}
use mathlib.Core.Bool.{Bool, true, false}
use mathlib.Core.List.{List}
use Prim.Native.Nat.{ℕ, zero, suc, ◌+◌, ◌≤◌, zero-le}
use native.Mathlib.Omega.{arith}
use lib.Bits.{bit_or}
use lib.ListN.{length}
use borrow.Author.Tests.{leb-false}
use Rattle.words.specs.Outcome.{faulty}
use Rattle.words.proofs.Logic.{cases}
use Rattle.words.specs.Words.{word}
use Rattle.table.specs.Table.{Table, field_bits, condition_end, has_cycles, fields_place, entry_end, table_of}
use Rattle.table.specs.Check.{Check, fine, fault, ◌then◌, need, has, pattern_check, unmatching_check, unmatchings_check, condition_check, conditions_check, field_word, field_rule, field_check, fields_check, head_check, cycles_check, entry_check, entries_check, first_check, table_check, table_fault, reading, read_table}
use Rattle.table.proofs.Laws.{has_fits, head_fits}

-- no fault, or one of 1 to 4 whose place is at most n
unfoldable pub Near : ℕ → Check → Type 0
Near n fine = Unit {0}
Near n (fault number place) = (table_fault number ≡ true) × (place ≤ n)

near_then : (n : ℕ) (a b : Check) → Near n a → (a ≡ fine → Near n b) → Near n (a then b)
unfolding Near ◌then◌
near_then n fine b x f = f refl
near_then n (fault m p) b x f = x

near_need : (n : ℕ) (b : Bool) (m p : ℕ) → table_fault m ≡ true → (b ≡ false → p ≤ n) → Near n (need b m p)
unfolding Near need
near_need n true m p k f = tt
near_need n false m p k f = (k, f refl)

-- a need at a place that is near, and what comes after it
on : (n : ℕ) (b : Bool) (m p : ℕ) (rest : Check) → table_fault m ≡ true → p ≤ n → Near n rest → Near n (need b m p then rest)
on n b m p rest k h r = near_then _ _ _ (near_need _ _ _ _ k (λ t. h)) (λ t. r)

last : (n : ℕ) (b : Bool) (m p : ℕ) → table_fault m ≡ true → p ≤ n → Near n (need b m p)
last n b m p k h = near_need _ _ _ _ k (λ t. h)

module _ (ws : List ℕ) where
  -- what is checked of words that are there
  here : (p n : ℕ) (rest : Check) → (p + n ≤ length ws → Near (length ws) rest) → Near (length ws) (has ws p n then rest)
  here p n rest f = near_then _ _ _ (near_need _ _ _ _ refl (λ t. omega arith)) (λ e. f (has_fits ws p n e))

  module _ (own : ℕ) where
    near_pattern : (p : ℕ) → Near (length ws) (pattern_check ws own p)
    unfolding pattern_check
    near_pattern p = here p 2 _ (λ h. let l : p ≤ length ws = omega arith in on _ _ _ _ _ refl l (last _ _ _ _ refl l))

    near_unmatching : (p : ℕ) → Near (length ws) (unmatching_check ws own p)
    unfolding unmatching_check
    near_unmatching p = here p 1 _ (λ h. let l : p ≤ length ws = omega arith in on _ _ _ _ _ refl l (on _ _ _ _ _ refl l (near_pattern (p + 1))))

    near_unmatchings : (n p : ℕ) → Near (length ws) (unmatchings_check ws own n p)
    unfolding unmatchings_check Near
    near_unmatchings zero p = tt
    near_unmatchings (suc n) p = near_then _ _ _ (near_unmatching p) (λ e. near_unmatchings n (p + 3))

    near_condition : (p : ℕ) → Near (length ws) (condition_check ws own p)
    unfolding condition_check
    near_condition p =
        here p 1 _ (λ h. let l : p ≤ length ws = omega arith in
        on _ _ _ _ _ refl l (on _ _ _ _ _ refl l (on _ _ _ _ _ refl l (near_then _ _ _ (near_pattern (p + 1)) (λ e. near_unmatchings _ (p + 3))))))

    near_conditions : (n p : ℕ) → Near (length ws) (conditions_check ws own n p)
    unfolding conditions_check Near
    near_conditions zero p = tt
    near_conditions (suc n) p = near_then _ _ _ (near_condition p) (λ e. near_conditions n (condition_end ws p))

  module _ (width size : ℕ) where
    near_field : (used p : ℕ) → Near (length ws) (field_check ws width size used p)
    unfolding field_check field_word field_rule
    near_field used p =
        here p 1 _ (λ h. let l : p ≤ length ws = omega arith in
        near_then _ _ _ (on _ _ _ _ _ refl l (on _ _ _ _ _ refl l (last _ _ _ _ refl l)))
        (λ t. on _ _ _ _ _ refl l (on _ _ _ _ _ refl l (on _ _ _ _ _ refl l (last _ _ _ _ refl l)))))

    near_fields : (e used n p : ℕ) → e ≤ length ws → Near (length ws) (fields_check ws e width size used n p)
    unfolding fields_check
    near_fields e used zero p h = last _ _ _ _ refl h
    near_fields e used (suc n) p h = near_then _ _ _ (near_field used p) (λ t. near_fields e (bit_or used (field_bits (word ws p))) n (p + 1) h)

  module _ (width : ℕ) where
    near_head : (p : ℕ) → Near (length ws) (head_check ws width p)
    unfolding head_check
    near_head p =
        here p 1 _ (λ h. let l : p ≤ length ws = omega arith in
        on _ _ _ _ _ refl l (on _ _ _ _ _ refl l (on _ _ _ _ _ refl l (on _ _ _ _ _ refl l (last _ _ _ _ refl l)))))

    near_cycles : (p : ℕ) → Near (length ws) (cycles_check ws p)
    unfolding cycles_check Near
    near_cycles p = cases (has_cycles ws) (λ t. rw t (here (p + 3) 1 _ (λ h. last _ _ _ _ refl (omega arith)))) (λ t. rw t tt)

    near_entry : (p : ℕ) → Near (length ws) (entry_check ws width p)
    unfolding entry_check
    near_entry p =
        near_then _ _ _ (near_head p) (λ t. let l : p ≤ length ws = omega (arith, head_fits ws width p t) in
        near_then _ _ _ (near_pattern _ (p + 1)) (λ u. near_then _ _ _ (near_cycles p) (λ x.
        near_then _ _ _ (near_fields width _ p _ _ (fields_place ws p) l) (λ v. near_conditions _ _ _))))

    near_entries : (n p : ℕ) → Near (length ws) (entries_check ws width n p)
    unfolding entries_check
    near_entries zero p = near_need _ _ _ _ refl (λ t. omega (arith, leb-false (length ws) p t))
    near_entries (suc n) p = near_then _ _ _ (near_entry p) (λ e. near_entries n (entry_end ws p))

  near_first : Near 0 (first_check ws)
  unfolding first_check
  near_first =
      let l : 0 ≤ 0 = zero-le in
      on _ _ _ _ _ refl l (on _ _ _ _ _ refl l (on _ _ _ _ _ refl l (on _ _ _ _ _ refl l (on _ _ _ _ _ refl l (on _ _ _ _ _ refl l (last _ _ _ _ refl l))))))

-- the place of a fault
near_place : (n : ℕ) (v : Check) (a b : ℕ) → Near n v → v ≡ fault a b → b ≤ n
unfolding Near
near_place n v a b x e = (rw e at x).1

pub first_place : (ws : List ℕ) (a b : ℕ) → first_check ws ≡ fault a b → b ≤ 0
first_place ws a b e = near_place _ _ a b (near_first ws) e

pub entries_place : (ws : List ℕ) (width n p a b : ℕ) → entries_check ws width n p ≡ fault a b → b ≤ length ws
entries_place ws width n p a b e = near_place _ _ a b (near_entries ws width n p) e

near_more : (n : ℕ) (v : Check) → Near 0 v → Near n v
unfolding Near
near_more n fine x = tt
near_more n (fault m p) x = (x.0, omega (arith, x.1))

-- of a table: a place in it, or its length
pub table_place : (ws : List ℕ) (a b : ℕ) → table_check ws ≡ fault a b → b ≤ length ws
unfolding table_check
table_place ws a b e = near_place _ _ a b (near_then _ _ _ (near_more _ _ (near_first ws)) (λ t. near_entries ws _ _ 1)) e

-- of reading: its refusals are a table's own faults
near_number : (n : ℕ) (v : Check) (a b : ℕ) → Near n v → v ≡ fault a b → table_fault a ≡ true
unfolding Near
near_number n v a b x e = (rw e at x).0

fault_is : (v : Check) (t : Table) (a b : ℕ) → reading v t ≡ faulty a b → v ≡ fault a b
fault_is fine t a b e = absurd (let z : ◌≡◌ {A = ℕ} 0 1 = cc in omega arith)
fault_is (fault m p) t a b e = cc

pub read_fault : (ws : List ℕ) (a b : ℕ) → read_table ws ≡ faulty a b → table_fault a ≡ true
unfolding table_check
read_fault ws a b e =
    near_number (length ws) (table_check ws) a b (near_then _ _ _ (near_more _ _ (near_first ws)) (λ t. near_entries ws _ _ 1)) (fault_is (table_check ws) (table_of ws) a b e)
