-- The entries of a table without fault are good: every mask lies below 2 ^ width and in its entry's own bits, every value in its mask.
-- Assumes nothing.
use mathlib.Core.Path.{◌≡◌, refl}
use mathlib.Core.Bool.{Bool, true}
use mathlib.Core.List.{List}
use Prim.Native.Nat.{ℕ, zero, suc, ◌+◌, ◌-◌, ◌≤◌, ◌<◌, ◌^◌}
use native.Mathlib.Omega.{arith}
use borrow.Author.Tests.{lt-ltb}
use Rattle.words.specs.Words.{word, includes}
use Rattle.words.specs.Tests.{◌and◌, all_of}
use Rattle.words.proofs.Logic.{and_i}
use Rattle.words.proofs.Bits.{includes_le}
use Rattle.words.proofs.Parts.{run_lt}
use Rattle.table.specs.Table.{Entry, Condition, Pattern, pattern_at, unmatching_at, condition_at, conditions_at, condition_end, size_of, opcode_place, entry_at, entry_end, entries_at, own_bits, table_of}
use Rattle.table.specs.Check.{fine, pattern_check, unmatching_check, unmatchings_check, condition_check, conditions_check, entry_check, entries_check, table_check}
use Rattle.table.specs.Lawful.{good_pattern, good_condition, good_entry, good_table, own_pattern, own_condition, own_entry}
use Rattle.table.proofs.Laws.{then_l, then_r, need_true, head_below}

-- the own bits are below the width
pub own_lt : (width size : ℕ) → size ≤ width → own_bits width size < 2 ^ width
own_lt width size h = run_lt width (width - size) size (omega arith)

module _ (ws : List ℕ) (width own : ℕ) (o : own < 2 ^ width) where
  own_pattern_lem : (p : ℕ) → pattern_check ws own p ≡ fine → own_pattern own (pattern_at ws p) ≡ true
  unfolding pattern_check own_pattern
  own_pattern_lem p e = need_true _ _ _ (then_l _ _ (then_r _ _ e))

  good_pattern_lem : (p : ℕ) → pattern_check ws own p ≡ fine → good_pattern width (pattern_at ws p) ≡ true
  unfolding pattern_check good_pattern
  good_pattern_lem p e =
      let m : includes own (word ws p) ≡ true = need_true _ _ _ (then_l _ _ (then_r _ _ e)) in
      let l : word ws p < 2 ^ width = omega (arith, includes_le own (word ws p) m) in
      and_i (lt-ltb _ _ l) (need_true _ _ _ (then_r _ _ (then_r _ _ e)))

  -- what a pattern without fault shows, a condition without fault shows of all its patterns
  module _ (q : Pattern → Bool) (f : (p : ℕ) → pattern_check ws own p ≡ fine → q (pattern_at ws p) ≡ true) where
    each_unmatching : (n p : ℕ) → unmatchings_check ws own n p ≡ fine → all_of q (unmatching_at ws n p) ≡ true
    unfolding unmatchings_check unmatching_check unmatching_at all_of
    each_unmatching zero p e = refl
    each_unmatching (suc n) p e = and_i (f (p + 1) (then_r _ _ (then_r _ _ (then_r _ _ (then_l _ _ e))))) (each_unmatching n (p + 3) (then_r _ _ e))

    each_pattern : (p : ℕ) → condition_check ws own p ≡ fine → q (condition_at ws p).matching and all_of q (condition_at ws p).unmatching ≡ true
    unfolding condition_check
    each_pattern p e =
        let t = then_r _ _ (then_r _ _ (then_r _ _ (then_r _ _ e))) in
        and_i (f (p + 1) (then_l _ _ t)) (each_unmatching _ (p + 3) (then_r _ _ t))

  each_condition : (q : Condition → Bool) → ((p : ℕ) → condition_check ws own p ≡ fine → q (condition_at ws p) ≡ true) → (n p : ℕ)
      → conditions_check ws own n p ≡ fine → all_of q (conditions_at ws n p) ≡ true
  unfolding conditions_check conditions_at all_of
  each_condition q f zero p e = refl
  each_condition q f (suc n) p e = and_i (f p (then_l _ _ e)) (each_condition q f n (condition_end ws p) (then_r _ _ e))

  good_condition_lem : (p : ℕ) → condition_check ws own p ≡ fine → good_condition width (condition_at ws p) ≡ true
  unfolding good_condition
  good_condition_lem p e = each_pattern (good_pattern width) good_pattern_lem p e

  own_condition_lem : (p : ℕ) → condition_check ws own p ≡ fine → own_condition own (condition_at ws p) ≡ true
  unfolding own_condition
  own_condition_lem p e = each_pattern (own_pattern own) own_pattern_lem p e

module _ (ws : List ℕ) (width : ℕ) where
  module _ (p : ℕ) (e : entry_check ws width p ≡ fine) where
    below : own_bits width (size_of (word ws p)) < 2 ^ width
    unfolding entry_check
    below = own_lt width (size_of (word ws p)) (head_below ws width p (then_l _ _ e))

    pub good_entry_lem : good_entry width (entry_at ws p) ≡ true
    unfolding entry_check good_entry
    good_entry_lem =
        let t = then_r _ _ e in
        and_i (good_pattern_lem ws width _ below (opcode_place ws p) (then_l _ _ t))
        (each_condition ws width _ below (good_condition width) (good_condition_lem ws width _ below) _ _ (then_r _ _ (then_r _ _ (then_r _ _ t))))

    pub own_entry_lem : own_entry width (entry_at ws p) ≡ true
    unfolding entry_check own_entry
    own_entry_lem =
        let t = then_r _ _ e in
        and_i (own_pattern_lem ws width _ below (opcode_place ws p) (then_l _ _ t))
        (each_condition ws width _ below (own_condition _) (own_condition_lem ws width _ below) _ _ (then_r _ _ (then_r _ _ (then_r _ _ t))))

  each_entry : (q : Entry → Bool) → ((p : ℕ) → entry_check ws width p ≡ fine → q (entry_at ws p) ≡ true) → (n p : ℕ)
      → entries_check ws width n p ≡ fine → all_of q (entries_at ws n p) ≡ true
  unfolding entries_check entries_at all_of
  each_entry q f zero p e = refl
  each_entry q f (suc n) p e = and_i (f p (then_l _ _ e)) (each_entry q f n (entry_end ws p) (then_r _ _ e))

  pub good_entries : (n p : ℕ) → entries_check ws width n p ≡ fine → good_table width (entries_at ws n p) ≡ true
  unfolding good_table
  good_entries n p e = each_entry (good_entry width) good_entry_lem n p e

-- of a table without fault
module _ (ws : List ℕ) (e : table_check ws ≡ fine) where
  pub table_good : good_table (table_of ws).width (table_of ws).entries ≡ true
  unfolding table_check
  table_good = good_entries ws _ _ 1 (then_r _ _ e)

  pub table_own : all_of (own_entry (table_of ws).width) (table_of ws).entries ≡ true
  unfolding table_check
  table_own = each_entry ws _ (own_entry _) (own_entry_lem ws _) _ 1 (then_r _ _ e)
