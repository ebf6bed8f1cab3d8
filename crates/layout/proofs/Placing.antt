-- Where the words of each entry stand in a table without fault, for code that copies them. Assumes nothing.
--     entry_stands, last_place     entry k, from its place up to the next; the place after the last one is the table's end
--     entries_words_lem, front_words, rest_words     the words of entries i to j, of those before entry k, of those from entry k on
--     one_more, entry_as, entry_spans     a turn of a loop that copies entries; an entry as one of a table of any kind, and where its parts stand
--     without_words, append_words     the tables that lack an entry, or have another's entries after their own
use mathlib.Core.Path.{◌≡◌, refl, sym, ap, ap₂, ◌∙◌}
use mathlib.Core.Bool.{cond}
use mathlib.Core.List.{List, [], ◌∷◌, ◌++◌, append-nil}
use Prim.Native.Nat.{ℕ, zero, suc, ◌+◌, ◌-◌, ◌≤◌, ◌<◌, zero-le}
use native.Mathlib.Nat.{zero-add, add-zero, add-suc}
use native.Mathlib.Omega.{arith}
use lib.Dec.{eqb}
use lib.ListN.{length, take, drop, get_or, length-take, length-drop}
use lib.Seq.{take-suc, take_all, take-length, length-take-le, drop-append-le, slice, slice_empty}
use Rattle.words.specs.Words.{word}
use Rattle.words.proofs.Logic.{cases}
use Rattle.table.specs.Table.{Entry, kind_of, width_of, count_of, has_cycles, fields_place, table_of, entry_at, entry_place}
use Rattle.table.specs.Check.{fine, table_check, entries_check}
use Rattle.table.proofs.Laws.{then_l, then_r, length_entries, first_some}
use Rattle.table.proofs.Views.{entry_check_lem, entry_at_lem}
use Rattle.layout.specs.Layout.{all_words, pattern_words, fields_words, conditions_words, cycles_words, entry_head, entry_words, entries_words, table_head, table_words}
use Rattle.layout.specs.Readable.{Small}
use Rattle.layout.proofs.Standing.{Stands, done, joined, parted, here, ends_at, within, slice_is}
use Rattle.layout.proofs.Laying.{entry_laid, entries_laid}
use Rattle.layout.proofs.Lengths.{words_append, cycles_length, table_append}

-- the words of one entry more
pub one_more : (kind : ℕ) (es : List Entry) (k : ℕ) (d : Entry) → k < length es
    → entries_words kind (take (suc k) es) ≡ entries_words kind (take k es) ++ entry_words kind (get_or es k d)
unfolding all_words
one_more kind es k d h = rw (take-suc es k d h, words_append, append-nil) refl

-- an entry's fields stand after its cycles
fields_from : (ws : List ℕ) (p : ℕ) → fields_place ws p ≡ p + 3 + cond (eqb (kind_of (word ws 0)) 6) 1 0
unfolding fields_place has_cycles
fields_from ws p = cases (eqb (kind_of (word ws 0)) 6) (λ t. rw t (omega arith)) (λ t. rw t (omega arith))

module _ (ws : List ℕ) (s : Small ws) (e : table_check ws ≡ fine) where
  entries_fine : entries_check ws (width_of (word ws 0)) (count_of (word ws 0)) 1 ≡ fine
  unfolding table_check
  entries_fine = then_r _ _ e

  abbrev es : List Entry
  es = (table_of ws).entries

  long : length es ≡ count_of (word ws 0)
  long = length_entries ws (count_of (word ws 0)) 1

  -- entry k, from its place up to the next
  pub entry_stands : (k : ℕ) (d : Entry) → k < count_of (word ws 0) → Stands ws (entry_place ws k) (entry_words (kind_of (word ws 0)) (get_or es k d)) (entry_place ws (suc k))
  unfolding entry_place
  entry_stands k d h =
      rw (entry_at_lem ws (width_of (word ws 0)) k (count_of (word ws 0)) d h)
      ((entry_laid ws _ (entry_place ws k) (entry_check_lem ws _ k (count_of (word ws 0)) entries_fine h)).stands s)

  -- where its first three words, its cycles, and what follows from its fields on stand
  three_stand : (k : ℕ) (d : Entry) → k < count_of (word ws 0)
      → Stands ws (entry_place ws k) (entry_head (get_or es k d) ∷ pattern_words (get_or es k d).opcode) (entry_place ws k + 3)
      × Stands ws (fields_place ws (entry_place ws k)) (fields_words (get_or es k d).fields ++ conditions_words (get_or es k d).conditions) (entry_place ws (suc k))
  unfolding entry_words pattern_words
  three_stand k d h =
      let x : Entry = get_or es k d in
      let p : ℕ = entry_place ws k in
      let c = parted (entry_head x ∷ pattern_words x.opcode) (entry_stands k d h) in
      let b = parted (cycles_words (kind_of (word ws 0)) x) c.2 in
      let at : c.0 ≡ p + 3 = ends_at c.1 in
      let on : b.0 ≡ fields_place ws p = omega (arith, fields_from ws p, cycles_length (kind_of (word ws 0)) x, ends_at b.1, at) in
      (rw at at c.1, rw on at b.2)

  -- entry k, in a table of any kind: its first three words, its cycles where that has them, and what follows from its fields on
  pub entry_as : (kind k : ℕ) (d : Entry) → k < count_of (word ws 0)
      → entry_words kind (get_or es k d)
      ≡ slice (entry_place ws k) (entry_place ws k + 3) ws
      ++ (cycles_words kind (entry_at ws (entry_place ws k)) ++ slice (fields_place ws (entry_place ws k)) (entry_place ws (suc k)) ws)
  unfolding entry_words pattern_words
  entry_as kind k d h =
      let t = three_stand k d h in
      let own : get_or es k d ≡ entry_at ws (entry_place ws k) = entry_at_lem ws (width_of (word ws 0)) k (count_of (word ws 0)) d h in
      ap₂ (λ (y z : List ℕ). y ++ z) (sym (slice_is t.0)) (ap₂ (λ (y z : List ℕ). y ++ z) (ap (cycles_words kind) own) (sym (slice_is t.1)))

  -- its words are there, its first three before its fields
  pub entry_spans : (k : ℕ) → k < count_of (word ws 0)
      → (entry_place ws k + 3 ≤ fields_place ws (entry_place ws k)) × (fields_place ws (entry_place ws k) ≤ entry_place ws (suc k)) × (entry_place ws (suc k) ≤ length ws)
  entry_spans k h =
      let p : ℕ = entry_place ws k in
      let t = three_stand k (entry_at ws 1) h in
      let s = here t.0 in
      (omega (arith, fields_from ws p), omega (arith, ends_at t.1), within (entry_stands k (entry_at ws 1) h) (omega (arith, s.0)))

  -- n entries from entry i on
  entries_stand : (i n : ℕ) → i + n ≤ count_of (word ws 0) → Stands ws (entry_place ws i) (entries_words (kind_of (word ws 0)) (slice i (i + n) es)) (entry_place ws (i + n))
  unfolding all_words
  entries_stand i zero h = rw (add-zero, slice_empty i es) (done refl)
  entries_stand i (suc n) h =
      let one : slice i (suc (i + n)) es ≡ slice i (i + n) es ++ (get_or es (i + n) (entry_at ws 1) ∷ []) =
      ap (drop i) (take-suc es (i + n) (entry_at ws 1) (omega (arith, long)))
      ∙ drop-append-le i (take (i + n) es) _ (omega (arith, length-take-le (i + n) es (omega (arith, long)))) in
      rw (add-suc, one, words_append, append-nil) (joined (entries_stand i n (omega arith)) (entry_stands (i + n) (entry_at ws 1) (omega arith)))

  -- entries i to j
  pub entries_words_lem : (i j : ℕ) → i ≤ j → j ≤ count_of (word ws 0) → slice (entry_place ws i) (entry_place ws j) ws ≡ entries_words (kind_of (word ws 0)) (slice i j es)
  entries_words_lem i j h l =
      let at : i + (j - i) ≡ j = omega arith in
      slice_is (rw at at (entries_stand i (j - i) (omega arith)))

  -- those before entry k
  pub front_words : (k : ℕ) → k ≤ count_of (word ws 0) → slice 1 (entry_place ws k) ws ≡ entries_words (kind_of (word ws 0)) (take k es)
  unfolding entry_place
  front_words k h = entries_words_lem 0 k zero-le h

  -- the last one ends where the table does
  pub last_place : entry_place ws (count_of (word ws 0)) ≡ length ws
  unfolding table_check entry_place
  last_place =
      let n : ℕ = count_of (word ws 0) in
      let r = entries_laid ws _ n 1 entries_fine in
      let front = rw (zero-add, take_all n es (omega (arith, long))) at (entries_stand 0 n (omega arith)) in
      let at : entry_place ws n ≡ r.0 = ends_at front ∙ sym (ends_at (r.2.stands s)) in
      omega (arith, at, r.1, within (r.2.stands s) (first_some ws (then_l _ _ e)))

  -- those from entry k on
  pub rest_words : (k : ℕ) → k ≤ count_of (word ws 0) → drop (entry_place ws k) ws ≡ entries_words (kind_of (word ws 0)) (drop k es)
  rest_words k h =
      ap (drop (entry_place ws k)) (sym (take-length ws))
      ∙ ap (λ (n : ℕ). slice (entry_place ws k) n ws) (sym last_place)
      ∙ entries_words_lem k (count_of (word ws 0)) h (omega arith)
      ∙ ap (λ (x : List Entry). entries_words (kind_of (word ws 0)) (drop k x)) (take_all (count_of (word ws 0)) es (omega (arith, long)))

-- what is written for a table without entry k, from its words
module _ (ws : List ℕ) (s : Small ws) (e : table_check ws ≡ fine) (k : ℕ) (h : k < count_of (word ws 0)) where
  pub without_words : table_words (kind_of (word ws 0)) (table_of ws).width (take k (table_of ws).entries ++ drop (k + 1) (table_of ws).entries)
      ≡ table_head (kind_of (word ws 0)) (table_of ws).width (count_of (word ws 0) - 1) ∷ (slice 1 (entry_place ws k) ws ++ drop (entry_place ws (k + 1)) ws)
  without_words =
      let es : List Entry = (table_of ws).entries in
      let n : length (take k es) + length (drop (k + 1) es) ≡ count_of (word ws 0) - 1 = simp (length-take, length-drop, length_entries) (omega arith) in
      table_append (kind_of (word ws 0)) (table_of ws).width (take k es) (drop (k + 1) es)
      ∙ rw (n, front_words ws s e k (omega arith), rest_words ws s e (k + 1) (omega arith))

-- what is written for two tables of one kind in a row
pub append_words : (ws vs : List ℕ) → Small ws → Small vs → table_check ws ≡ fine → table_check vs ≡ fine → kind_of (word ws 0) ≡ kind_of (word vs 0)
    → table_words (kind_of (word ws 0)) (table_of ws).width ((table_of ws).entries ++ (table_of vs).entries)
    ≡ table_head (kind_of (word ws 0)) (table_of ws).width (count_of (word ws 0) + count_of (word vs 0)) ∷ (drop 1 ws ++ drop 1 vs)
unfolding entry_place
append_words ws vs s t e f k =
    table_append (kind_of (word ws 0)) (table_of ws).width (table_of ws).entries (table_of vs).entries
    ∙ rw (length_entries ws (count_of (word ws 0)) 1, length_entries vs (count_of (word vs 0)) 1, rest_words ws s e 0 zero-le, rest_words vs t f 0 zero-le, k)
