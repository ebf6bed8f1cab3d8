-- How many words entries have: of a list, of two in a row, of a list less one entry, of a list as kind 6. Assumes nothing.
--     entry_length, entries_length, table_length     of an entry, of a list of entries, of a table
--     table_append, append_length     of two lists in a row
--     without_length     of a list less one entry
--     costed_length     of a kind 1 table as kind 6
use mathlib.Core.Path.{◌≡◌, refl, sym, ap₂, ◌∙◌}
use mathlib.Core.Bool.{cond}
use mathlib.Core.List.{List, [], ◌∷◌, ◌++◌, append_assoc}
use Prim.Native.Nat.{ℕ, zero, suc, ◌+◌, ◌*◌, ◌<◌}
use native.Mathlib.Nat.{suc-mul}
use native.Mathlib.Numerals.{add-one}
use native.Mathlib.Omega.{arith}
use lib.Dec.{eqb}
use lib.ListN.{length, take, drop, get_or, length-append}
use Rattle.words.proofs.Logic.{cases}
use Rattle.table.specs.Table.{Field, Condition, Entry}
use Rattle.layout.specs.Layout.{cycles_words, all_words, pattern_words, field_head, unmatched_words, condition_words, entry_words, entries_words, table_head, table_words, total, entry_size}

-- ---- lists

module _ {A : Type 0} where
  pub words_append : (f : A → List ℕ) (xs ys : List A) → all_words f (xs ++ ys) ≡ all_words f xs ++ all_words f ys
  unfolding all_words
  words_append f [] ys = refl
  words_append f (x ∷ xs) ys = rw (words_append f xs ys) (sym (append_assoc (f x) (all_words f xs) (all_words f ys)))

  pub words_length : (f : A → List ℕ) (n : A → ℕ) → ((x : A) → length (f x) ≡ n x) → (xs : List A) → length (all_words f xs) ≡ total n xs
  unfolding all_words total
  words_length f n e [] = refl
  words_length f n e (x ∷ xs) = length-append (f x) (all_words f xs) ∙ ap₂ ◌+◌ (e x) (words_length f n e xs)

  words_times : (f : A → List ℕ) (c : ℕ) → ((x : A) → length (f x) ≡ c) → (xs : List A) → length (all_words f xs) ≡ length xs * c
  unfolding all_words
  words_times f c e [] = omega arith
  words_times f c e (x ∷ xs) = omega (arith, length-append (f x) (all_words f xs), e x, words_times f c e xs, suc-mul (length xs) c)

  pub total_append : (n : A → ℕ) (xs ys : List A) → total n (xs ++ ys) ≡ total n xs + total n ys
  unfolding total
  total_append n [] ys = omega arith
  total_append n (x ∷ xs) ys = omega (arith, total_append n xs ys)

  -- one item less
  total_without : (n : A → ℕ) (xs : List A) (k : ℕ) (d : A) → k < length xs → total n (take k xs ++ drop (suc k) xs) + n (get_or xs k d) ≡ total n xs
  unfolding total
  total_without n [] k d h = absurd (omega arith)
  total_without n (x ∷ xs) zero d h = omega arith
  total_without n (x ∷ xs) (suc k) d h = omega (arith, total_without n xs k d (omega arith))

-- ---- how many words

condition_length : (k : Condition) → length (condition_words k) ≡ 3 + 3 * length k.unmatching
unfolding condition_words pattern_words unmatched_words
condition_length k = omega (arith, words_times unmatched_words 3 (λ x. refl) k.unmatching)

pub cycles_length : (kind : ℕ) (e : Entry) → length (cycles_words kind e) ≡ cond (eqb kind 6) 1 0
unfolding cycles_words
cycles_length kind e = cases (eqb kind 6) (λ t. rw t) (λ t. rw t)

pub entry_length : (kind : ℕ) (e : Entry) → length (entry_words kind e) ≡ entry_size kind e
unfolding entry_words pattern_words entry_size
entry_length kind e =
    simp length-append (omega (arith, cycles_length kind e, words_times (λ (f : Field). field_head f ∷ []) 1 (λ f. refl) e.fields, words_length condition_words (λ (k : Condition). 3 + 3 * length k.unmatching) condition_length e.conditions))

-- of a list of entries
pub entries_length : (kind : ℕ) (es : List Entry) → length (entries_words kind es) ≡ total (entry_size kind) es
entries_length kind es = words_length (entry_words kind) (entry_size kind) (entry_length kind) es

module _ (kind width : ℕ) where
  pub table_length : (es : List Entry) → length (table_words kind width es) ≡ 1 + total (entry_size kind) es
  unfolding table_words
  table_length es = omega (arith, entries_length kind es)

  -- two lists in a row
  pub table_append : (es fs : List Entry) → table_words kind width (es ++ fs) ≡ table_head kind width (length es + length fs) ∷ (entries_words kind es ++ entries_words kind fs)
  unfolding table_words
  table_append es fs = ap₂ (λ (n : ℕ) (vs : List ℕ). table_head kind width n ∷ vs) (length-append es fs) (words_append (entry_words kind) es fs)

  pub append_length : (es fs : List Entry) → length (table_words kind width (es ++ fs)) + 1 ≡ length (table_words kind width es) + length (table_words kind width fs)
  append_length es fs = omega (arith, table_length (es ++ fs), table_length es, table_length fs, total_append (entry_size kind) es fs)

  -- one entry less
  pub without_length : (es : List Entry) (k : ℕ) (d : Entry) → k < length es
      → length (table_words kind width (take k es ++ drop (k + 1) es)) + entry_size kind (get_or es k d) ≡ length (table_words kind width es)
  without_length es k d h =
      rw (add-one k) (omega (arith, table_length es, table_length (take k es ++ drop (suc k) es), total_without (entry_size kind) es k d h))

-- as kind 6: a word more for each entry
costed_total : (es : List Entry) → total (entry_size 6) es ≡ total (entry_size 1) es + length es
unfolding total entry_size
costed_total [] = refl
costed_total (e ∷ es) = omega (arith, costed_total es)

pub costed_length : (width : ℕ) (es : List Entry) → length (table_words 6 width es) ≡ length (table_words 1 width es) + length es
costed_length width es = omega (arith, table_length 1 width es, table_length 6 width es, costed_total es)
