-- A table's words and its meaning are one_to_one. Assumes nothing.
--     read_lawful, read_readable     what reading finds of the entries
--     laid_out     the words of a table that reads are those of its kind, width and entries
--     reads_back, kind_back, means     the words of readable entries read as these entries, and have their kind
--     one_to_one, only_words     two tables that read and mean the same have the same words
use mathlib.Core.Path.{◌≡◌, sym, ap, ◌∙◌}
use mathlib.Core.Bool.{true}
use mathlib.Core.List.{List, []}
use Prim.Native.Nat.{ℕ}
use native.Mathlib.Omega.{arith}
use Rattle.words.specs.Tests.{all_of}
use Rattle.words.specs.Words.{word}
use Rattle.words.specs.Outcome.{result}
use Rattle.table.specs.Table.{Entry, Table, kind_of, count_of, table_of}
use Rattle.table.specs.Check.{fine, read_table, first_check, table_check}
use Rattle.table.proofs.Laws.{then_l, then_r, need_true, first_some, first_short, first_count, first_wide, first_width, length_entries}
use Rattle.table.proofs.Views.{read_is}
use Rattle.layout.specs.Layout.{table_words}
use Rattle.layout.specs.Readable.{Small, good_kind, lawful, Readable, Means}
use Rattle.layout.proofs.Standing.{next, the_rest, standing}
use Rattle.layout.proofs.Laying.{entries_laid, first_laid}
use Rattle.layout.proofs.Rereading.{first_back, table_back}
use Rattle.layout.proofs.Fitting.{words_small}

module _ (ws : List ℕ) (e : table_check ws ≡ fine) where
  fine_lawful : all_of (lawful (kind_of (word ws 0)) (table_of ws).width) (table_of ws).entries ≡ true
  unfolding table_check
  fine_lawful = (entries_laid ws _ _ 1 (then_r _ _ e)).2.passes

  fine_laid : Small ws → ws ≡ table_words (kind_of (word ws 0)) (table_of ws).width (table_of ws).entries
  unfolding table_check table_words
  fine_laid s =
      let r = entries_laid ws _ _ 1 (then_r _ _ e) in
      let f = then_l _ _ e in
      the_rest (next {p = 0} (first_some ws f) (first_laid ws _ f (length_entries ws _ 1) s) (r.2.stands s)) r.1

  fine_readable : Small ws → Readable (kind_of (word ws 0)) (table_of ws).width (table_of ws).entries
  unfolding table_check first_check good_kind
  fine_readable s =
      let f = then_l _ _ e in
      record {
        known = need_true _ _ _ (then_l _ _ (then_r _ _ (then_r _ _ f)));
        some = first_wide ws f;
        wide = first_width ws f;
        few = omega (arith, length_entries ws (count_of (word ws 0)) 1, first_count ws f);
        short = rw (← fine_laid s) (first_short ws f);
        each = fine_lawful;
      }

-- from words to what they say
module _ (ws : List ℕ) (t : Table) (reads : read_table ws ≡ result t) where
  pub read_lawful : all_of (lawful (kind_of (word ws 0)) t.width) t.entries ≡ true
  read_lawful = let (e, m) = read_is ws t reads in rw (← m) (fine_lawful ws e)

  module _ (s : Small ws) where
    pub laid_out : ws ≡ table_words (kind_of (word ws 0)) t.width t.entries
    laid_out = let (e, m) = read_is ws t reads in fine_laid ws e s ∙ ap (λ (x : Table). table_words (kind_of (word ws 0)) x.width x.entries) m

    pub read_readable : Readable (kind_of (word ws 0)) t.width t.entries
    read_readable = let (e, m) = read_is ws t reads in rw (← m) (fine_readable ws e s)

-- and back
module _ {kind width : ℕ} {es : List Entry} (r : Readable kind width es) where
  pub reads_back : read_table (table_words kind width es) ≡ result (record { width = width; entries = es })
  reads_back = table_back (table_words kind width es) width r.wide kind es r (standing [] (table_words kind width es))

  pub kind_back : kind_of (word (table_words kind width es) 0) ≡ kind
  kind_back = (first_back (table_words kind width es) width r.wide kind es r (standing [] (table_words kind width es))).kind

  pub means : Means kind width es (table_words kind width es)
  means = record { small = words_small r; kind_is = kind_back; reads = reads_back }

pub one_to_one : (ws vs : List ℕ) (t : Table) → Small ws → Small vs → read_table ws ≡ result t → read_table vs ≡ result t → kind_of (word ws 0) ≡ kind_of (word vs 0) → ws ≡ vs
one_to_one ws vs t s r e f k = laid_out ws t e s ∙ ap (λ (x : ℕ). table_words x t.width t.entries) k ∙ sym (laid_out vs t f r)

-- what means entries is their words
pub only_words : {kind width : ℕ} {es : List Entry} {ws : List ℕ} → Means kind width es ws → ws ≡ table_words kind width es
only_words {kind} {width} {es} {ws} m = laid_out ws _ m.reads m.small ∙ ap (λ (x : ℕ). table_words x width es) m.kind_is
