-- A table reads without fault exactly when its words are those of a lawful table. Assumes nothing.
--     readable_exactly     the tests that reading makes, and the rules
--     reads_exactly     words of 32 bits read as a table exactly when they are the words of it, and it is lawful
--     fine_exactly     they read without fault exactly when they are the words of some lawful table
use Prim.Native.Nat.{ℕ}
use mathlib.Core.Path.{◌≡◌, ap, ◌∙◌}
use mathlib.Core.Bool.{true}
use mathlib.Core.List.{List}
use mathlib.Core.Logic.{◌↔◌, ◌⊎◌, ⊎_elim, inl, inr}
use lib.Dec.{eqb}
use borrow.Author.Tests.{eqb-true}
use Rattle.words.specs.Tests.{◌or◌}
use Rattle.words.specs.Words.{word}
use Rattle.words.specs.Outcome.{result}
use Rattle.words.proofs.Logic.{cases, all_of_at, all_of_make}
use Rattle.table.specs.Table.{Entry, Table, entry_number, kind_of, table_of}
use Rattle.table.specs.Check.{fine, table_check, read_table}
use Rattle.table.proofs.Views.{read_is}
use Rattle.layout.specs.Layout.{table_words}
use Rattle.layout.specs.Readable.{good_kind, lawful, Readable, Small}
use Rattle.layout.specs.Rules.{TableRule}
use Rattle.layout.proofs.Covering.{entry_rule}
use Rattle.layout.proofs.OneToOne.{laid_out, read_readable, reads_back}

known_kind : (kind : ℕ) → (good_kind kind ≡ true) ↔ ((kind ≡ 1) ⊎ (kind ≡ 6))
unfolding good_kind ◌or◌
known_kind kind = (
  λ g. cases (eqb kind 1) (λ t. inl (eqb-true kind 1 t)) (λ t. inr (eqb-true kind 6 (rw t at g))),
  ⊎_elim (λ k. rw k) (λ k. rw k),
)

-- what reading asks of kind, width and entries is what the rules say
pub readable_exactly : (kind width : ℕ) (es : List Entry) → Readable kind width es ↔ TableRule kind width es
readable_exactly kind width es = (
  λ r.
      let known = (known_kind kind).0 r.known in
      record {
        kinds = known;
        some = r.some;
        most = r.wide;
        few = r.few;
        short = r.short;
        each = λ k h. (entry_rule kind width known (entry_number es k)).0 (all_of_at _ (lawful kind width) es r.each k h);
      },
  λ r. record {
    known = (known_kind kind).1 r.kinds;
    some = r.some;
    wide = r.most;
    few = r.few;
    short = r.short;
    each = all_of_make _ (lawful kind width) es (λ k h. (entry_rule kind width r.kinds (entry_number es k)).1 (r.each k h));
  },
)

-- "32-bit words"
module _ (ws : List ℕ) (s : Small ws) where
  -- they read as a table exactly when they are the words of its width and entries, of some kind, and these follow the rules
  pub reads_exactly : (t : Table) → (read_table ws ≡ result t) ↔ ((kind : ℕ) × TableRule kind t.width t.entries × (ws ≡ table_words kind t.width t.entries))
  reads_exactly t = (
    λ r. (kind_of (word ws 0), (readable_exactly _ _ _).0 (read_readable ws t r s), laid_out ws t r s),
    λ r. ap read_table r.2 ∙ reads_back ((readable_exactly r.0 t.width t.entries).1 r.1),
  )

  -- "A table reads without fault when none of 1–4 applies": exactly when its words are those of a lawful table
  pub fine_exactly : (table_check ws ≡ fine) ↔ ((kind : ℕ) × (t : Table) × TableRule kind t.width t.entries × (ws ≡ table_words kind t.width t.entries))
  fine_exactly = (
    λ e. let r = (reads_exactly (table_of ws)).0 (rw e) in (r.0, table_of ws, r.1, r.2),
    λ r. (read_is ws r.1 ((reads_exactly r.1).1 (r.0, r.2, r.3))).0,
  )
