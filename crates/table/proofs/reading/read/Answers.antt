use Rattle.std.specs.Prelude.{Result, Ok, Err, IsErrAnd}
use Rattle.words.specs.Outcome.{number_of}
use Rattle.words.specs.declared.Fault.{Fault}
use Rattle.words.specs.declared.Refusal.{Refusal}
use Rattle.words.specs.declared.Refusal.TheVariants.{Faulty}
use Rattle.words.proofs.Parts.{part_of}
use Rattle.table.specs.declared.Table.{Table}
use Rattle.table.specs.Check.{fault, table_check}
use Rattle.table.specs.Answer.{Reads}
use Rattle.table.proofs.Laws.{first_short, first_count, first_width, table_first, table_rest, refuses, accepts, accepts_places}
use mathlib.Core.List.{List}
use mathlib.Core.Path.{◌≡◌, refl, sym, ◌∙◌}
use borrow.Author.Tests.{lt-ltb}
use Prim.Native.Nat.{ℕ}
use Rattle.table.proofs.reading.read.Goals as goal

refused_by : (ws : List ℕ) (r : Result Table Refusal) (f : Fault) (p : ℕ) → IsErrAnd r (λ y. y ≡ Faulty f p) → table_check ws ≡ fault (number_of f) p → Reads ws r
refused_by ws (Ok t) f p h e = absurd h
refused_by ws (Err y) f p h e = record { answer = rw h (refuses ws _ _ e); places = tt; words = tt }

pub returns-in_err-first_word : goal.returns-in_err-first_word
returns-in_err-first_word c = refused_by _ _ _ _ c.from_residual.ensures.1 (table_first _ _ _ (sym c.in_err-first_word.ensures))

pub invariant_of-entries : goal.invariant_of-entries
invariant_of-entries c =
    let f = sym c.in_ok-first_word.ensures in
    record { small = (first_short _ f, rw (c.part-width.ensures, c.word_at-w.ensures) (first_width _ f)) }

pub entries-requires : goal.entries-requires
entries-requires c = rw (c.part-count.ensures, c.word_at-w.ensures) (first_count _ (sym c.in_ok-first_word.ensures))

pub returns-in_err-places : goal.returns-in_err-places
returns-in_err-places c =
    refused_by _ _ _ _ c.from_residual-in_err-places.ensures.1
    (table_rest _ _ _ (sym c.in_ok-first_word.ensures) (part_of _ _ _ 0 8 c.part-width.ensures c.word_at-w.ensures) (part_of _ _ _ 16 12 c.part-count.ensures c.word_at-w.ensures)
    ∙ sym c.in_err-places.ensures.check)

pub invariant_of-result : goal.invariant_of-result
invariant_of-result c =
    let w = part_of _ _ _ 0 8 c.part-width.ensures c.word_at-w.ensures in
    let n = part_of _ _ _ 16 12 c.part-count.ensures c.word_at-w.ensures in
    record {
      ready = record {
        good = table_rest _ _ _ (sym c.in_ok-first_word.ensures) w n ∙ sym c.in_ok-places.ensures.check;
        wide = w;
        number = n;
        each = λ k h. c.in_ok-places.ensures.places k ∙ rw (lt-ltb k c.part-count.result h);
      };
    }

pub returns : goal.returns
returns c =
    let w = part_of _ _ _ 0 8 c.part-width.ensures c.word_at-w.ensures in
    let n = part_of _ _ _ 16 12 c.part-count.ensures c.word_at-w.ensures in
    let t = table_rest _ _ _ (sym c.in_ok-first_word.ensures) w n ∙ sym c.in_ok-places.ensures.check in
    record {
      answer = accepts _ t _ _ w n;
      places = λ k. c.in_ok-places.ensures.places k ∙ accepts_places _ t _ n k;
      words = refl;
    }
