use Prim.Native.Nat.{ℕ, ◌≤◌, ◌<◌}
use mathlib.Core.Bool.{not}
use lib.Dec.{eqb}
use mathlib.Core.Logic.{⊎_elim}
use mathlib.Core.Path.{◌≡◌, sym, ap, ◌∙◌}
use borrow.Author.Tests.{lt-leb, le-leb}
use Rattle.words.specs.Outcome.{result, number_of}
use Rattle.table.specs.Check.{fine, fault, field_word}
use Rattle.table.proofs.Laws.{checks, word_stops, word_passes}
use Rattle.numbers.specs.Word.{word_check}
use Rattle.numbers.specs.Judged.{Values, judged_as}
use Rattle.numbers.proofs.Judging.{judged, number_some, fraction_few}
use Rattle.numbers.proofs.Form.judge.Goals as goal

pub returns-in-Err : goal.returns-in-Err
unfolding word_check
returns-in-Err c =
    let w = c.args.field in
    let f = c.in-Err.fault in
    let s = c.in-Err.ensures in
    let e : field_word w 0 ≡ fault (number_of f) 0 = word_stops w 0 (λ z. number_some f (s ∙ z)) ∙ ap (λ (n : ℕ). fault n 0) (sym s) in
    simp (e, checks, judged)

pub returns-then-width-lt1 : goal.returns-then-width-lt1
unfolding word_check
returns-then-width-lt1 c =
    let w = c.args.field in
    let good = word_passes w 0 0 (sym c.in_default.ensures) in
    ⊎_elim
    (λ (l : c.part-width.result < 1). simp (good, ← c.part-width.ensures, lt-leb _ _ l, checks, judged))
    (λ (g : (1 ≤ c.part-width.result) × (32 < c.part-width.result)). simp (good, ← c.part-width.ensures, le-leb _ _ g.0, lt-leb _ _ g.1, checks, judged))
    c.then-width-lt1.either

pub invariant_of-result-clause-few : goal.invariant_of-result-clause-few
unfolding word_check
invariant_of-result-clause-few c =
    let w = c.args.field in
    let good : word_check w ≡ fine = simp (word_passes w 0 0 (sym c.in_default.ensures), ← c.part-width.ensures, le-leb _ _ c.if-width-lt1.false, le-leb _ _ c.if-width-gt-WIDEST.false, checks) in
    rw c.part-fraction.ensures (fraction_few w good)

pub returns : goal.returns
unfolding word_check
returns c =
    let w = c.args.field in
    let v : Values = record { sign = not (eqb c.part-sign.result 0); fraction = c.part-fraction.result; width = c.part-width.result } in
    let e : result v ≡ judged_as (word_check w) w =
    simp (word_passes w 0 0 (sym c.in_default.ensures), ← c.part-width.ensures, le-leb _ _ c.if-width-lt1.false, le-leb _ _ c.if-width-gt-WIDEST.false, ← c.part-sign.ensures, ← c.part-fraction.ensures, checks, judged) in
    e
