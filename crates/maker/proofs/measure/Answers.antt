use mathlib.Core.Path.{sym, ap, ◌∙◌}
use mathlib.Core.List.{List}
use Prim.Native.Nat.{ℕ}
use Rattle.std.proofs.lemmas.Result.{err_from_is_err_and}
use Rattle.table.specs.Check.{read_table}
use Rattle.tree.specs.Generate.{measure_of}
use Rattle.maker.proofs.Generating.{measure_faulty, measure_read}
use Rattle.maker.proofs.measure.Goals as goal

pub returns-in_err-table : goal.returns-in_err-table
returns-in_err-table c =
    let p = err_from_is_err_and c.from_residual.result c.from_residual.ensures.1 in rw (p.1, p.2) (measure_faulty _ _ c.in_err-table.ensures)

pub returns : goal.returns
returns c =
    c.survey.ensures ∙ sym (measure_read _ _ _ _ c.in_ok-table.table.ready) ∙ ap (λ (ws : List ℕ). measure_of (read_table ws)) c.in_ok-table.ensures.words
