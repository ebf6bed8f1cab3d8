use mathlib.Core.Path.{sym, ◌∙◌}
use Rattle.std.proofs.lemmas.Result.{err_from_is_err_and}
use Rattle.checker.proofs.Checking.{check_yes, check_no, check_faulty}
use Rattle.checker.proofs.check.Goals as goal

pub returns-in_err-table : goal.returns-in_err-table
returns-in_err-table c =
    let p = err_from_is_err_and c.from_residual.result c.from_residual.ensures.1 in rw (p.1, p.2) (check_faulty _ _ _ c.in_err-table.ensures)

pub returns-then-accepts : goal.returns-then-accepts
returns-then-accepts c =
    check_yes _ c.in_ok-table.table.ready _ c.in_ok-table.ensures.words (sym c.accepts.ensures ∙ c.if-accepts.true)

pub returns : goal.returns
returns c = check_no _ c.in_ok-table.table.ready _ c.in_ok-table.ensures.words (sym c.accepts.ensures ∙ c.if-accepts.false)
