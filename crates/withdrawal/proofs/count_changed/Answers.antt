use Rattle.std.proofs.lemmas.Result.{err_from_is_err_and}
use Rattle.withdrawal.proofs.Counting.{changed_refused, changed_none}
use Rattle.withdrawal.proofs.count_changed.Goals as goal

pub returns-in_err-table : goal.returns-in_err-table
returns-in_err-table c = let p = err_from_is_err_and c.from_residual.result c.from_residual.ensures.1 in rw (p.1, p.2) (changed_refused _ _ _ _ c.in_err-table.ensures)

pub returns-then-table-entry : goal.returns-then-table-entry
returns-then-table-entry c =
    let t = c.in_ok-table.table in
    rw c.in_ok-table.ensures.words at (changed_none t.entries t.width _ c.args.list.now t.ready c.if-table-entry.true)
