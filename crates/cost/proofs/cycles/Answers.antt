use Rattle.cost.proofs.Answering.{cycles_refused, cycles_none, cycles_here}
use Rattle.std.proofs.lemmas.Result.{err_from_is_err_and}
use Rattle.table.proofs.Views.{ready_few}
use native.Mathlib.Omega.{arith}
use Rattle.cost.proofs.cycles.Goals as goal

pub returns-in_err-table : goal.returns-in_err-table
returns-in_err-table c = let p = err_from_is_err_and c.from_residual.result c.from_residual.ensures.1 in rw (p.1, p.2) (cycles_refused _ _ _ c.in_err-table.ensures)

pub returns-then-table-entry : goal.returns-then-table-entry
returns-then-table-entry c = cycles_none _ _ c.in_ok-table.ensures _ c.if-table-entry.true

pub bounds-table-e : goal.bounds-table-e
bounds-table-e c = omega (arith, ready_few _ _ _ _ c.in_ok-table.table.ready, c.if-table-entry.false)

pub returns : goal.returns
returns c = cycles_here _ _ c.in_ok-table.ensures _ _ c.cycles_at.ensures c.if-table-entry.false
