use Rattle.std.proofs.lemmas.Result.{err_from_is_err_and}
use Rattle.selection.proofs.Finding.{refused_look, among_finds}
use Rattle.selection.proofs.find.Goals as goal

pub returns-in_err-table : goal.returns-in_err-table
returns-in_err-table c = let p = err_from_is_err_and c.from_residual.result c.from_residual.ensures.1 in rw (p.1, p.2) (refused_look _ c.args.word _ c.in_err-table.ensures)

pub returns : goal.returns
returns c = rw c.in_ok-table.ensures.words at (among_finds _ _ _ _ _ c.in_ok-table.table.ready _ c.find_among.ensures)
