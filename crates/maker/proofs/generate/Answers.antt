use Rattle.std.proofs.lemmas.Result.{err_from_is_err_and}
use Rattle.maker.proofs.Generating.{generate_faulty}
use Rattle.maker.proofs.generate.Goals as goal

pub returns-in_err-table : goal.returns-in_err-table
returns-in_err-table c =
    let p = err_from_is_err_and c.from_residual.result c.from_residual.ensures.1 in rw (p.1, p.2) (generate_faulty _ c.args.out.now _ c.in_err-table.ensures)
