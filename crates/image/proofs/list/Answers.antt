use Rattle.std.proofs.lemmas.Result.{err_from_is_err_and}
use Rattle.image.proofs.Admitting.{list_refused, list_filled}
use Rattle.image.proofs.list.Goals as goal

pub returns-in_err-admitted : goal.returns-in_err-admitted
returns-in_err-admitted c =
    let p = err_from_is_err_and c.from_residual.result c.from_residual.ensures.1 in
    rw (p.1, p.2) (list_refused _ _ _ _ c.in_err-admitted.ensures.answer c.args.out.now)

pub returns : goal.returns
returns c = let a = c.in_ok-admitted.ensures in list_filled _ _ _ _ a.answer _ _ _ (rw a.taken.image at c.fill.ensures)
