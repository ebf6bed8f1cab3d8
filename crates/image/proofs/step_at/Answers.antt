use mathlib.Core.Path.{◌∙◌}
use Rattle.std.proofs.lemmas.Result.{err_from_is_err_and}
use Rattle.image.proofs.Admitting.{step_refused, step_made}
use Rattle.image.proofs.step_at.Goals as goal

pub returns-in_err-admitted : goal.returns-in_err-admitted
returns-in_err-admitted c =
    let p = err_from_is_err_and c.from_residual.result c.from_residual.ensures.1 in
    rw (p.1, p.2) (step_refused _ _ _ _ c.in_err-admitted.ensures.answer _)

pub returns : goal.returns
returns c = let a = c.in_ok-admitted.ensures in rw (a.taken.tree, a.taken.image) at c.step.ensures ∙ step_made _ _ _ _ a.answer _
