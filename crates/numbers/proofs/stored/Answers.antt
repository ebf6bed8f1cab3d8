use Rattle.std.proofs.lemmas.Result.{err_from_is_err_and}
use mir.Facts.{to_z-of_z}
use mathlib.Core.Path.{sym, ap, ◌∙◌}
use Rattle.numbers.specs.Calls.{stored_of}
use Rattle.numbers.proofs.Judging.{sound}
use Rattle.numbers.proofs.Answering.{stored_refused, stored_is}
use Rattle.numbers.proofs.stored.Goals as goal

pub returns-in_err-form : goal.returns-in_err-form
returns-in_err-form c = let p = err_from_is_err_and c.from_residual.result c.from_residual.ensures.1 in rw (p.1, p.2) (stored_refused _ _ c.in_err-form.ensures _)

pub returns : goal.returns
returns c =
    let e = c.from.ensures ∙ to_z-of_z c.ranges.number in
    c.value_on.ensures ∙ sym (stored_is (sound _ _ c.in_ok-form.ensures) _) ∙ ap (stored_of c.args.field) e
