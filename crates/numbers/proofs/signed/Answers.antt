use Rattle.std.proofs.lemmas.Result.{err_from_is_err_and}
use mir.Facts.{to_z-of_z}
use mir.Syntax.{w64}
use mathlib.Core.Path.{sym, ap, ◌∙◌}
use Rattle.words.specs.Outcome.{result}
use Rattle.numbers.proofs.Judging.{sound}
use Rattle.numbers.proofs.Answering.{signed_refused, signed_is}
use Rattle.numbers.proofs.signed.Goals as goal

pub returns-in_err-form : goal.returns-in_err-form
returns-in_err-form c = let p = err_from_is_err_and c.from_residual.result c.from_residual.ensures.1 in rw (p.1, p.2) (signed_refused _ _ c.in_err-form.ensures _)

pub returns-in_err-side : goal.returns-in_err-side
returns-in_err-side c =
    let r = c.from_residual-in_err-side in
    let p = err_from_is_err_and r.result r.ensures.1 in
    rw (p.1, p.2) (c.in_err-side.ensures.said ∙ sym (signed_is (sound _ _ c.in_ok-form.ensures) _))

pub returns : goal.returns
returns c =
    ap result (to_z-of_z {w = w64} (record { sfits = c.from.type_inv }) ∙ c.from.ensures) ∙ c.in_ok-side.ensures.said ∙ sym (signed_is (sound _ _ c.in_ok-form.ensures) _)
