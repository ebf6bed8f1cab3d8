use mathlib.Core.Path.{sym, ◌∙◌}
use Rattle.std.proofs.lemmas.Result.{err_from_is_err_and}
use Rattle.maker.proofs.Generating.{full_judged, fits_judged, clash_judged, unreached_judged, stands_judged}
use Rattle.maker.proofs.whole.judge_tree.Goals as goal

pub returns-in_err-made : goal.returns-in_err-made
returns-in_err-made c =
    let p = err_from_is_err_and c.from_residual.result c.from_residual.ensures.1 in
    rw (p.1, p.2) (full_judged _ _ (sym c.ok_or.ensures.value ∙ c.in_err-made.was))

pub returns-in-Some : goal.returns-in-Some
returns-in-Some c = clash_judged (fits_judged _ (sym c.ok_or.ensures.value ∙ c.in_ok-made.was)) _ c.in-Some.is

pub returns-in-Some-unmarked : goal.returns-in-Some-unmarked
returns-in-Some-unmarked c =
    unreached_judged (fits_judged _ (sym c.ok_or.ensures.value ∙ c.in_ok-made.was)) _ c.in_default.is (sym c.unmarked.ensures ∙ c.in-Some-unmarked.is)

pub returns-in-None : goal.returns-in-None
returns-in-None c =
    stands_judged (fits_judged _ (sym c.ok_or.ensures.value ∙ c.in_ok-made.was)) _ c.in_default.is (sym c.unmarked.ensures ∙ c.in-None.is)
