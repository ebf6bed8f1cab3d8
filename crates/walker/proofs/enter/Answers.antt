use mathlib.Core.Path.{sym, ap, ◌∙◌}
use Rattle.std.specs.Prelude.{None, Err}
use Rattle.walker.specs.Walked.{entered_of}
use Rattle.walker.proofs.Nodes.{was_some, was_none, returned}
use Rattle.walker.proofs.Headers.{enters_odd, enters_by, enters_fit, enters_wide}
use Rattle.walker.proofs.enter.Goals as goal

pub returns-then-rest-ne0-clause-value : goal.returns-then-rest-ne0-clause-value
returns-then-rest-ne0-clause-value g c = enters_odd _ _ _ _ c.rest.ensures c.if-rest-ne0.true

pub returns-in_err-header-clause-value : goal.returns-in_err-header-clause-value
unfolding entered_of
returns-in_err-header-clause-value g c =
    let (none, bad) = was_none c.header_of.result _ _ c.in_err-header.ensures.value in
    returned c.from_residual.result c.in_err-header.field-0.0 c.from_residual.ensures.1
    ∙ ap Err bad
    ∙ enters_by _ _ (g.W.Words.words c.args.tree) c.args.word c.rest.ensures _ _ _ c.if-rest-ne0.false c.word.ensures c.count.ensures c.header_of.ensures.value None none

pub returns-then-not-fits-clause-value : goal.returns-then-not-fits-clause-value
returns-then-not-fits-clause-value g c =
    enters_wide _ _ (g.W.Words.words c.args.tree) _ c.rest.ensures _ _ _ c.if-rest-ne0.false c.word.ensures c.count.ensures c.header_of.ensures.value
    _ (was_some c.header_of.result _ _ c.in_ok-header.ensures.value) (sym c.fits.ensures ∙ c.if-not-fits.true)

pub returns-clause-value : goal.returns-clause-value
returns-clause-value g c =
    enters_fit _ _ (g.W.Words.words c.args.tree) _ c.rest.ensures _ _ _ c.if-rest-ne0.false c.word.ensures c.count.ensures c.header_of.ensures.value
    _ (was_some c.header_of.result _ _ c.in_ok-header.ensures.value) (sym c.fits.ensures ∙ c.if-not-fits.false)
