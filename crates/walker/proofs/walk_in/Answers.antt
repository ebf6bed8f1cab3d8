use mathlib.Core.Path.{sym, ap, ◌∙◌, subst}
use Rattle.std.specs.Prelude.{Result}
use Rattle.words.specs.declared.Refusal.{Refusal}
use Rattle.walker.specs.Walked.{said, Small}
use Rattle.walker.specs.declared.Walked as found
use Rattle.walker.proofs.Nodes.{returned}
use Rattle.walker.proofs.Headers.{shut, shut_small, walks}
use Rattle.walker.proofs.walk_in.Goals as goal

pub returns-in_err-header-clause-result_value : goal.returns-in_err-header-clause-result_value
returns-in_err-header-clause-result_value g c =
    ap said (returned c.from_residual.result c.in_err-header.field-0.0 c.from_residual.ensures.1) ∙ shut _ (g.W.Words.words c.args.tree) _ _ c.in_err-header.ensures.value

pub returns-in_err-header-clause-small : goal.returns-in_err-header-clause-small
returns-in_err-header-clause-small g c =
    let q = returned c.from_residual.result c.in_err-header.field-0.0 c.from_residual.ensures.1 in
    subst (λ (r : Result found.Walked Refusal). Small (said r)) (sym q) (shut_small _ (g.W.Words.words c.args.tree) _ _ c.in_err-header.ensures.value)

pub returns-clause-result_value : goal.returns-clause-result_value
returns-clause-result_value g c = c.path.ensures.result_value ∙ walks _ (g.W.Words.words c.args.tree) _ _ c.in_ok-header.ensures.value
