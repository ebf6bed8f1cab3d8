use mathlib.Core.Path.{ap, ◌∙◌}
use Rattle.std.specs.Prelude.{Some, None, Err}
use Rattle.flat.specs.declared.Node.TheVariants as node
use Rattle.walker.specs.Walked.{went_of}
use Rattle.walker.proofs.Nodes.{was_some, was_none, returned, goes, goes_one, goes_zero}
use Rattle.walker.proofs.pass.Goals as goal

pub returns-in_err-node-clause-value : goal.returns-in_err-node-clause-value
unfolding went_of
returns-in_err-node-clause-value c =
    let (none, damaged) = was_none c.node_of.result _ _ c.in_err-node.ensures.value in
    returned c.from_residual.result c.in_err-node.field-0.0 c.from_residual.ensures.1 ∙ ap Err damaged ∙ goes _ _ _ _ c.args.word _ c.node_of.ensures.value None none

pub returns-then-word-bit-eq1-clause-value : goal.returns-then-word-bit-eq1-clause-value
returns-then-word-bit-eq1-clause-value c =
    let some = was_some c.node_of.result _ _ c.in_ok-node.ensures.value ∙ ap Some c.in-Asks.is in
    goes_one _ _ _ _ c.args.word _ c.node_of.ensures.value c.node_of.ensures.bounds _ _ some c.if-word-bit-eq1.true

pub returns-else-word-bit-eq1-clause-value : goal.returns-else-word-bit-eq1-clause-value
returns-else-word-bit-eq1-clause-value c =
    let some = was_some c.node_of.result _ _ c.in_ok-node.ensures.value ∙ ap Some c.in-Asks.is in
    goes_zero _ _ _ _ c.args.word _ c.node_of.ensures.value c.node_of.ensures.bounds _ _ some c.if-word-bit-eq1.false

pub returns-in-Names-clause-value : goal.returns-in-Names-clause-value
unfolding went_of
returns-in-Names-clause-value c =
    goes _ _ _ _ c.args.word _ c.node_of.ensures.value (Some (node.Names c.in-Names.entry)) (was_some c.node_of.result _ _ c.in_ok-node.ensures.value ∙ ap Some c.in-Names.is)

pub returns-in-Nothing-clause-value : goal.returns-in-Nothing-clause-value
unfolding went_of
returns-in-Nothing-clause-value c =
    goes _ _ _ _ c.args.word _ c.node_of.ensures.value (Some node.Nothing) (was_some c.node_of.result _ _ c.in_ok-node.ensures.value ∙ ap Some c.in-Nothing.is)
