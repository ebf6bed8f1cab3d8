use mathlib.Core.Path.{sym, ap, ◌∙◌}
use native.Mathlib.Omega.{arith}
use Rattle.tree.proofs.Held.{bit_low}
use Rattle.std.specs.Prelude.{Some}
use Rattle.flat.specs.Nodes.{node_of, NodeBounds}
use Rattle.flat.specs.declared.Node.TheVariants.{Asks}
use Rattle.cell.specs.Cell.{Cell}
use Rattle.cell.specs.Decide.{cell_of}
use Rattle.cell.proofs.Deciding.{settled_ready}
use Rattle.cell.proofs.Cells.{fewer}
use Rattle.checker.proofs.Checking.{check_damaged, check_names, check_nothing, check_asks, sides_fixed, zero_no, zero_elsewhere, one_side_lem}
use Rattle.checker.proofs.nodes.Lent.+check_node_check_tree.Goals as goal

pub check_node-is_fixed-requires : goal.check_node-is_fixed-requires
check_node-is_fixed-requires t c = bit_low c.args.self.now.table.now c.requires.2

pub check_node-returns-then-is_fixed : goal.check_node-returns-then-is_fixed
check_node-returns-then-is_fixed t c = sides_fixed _ _ _ _ _ _ _ _ (sym c.is_fixed.ensures ∙ c.if-is_fixed.true)

pub check_node-check_tree-requires : goal.check_node-check_tree-requires
check_node-check_tree-requires t c =
    let z = fewer (cell_of c.args.cell) c.args.b c.args.self.now.table.now.width _ c.requires.2 (sym c.is_fixed.ensures ∙ c.if-is_fixed.false) (ap (λ (x : Cell). x.fixed) (c.zero_side.ensures.below (bit_low c.args.self.now.table.now c.requires.2))) in
    (omega (arith, c.decreases), omega (arith, c.requires.0, c.requires.1))

pub check_node-returns-in_err-end : goal.check_node-returns-in_err-end
check_node-returns-in_err-end t c =
    rw c.from_residual.ensures (zero_no _ _ _ _ _ _ _ _ (sym c.is_fixed.ensures ∙ c.if-is_fixed.false) (c.zero_side.ensures.below (bit_low c.args.self.now.table.now c.requires.2)) c.check_tree.ensures c.in_err-end.was)

pub check_node-returns-then-end-one : goal.check_node-returns-then-end-one
check_node-returns-then-end-one t c =
    zero_elsewhere _ _ _ _ _ _ _ _ (sym c.is_fixed.ensures ∙ c.if-is_fixed.false) (c.zero_side.ensures.below (bit_low c.args.self.now.table.now c.requires.2)) c.check_tree.ensures c.in_ok-end.was c.if-end-one.true

pub check_node-check_tree-requires-2 : goal.check_node-check_tree-requires-2
check_node-check_tree-requires-2 t c =
    let z = fewer (cell_of c.args.cell) c.args.b c.args.self.now.table.now.width _ c.requires.2 (sym c.is_fixed.ensures ∙ c.if-is_fixed.false) (ap (λ (x : Cell). x.fixed) (c.one_side.ensures.below (bit_low c.args.self.now.table.now c.requires.2))) in
    (omega (arith, c.decreases), c.requires.1)

pub check_node-returns : goal.check_node-returns
check_node-returns t c =
    one_side_lem _ _ _ _ _ _ _ _ (sym c.is_fixed.ensures ∙ c.if-is_fixed.false) (c.zero_side.ensures.below (bit_low c.args.self.now.table.now c.requires.2)) c.check_tree.ensures c.in_ok-end.was c.if-end-one.false
    (c.one_side.ensures.below (bit_low c.args.self.now.table.now c.requires.2)) c.check_tree-2.ensures

pub check_tree-returns-in_err-node : goal.check_tree-returns-in_err-node
check_tree-returns-in_err-node t c =
    let says = node_of c.args.self.now.table.now.width c.args.self.now.nodes c.args.at in
    c.from_residual.ensures ∙ check_damaged _ _ _ _ _ _ (ap says (sym c.word-word.ensures) ∙ sym c.node_of.ensures.value ∙ c.in_err-node.was)

pub check_tree-check_node-requires : goal.check_tree-check_node-requires
check_tree-check_node-requires t c =
    let k : NodeBounds (Some (Asks c.in-Asks.bit c.in-Asks.one)) c.args.self.now.table.now.width c.args.self.now.nodes c.args.at
    = rw c.in-Asks.is at c.in_ok-node.ensures.bounds in
    (omega (arith, c.decreases), (k.2, k.3, k.0))

pub check_tree-returns-in-Names : goal.check_tree-returns-in-Names
check_tree-returns-in-Names t c =
    let says = node_of c.args.self.now.table.now.width c.args.self.now.nodes c.args.at in
    check_names _ _ _ _ _ _ _ _ _ _ (ap says (sym c.word-word.ensures) ∙ sym c.node_of.ensures.value ∙ c.in_ok-node.was ∙ ap Some c.in-Names.is)
    (c.settle-verdict.ensures ∙ settled_ready _ _ _ _ c.args.self.now.table.now.ready _) c.is_named.ensures c.then_some.ensures

pub check_tree-returns-in-Nothing : goal.check_tree-returns-in-Nothing
check_tree-returns-in-Nothing t c =
    let says = node_of c.args.self.now.table.now.width c.args.self.now.nodes c.args.at in
    check_nothing _ _ _ _ _ _ _ _ _ (ap says (sym c.word-word.ensures) ∙ sym c.node_of.ensures.value ∙ c.in_ok-node.was ∙ ap Some c.in-Nothing.is)
    (c.settle-verdict-in-Nothing.ensures ∙ settled_ready _ _ _ _ c.args.self.now.table.now.ready _) c.is_nothing.ensures c.then_some-in-Nothing.ensures

pub check_tree-returns-in-Asks : goal.check_tree-returns-in-Asks
check_tree-returns-in-Asks t c =
    let says = node_of c.args.self.now.table.now.width c.args.self.now.nodes c.args.at in
    let k : NodeBounds (Some (Asks c.in-Asks.bit c.in-Asks.one)) c.args.self.now.table.now.width c.args.self.now.nodes c.args.at
    = rw c.in-Asks.is at c.in_ok-node.ensures.bounds in
    check_asks _ _ _ _ _ _ _ _ _ k.0 (ap says (sym c.word-word.ensures) ∙ sym c.node_of.ensures.value ∙ c.in_ok-node.was ∙ ap Some c.in-Asks.is) c.check_node.ensures
