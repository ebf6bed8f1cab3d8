use mathlib.Core.Path.{refl, ap, ◌∙◌}
use native.Mathlib.Omega.{arith}
use Rattle.tree.proofs.Held.{bit_low}
use Rattle.choice.specs.Rule.{names, nothing, ambiguous}
use Rattle.cell.specs.Cell.{Cell}
use Rattle.cell.specs.Decide.{cell_of}
use Rattle.cell.proofs.Cells.{fewer}
use Rattle.maker.proofs.Below.{below_names, below_nothing, below_conflict, below_test, test_bounds}
use Rattle.maker.proofs.Writing.{nothing_word, conflict_word}
use Rattle.maker.proofs.Makers.{no_room, leaf_made, zero_is_full, one_is_full, both_written}
use Rattle.maker.proofs.Writer.+make_node_make_tree.Goals as goal

pub make_node-make_tree-requires : goal.make_node-make_tree-requires
make_node-make_tree-requires t c =
    omega (arith, fewer (cell_of c.args.cell) c.args.b c.args.table.now.width _ c.requires.1 c.requires.2 (ap (λ (x : Cell). x.fixed) (c.zero_side.ensures.below (bit_low c.args.table.now c.requires.1))))

pub make_node-returns-in_err-zero-clause-made : goal.make_node-returns-in_err-zero-clause-made
make_node-returns-in_err-zero-clause-made t c =
    rw c.from_residual.ensures (zero_is_full _ _ _ _ _ (c.zero_side.ensures.below (bit_low c.args.table.now c.requires.1)) c.make_tree.ensures.made c.in_err-zero.was)

pub make_node-test_word-requires : goal.make_node-test_word-requires
make_node-test_word-requires t c =
    let x = (c.make_tree.ensures.made.wrote _ c.in_ok-zero.was).within in
    (bit_low c.args.table.now c.requires.1, omega (arith, x, c.args.self.now.within))

pub make_node-make_tree-requires-2 : goal.make_node-make_tree-requires-2
make_node-make_tree-requires-2 t c =
    omega (arith, fewer (cell_of c.args.cell) c.args.b c.args.table.now.width _ c.requires.1 c.requires.2 (ap (λ (x : Cell). x.fixed) (c.one_side.ensures.below (bit_low c.args.table.now c.requires.1))))

pub make_node-returns-in_err-one-clause-made : goal.make_node-returns-in_err-one-clause-made
make_node-returns-in_err-one-clause-made t c =
    rw c.from_residual-in_err-one.ensures
    (one_is_full _ _ _ _ _ (c.zero_side.ensures.below (bit_low c.args.table.now c.requires.1)) c.make_tree.ensures.made (c.one_side.ensures.below (bit_low c.args.table.now c.requires.1)) c.test_word.ensures c.in_ok-zero.was
    (c.put.ensures.same.limit ∙ c.make_tree.ensures.same.limit) c.put.ensures.words c.put.ensures.marks c.make_tree-2.ensures.made c.in_err-one.was)

pub make_node-returns-clause-made : goal.make_node-returns-clause-made
make_node-returns-clause-made t c =
    rw (c.or.ensures, c.max.ensures)
    (both_written _ _ _ _ _ (c.zero_side.ensures.below (bit_low c.args.table.now c.requires.1)) c.make_tree.ensures.made (c.one_side.ensures.below (bit_low c.args.table.now c.requires.1)) c.test_word.ensures c.in_ok-zero.was
    (c.put.ensures.same.limit ∙ c.make_tree.ensures.same.limit) c.put.ensures.words c.put.ensures.marks c.make_tree-2.ensures.made c.in_ok-one.was)

pub make_tree-returns-then-self-at-clause-made : goal.make_tree-returns-then-self-at-clause-made
make_tree-returns-then-self-at-clause-made t c = no_room c.if-self-at.true

pub make_tree-make_node-requires : goal.make_tree-make_node-requires
make_tree-make_node-requires t c =
    let b = test_bounds _ _ _ _ c.args.table.now.ready _ _ c.decide-decision.ensures _ c.in-Test.is in
    (omega arith, (c.if-self-at.false, b.0, b.1))

pub make_tree-returns-in-Names-clause-made : goal.make_tree-returns-in-Names-clause-made
make_tree-returns-in-Names-clause-made t c =
    let q = below_names _ _ _ _ c.args.table.now.ready _ _ c.decide-decision.ensures _ c.in-Names.is in
    leaf_made (names _) c.if-self-at.false q c.make_leaf.ensures.made (rw c.mark.ensures.words at c.make_leaf.ensures.words) c.names_word.ensures refl
    (c.make_leaf.ensures.marks ∙ c.mark.ensures.marks)

pub make_tree-returns-in-Nothing-clause-made : goal.make_tree-returns-in-Nothing-clause-made
make_tree-returns-in-Nothing-clause-made t c =
    let q = below_nothing _ _ _ _ c.args.table.now.ready _ _ c.decide-decision.ensures c.in-Nothing.is in
    leaf_made nothing c.if-self-at.false q c.make_leaf-in-Nothing.ensures.made c.make_leaf-in-Nothing.ensures.words (c.word.ensures ∙ nothing_word) refl
    c.make_leaf-in-Nothing.ensures.marks

pub make_tree-returns-in-Conflict-clause-made : goal.make_tree-returns-in-Conflict-clause-made
make_tree-returns-in-Conflict-clause-made t c =
    let q = below_conflict _ _ _ _ c.args.table.now.ready _ _ c.decide-decision.ensures c.in-Conflict.is in
    leaf_made ambiguous c.if-self-at.false q c.make_leaf-in-Conflict.ensures.made c.make_leaf-in-Conflict.ensures.words
    (c.word-in-Conflict.ensures ∙ conflict_word) refl c.make_leaf-in-Conflict.ensures.marks

pub make_tree-returns-in-Test-clause-made : goal.make_tree-returns-in-Test-clause-made
make_tree-returns-in-Test-clause-made t c =
    rw (below_test _ _ _ _ c.args.table.now.ready _ _ c.decide-decision.ensures _ c.in-Test.is) c.make_node.ensures.made
