use mathlib.Core.Bool.{Bool, false}
use mathlib.Core.Path.{refl}
use native.Mathlib.Omega.{arith}
use borrow.Author.Rules.{rules}
use lib.ListN.{length-replicate}
use lib.Seq.{length-take-le}
use Rattle.table.proofs.Views.{ready_few}
use Rattle.maker.proofs.Generating.{made_judging}
use Rattle.maker.proofs.whole.make_whole.Goals as goal

pub shared_ref_as_front-judge_tree : goal.shared_ref_as_front-judge_tree
shared_ref_as_front-judge_tree c =
    omega (arith, ready_few _ _ _ _ c.args.table.now.ready, c.make_tree-made.ensures.same.marks, length-replicate {A = Bool} 256 false)

pub judge_tree-requires : goal.judge_tree-requires
judge_tree-requires c =
    let few = ready_few _ _ _ _ c.args.table.now.ready in
    rw (length-take-le c.args.table.now.entries.count c.make_tree-made.new.self.marks
    (omega (arith, few, c.make_tree-made.ensures.same.marks, length-replicate {A = Bool} 256 false))) few

pub returns : goal.returns
returns c =
    let few = ready_few _ _ _ _ c.args.table.now.ready in
    let j = made_judging _ _ _ _ c.args.table.now.ready refl refl c.make_tree-made.ensures.made
    (omega (arith, few, c.make_tree-made.ensures.same.marks, length-replicate {A = Bool} 256 false)) c.judge_tree.ensures in
    search rules
