use mathlib.Core.Path.{sym, ◌∙◌}
use native.Mathlib.Omega.{arith}
use Rattle.image.proofs.Picking.{selected_below, last_selects, last_short, last_long, last_nothing, last_several}
use Rattle.image.proofs.lister.Admitted.pick_last.Goals as goal

pub is_short-requires : goal.is_short-requires
is_short-requires c =
    let s = c.args.self.now in
    selected_below _ _ _ _ s.table.ready _ _ (last_selects _ _ s.right _ (omega arith) _ c.in_common.ensures _ c.in-Entry.is)

pub returns-then-is_short : goal.returns-then-is_short
returns-then-is_short c = last_short _ _ c.args.self.now.right _ (omega arith) _ c.in_common.ensures _ c.in-Entry.is (sym c.is_short.ensures ∙ c.if-is_short.true)

pub returns-else-is_short : goal.returns-else-is_short
returns-else-is_short c = last_long _ _ c.args.self.now.right _ (omega arith) _ c.in_common.ensures _ c.in-Entry.is (sym c.is_short.ensures ∙ c.if-is_short.false)

pub returns-in-Nothing : goal.returns-in-Nothing
returns-in-Nothing c = last_nothing _ _ c.args.self.now.right _ (omega arith) _ c.in_common.ensures c.in-Nothing.is

pub returns-in-Several : goal.returns-in-Several
returns-in-Several c = last_several _ _ c.args.self.now.right _ (omega arith) _ c.in_common.ensures c.in-Several.is
