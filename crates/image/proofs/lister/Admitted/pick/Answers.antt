use mathlib.Core.Path.{sym, ◌∙◌}
use native.Mathlib.Omega.{arith}
use Rattle.image.proofs.Picking.{walks, selected_below, selects_entry, picks_short, picks_long, picks_nothing}
use Rattle.image.proofs.lister.Admitted.pick.Goals as goal

pub unwrap-walk-requires : goal.unwrap-walk-requires
unwrap-walk-requires c = walks _ _ c.args.self.now.right _ (omega arith) _ c.walk.ensures.result_value

pub is_short-requires : goal.is_short-requires
is_short-requires c =
    let s = c.args.self.now in
    selected_below _ _ _ _ s.table.ready _ _ (selects_entry _ _ s.right _ (omega arith) _ c.walk.ensures.result_value _ c.unwrap-walk.ensures _ c.in-Some.is)

pub returns-then-is_short : goal.returns-then-is_short
returns-then-is_short c =
    picks_short _ _ c.args.self.now.right _ (omega arith) _ c.walk.ensures.result_value _ c.unwrap-walk.ensures _ c.in-Some.is (sym c.is_short.ensures ∙ c.if-is_short.true)

pub returns-else-is_short : goal.returns-else-is_short
returns-else-is_short c =
    picks_long _ _ c.args.self.now.right _ (omega arith) _ c.walk.ensures.result_value _ c.unwrap-walk.ensures _ c.in-Some.is (sym c.is_short.ensures ∙ c.if-is_short.false)

pub returns-in-None : goal.returns-in-None
returns-in-None c = picks_nothing _ _ c.args.self.now.right _ (omega arith) _ c.walk.ensures.result_value _ c.unwrap-walk.ensures c.in-None.is
