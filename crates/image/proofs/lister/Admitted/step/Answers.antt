use Rattle.image.proofs.Admitting.{step_end, step_item}
use Rattle.image.proofs.Order.{no_more, more}
use Rattle.image.proofs.lister.Admitted.step.Goals as goal

pub returns-then-le : goal.returns-then-le
returns-then-le c = step_end _ _ _ _ (rw c.end.ensures at (no_more c.end.result c.args.at c.le.result c.le.ensures c.if-le.true))

pub returns : goal.returns
returns c =
    let e = rw c.end.ensures at (more c.end.result c.args.at c.le.result c.le.ensures c.if-le.false) in
    step_item _ _ _ _ e _ c.item_at-item.ensures _ c.mask_at-mask.ensures
