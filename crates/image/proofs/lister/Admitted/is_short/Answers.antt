use Rattle.image.proofs.Picking.{size_is}
use Rattle.image.proofs.lister.Admitted.is_short.Goals as goal

pub returns : goal.returns
returns c = size_is _ _ _ _ c.args.self.now.table.ready _ c.requires _ c.size_at.ensures
