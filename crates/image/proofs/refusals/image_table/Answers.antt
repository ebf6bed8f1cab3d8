use Rattle.table.proofs.Views.{ready_few}
use Rattle.image.proofs.Admitting.{table_sizes, table_not}
use Rattle.image.proofs.refusals.image_table.Goals as goal

pub image_sizes-requires : goal.image_sizes-requires
image_sizes-requires c = ready_few _ _ _ _ c.args.table.now.ready

pub returns-then-table-eq32 : goal.returns-then-table-eq32
returns-then-table-eq32 c = table_sizes _ _ _ _ c.args.table.now.ready c.if-table-eq32.true _ c.image_sizes.ensures

pub returns-else-table-eq32 : goal.returns-else-table-eq32
returns-else-table-eq32 c = table_not _ _ _ _ c.args.table.now.ready c.if-table-eq32.false
