use Rattle.kilnumber.proofs.Narrowing.{size_narrow}
use Rattle.kilnumber.proofs.kilnumber_signed.Goals as goal

pub pack_whole-requires : goal.pack_whole-requires
pack_whole-requires c = size_narrow _ _ _ c.in-Ok.ensures _ _ c.from.ensures
