use native.Mathlib.Omega.{arith}
use Rattle.image.specs.Address.{halfword_at}
use Rattle.image.proofs.lister.Admitted.half.Goals as goal

pub returns : goal.returns
unfolding halfword_at
returns c = let e = rw c.from-low.ensures at c.from_le_bytes.ensures in omega (arith, e)
