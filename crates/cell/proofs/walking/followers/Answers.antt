use Rattle.words.proofs.Parts.{part_lt}
use native.Mathlib.Omega.{arith}
use Rattle.cell.proofs.walking.followers.Goals as goal

pub returns : goal.returns
returns c = (c.part.ensures, omega (arith, c.part.ensures, part_lt c.args.head 0 4))
