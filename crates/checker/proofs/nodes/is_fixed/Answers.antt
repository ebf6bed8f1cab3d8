use Rattle.words.proofs.Parts.{bit_shr}
use Rattle.checker.proofs.nodes.is_fixed.Goals as goal

pub returns : goal.returns
returns c = bit_shr c.args.fixed c.args.b
