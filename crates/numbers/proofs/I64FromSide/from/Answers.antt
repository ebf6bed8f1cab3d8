use Rattle.numbers.proofs.Sides.{below_side, above_side}
use Rattle.numbers.proofs.I64FromSide.from.Goals as goal

pub returns-then-side : goal.returns-then-side
returns-then-side c = below_side _ c.args.side.small _ c.if-side.true

pub returns-else-side : goal.returns-else-side
returns-else-side c = above_side _ c.args.side.small _ c.if-side.false
