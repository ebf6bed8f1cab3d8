use Rattle.numbers.proofs.Writing.{puts_none, sign_below, sign_above}
use Rattle.numbers.proofs.Side.put_sign.Goals as goal

pub returns-then-self : goal.returns-then-self
returns-then-self c = rw (sign_below _ _ c.if-self.true) c.put_byte.ensures

pub returns : goal.returns
returns c = puts_none _ _ _ (sign_above _ _ c.if-self.false)
