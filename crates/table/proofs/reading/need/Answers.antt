use Rattle.table.specs.Check.{need}
use Rattle.table.proofs.reading.need.Goals as goal

pub returns-then-holds-clause-check : goal.returns-then-holds-clause-check
unfolding need
returns-then-holds-clause-check c = rw c.if-holds.true

pub returns-clause-check : goal.returns-clause-check
unfolding need
returns-clause-check c = rw c.if-holds.false
