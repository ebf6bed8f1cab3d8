use Rattle.cell.proofs.settle.Goals as goal

pub returns : goal.returns
returns c = let s = c.of.result in rw (← c.of.ensures.0, ← c.of.ensures.1, ← s.number) c.verdict.ensures
