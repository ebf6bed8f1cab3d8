use Rattle.std.proofs.Common.{rules}
use Rattle.cell.proofs.Walks.{no_patterns, more_patterns, fewer_patterns}
use Rattle.cell.proofs.walking.PatternsIterator.next.Goals as goal

pub returns-then-self-lt1-clause-steps : goal.returns-then-self-lt1-clause-steps
returns-then-self-lt1-clause-steps c = (no_patterns _ _ _ c.if-self-lt1.true, no_patterns _ _ _ c.if-self-lt1.true)

pub returns-clause-steps : goal.returns-clause-steps
returns-clause-steps c = rw c.at-first.ensures (more_patterns _ _ _ c.if-self-lt1.false)

pub returns-clause-goes : goal.returns-clause-goes
returns-clause-goes c = let s = c.args.self.now in let f = fewer_patterns s.words.now s.left s.at c.if-self-lt1.false in search rules
