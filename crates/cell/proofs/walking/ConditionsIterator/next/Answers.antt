use Rattle.cell.proofs.Walks.{no_conditions, more_conditions, fewer_conditions}
use Prim.Native.Nat.{◌-◌, ◌<◌}
use Rattle.std.proofs.Common.{rules}
use lib.ListN.{length}
use Rattle.table.specs.Table.{conditions_at}
use Rattle.cell.proofs.walking.ConditionsIterator.next.Goals as goal

pub returns-then-self-lt1-clause-steps : goal.returns-then-self-lt1-clause-steps
returns-then-self-lt1-clause-steps c = (no_conditions _ _ _ c.if-self-lt1.true, no_conditions _ _ _ c.if-self-lt1.true)

pub returns-clause-steps : goal.returns-clause-steps
returns-clause-steps c = rw c.place_after-self.ensures.place (more_conditions _ _ _ c.if-self-lt1.false)

pub returns-clause-goes : goal.returns-clause-goes
returns-clause-goes c =
    let s = c.args.self.now in
    let f : length (conditions_at s.words.now (s.left - 1) c.place_after-self.result) < length (conditions_at s.words.now s.left s.at)
    = rw c.place_after-self.ensures.place (fewer_conditions s.words.now s.left s.at c.if-self-lt1.false) in
    search rules
