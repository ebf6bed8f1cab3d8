use lib.ListN.{length}
use Rattle.choice.specs.Status.{live_in}
use Rattle.choice.specs.Judged.{entry_of}
use Rattle.choice.proofs.Leading.{Ahead}
use Rattle.choice.proofs.Contest.leader.Given as goal

abbrev pub invariant-loop-k : goal.invariant-loop-k
invariant-loop-k l = Ahead (entry_of l.self.entries.now) (live_in l.self.statuses.now) (length l.self.statuses.now) l.k l.lead
