use Rattle.choice.specs.Judged.{entry_of}
use Rattle.cell.specs.Opened.{opened}
use Rattle.cell.proofs.Loops.{Gathered}
use Rattle.cell.proofs.standing.Standing.most_wanted.Given as goal

abbrev pub invariant-loop-j : goal.invariant-loop-j
invariant-loop-j l = Gathered (opened l.self) (λ k. (entry_of l.self.entries.now k).opcode.mask) l.fixed l.masks l.n l.j
