use Rattle.withdrawal.proofs.Counting.{table, SoFar}
use Rattle.withdrawal.proofs.count_selecting.Given as goal

abbrev pub invariant-loop-word : goal.invariant-loop-word
invariant-loop-word l = SoFar (table l.table.entries l.table.width) l.entry l.list l.word-index l.selecting
