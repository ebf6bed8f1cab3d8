use native.Mathlib.Omega.{arith}
use lib.ListN.{length-set}
use Rattle.std.proofs.lemmas.List.Edits.{fill_by_more}
use Rattle.choice.specs.Judged.{entry_of}
use Rattle.choice.specs.declared.Status.TheVariants.{Dead}
use Rattle.cell.specs.Decide.{cell_of, status_of}
use Rattle.cell.proofs.standing.Standing.of.Goals as goal

pub loop-j-preserved : goal.loop-j-preserved
loop-j-preserved c =
    let a = c.args in
    let l = c.loop-j in
    (simp length-set l.invariant.0, rw c.status.ensures (fill_by_more (λ j. status_of (cell_of a.cell) (entry_of a.entries.now j)) l.statuses l.j Dead (omega arith) l.invariant.1))
