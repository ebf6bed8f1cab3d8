use mathlib.Core.Path.{sym, ◌∙◌}
use Rattle.choice.specs.Judged.{entry_of}
use Rattle.cell.specs.Decide.{cell_of}
use Rattle.cell.proofs.Deciding.{open_at}
use Rattle.cell.proofs.Loops.{some_none, some_more, some_same}
use Rattle.cell.proofs.standing.Standing.all_bits.Goals as goal
use Rattle.cell.proofs.standing.Standing.all_bits.Goals.{then-eq, else-eq}

pub loop-j-init : goal.loop-j-init
loop-j-init c = λ i. some_none _ _ _ i

pub loop-j-preserved : goal.loop-j-preserved
loop-j-preserved c =
    let s = c.args.self.now in
    let g = c.loop-j.invariant in
    let o = sym (open_at (entry_of s.entries.now) s.count (cell_of s.cell) s.statuses.now s.stated c.loop-j.j c.loop-j-test.true) ∙ sym c.eq.ensures in
    elim c.if-eq.branch [
      | then-eq w ↦ rw w.found-is (λ i. some_more _ _ _ i _ _ _ (g i) (o ∙ w.if-eq.true) (w.entry_bits-found.ensures i))
      | else-eq w ↦ rw w.found-is (λ i. some_same _ _ _ i _ _ (g i) (o ∙ w.if-eq.false))
    ]
