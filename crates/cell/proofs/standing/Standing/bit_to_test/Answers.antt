use native.Mathlib.Omega.{arith}
use Rattle.choice.specs.Judged.{entry_of}
use Rattle.cell.specs.Decide.{cell_of}
use Rattle.cell.specs.Opened.{opened}
use Rattle.cell.proofs.Deciding.{by_votes, by_wanted}
use Rattle.cell.proofs.Loops.{best_below}
use Rattle.cell.proofs.standing.Standing.bit_to_test.Goals as goal

pub returns-in-Some : goal.returns-in-Some
returns-in-Some c =
    let s = c.args.self.now in
    let h = c.in-Some.ensures in
    (by_votes (entry_of s.entries.now) (opened s) s.count c.args.width (cell_of s.cell) _ h, rw h.0 (best_below _ c.args.width 32 (omega arith) c.requires))

pub returns-in-None : goal.returns-in-None
returns-in-None c =
    let s = c.args.self.now in (
      by_wanted (entry_of s.entries.now) (opened s) s.count c.args.width (cell_of s.cell) _ _ c.in-None.ensures c.all_bits.ensures c.highest.ensures,
      rw c.highest.ensures (best_below _ c.args.width 32 (omega arith) c.requires),
    )
