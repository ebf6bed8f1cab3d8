use native.Mathlib.Omega.{arith}
use Rattle.choice.specs.Judged.{entry_of}
use Rattle.cell.specs.Decide.{cell_of}
use Rattle.cell.proofs.Deciding.{some_open}
use Rattle.cell.proofs.standing.Standing.any_open.Goals as goal

pub returns : goal.returns
returns c =
    let s = c.args.self.now in
    some_open (entry_of s.entries.now) s.count (cell_of s.cell) s.statuses.now s.stated (omega (arith, s.number, s.room)) _ c.contains.ensures.cases
