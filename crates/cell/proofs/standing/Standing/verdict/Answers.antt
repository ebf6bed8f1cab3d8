use mathlib.Core.Path.{◌∙◌}
use Rattle.choice.specs.Judged.{entry_of}
use Rattle.cell.specs.Decide.{cell_of}
use Rattle.cell.proofs.Deciding.{settled}
use Rattle.cell.proofs.standing.Standing.verdict.Goals as goal

pub returns : goal.returns
returns c =
    let s = c.args.self.now in
    c.judge.ensures ∙ settled (entry_of s.entries.now) s.count (cell_of s.cell) s.statuses.now s.stated s.entries.now.count s.number
