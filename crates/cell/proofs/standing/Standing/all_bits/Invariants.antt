use mathlib.Core.Path.{◌≡◌}
use Prim.Native.Nat.{ℕ}
use Rattle.words.specs.Words.{bit}
use Rattle.choice.specs.Judged.{entry_of}
use Rattle.cell.specs.Decide.{cell_of, in_some}
use Rattle.cell.specs.Opened.{opened}
use Rattle.cell.proofs.standing.Standing.all_bits.Given as goal

abbrev pub invariant-loop-j : goal.invariant-loop-j
invariant-loop-j l = (i : ℕ) → bit l.found i ≡ in_some (entry_of l.self.entries.now) (opened l.self) l.j (cell_of l.self.cell) i
