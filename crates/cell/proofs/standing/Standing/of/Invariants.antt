use mathlib.Core.Path.{◌≡◌}
use Prim.Native.Nat.{ℕ, ◌<◌}
use lib.ListN.{length, get_or}
use Rattle.choice.specs.declared.Status.TheVariants.{Dead}
use Rattle.choice.specs.Judged.{entry_of}
use Rattle.cell.specs.Decide.{cell_of, status_of}
use Rattle.cell.proofs.standing.Standing.of.Given as goal

abbrev pub invariant-loop-j : goal.invariant-loop-j
invariant-loop-j l = (length l.statuses ≡ 256) × ((k : ℕ) → k < l.j → get_or l.statuses k Dead ≡ status_of (cell_of l.cell) (entry_of l.entries k))
