use Rattle.choice.specs.declared.Status.TheVariants.{Dead}
use Rattle.choice.specs.Judged.{entry_of}
use Rattle.selection.specs.Places.{status_for}
use lib.ListN.{length, get_or}
use mathlib.Core.Path.{◌≡◌}
use Prim.Native.Nat.{ℕ, ◌<◌}
use Rattle.selection.proofs.statuses.Given as goal

abbrev pub invariant-loop-k : goal.invariant-loop-k
invariant-loop-k l = (length l.s ≡ 256) × ((j : ℕ) → j < l.k → get_or l.s j Dead ≡ status_for l.word (entry_of l.entries j))
