use mathlib.Core.Path.{◌≡◌}
use Prim.Native.Nat.{◌≤◌}
use lib.ListN.{get_or}
use Rattle.words.specs.Tests.{how_many}
use Rattle.words.specs.Words.{bit}
use Rattle.cell.proofs.testing.weigh.Given as goal

abbrev pub invariant-loop-mask : goal.invariant-loop-mask
invariant-loop-mask l = (l.votes ≡ how_many (λ j. bit (get_or l.masks j 0) l.i) l.mask-index) × (l.votes ≤ l.mask-index)
