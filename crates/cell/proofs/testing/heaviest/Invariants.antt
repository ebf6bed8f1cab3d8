use Prim.Native.Nat.{◌+◌, ◌-◌, ◌≤◌}
use mathlib.Core.Path.{◌≡◌}
use Rattle.cell.specs.Decide.{weight_of}
use Rattle.words.specs.Tests.{best}
use Rattle.cell.proofs.testing.heaviest.Given as goal

abbrev pub invariant-loop-i : goal.invariant-loop-i
invariant-loop-i l = (l.i ≤ 1 + (l.width - 1)) × (l.bit ≡ best (weight_of l.masks l.fixed) l.i) × (l.weight ≡ weight_of l.masks l.fixed l.bit)
