use Prim.Native.Nat.{◌-◌}
use mathlib.Core.Path.{◌≡◌}
use Rattle.table.specs.Check.{unmatchings_check}
use Rattle.table.proofs.reading.Reader.unmatchings.Given as goal

-- what is left to check is all that is said
abbrev pub invariant-patterns : goal.invariant-patterns
invariant-patterns l = unmatchings_check l.self.ws.now l.own l.n l.p ≡ unmatchings_check l.self.ws.now l.own (l.n - l.counter) l.at
