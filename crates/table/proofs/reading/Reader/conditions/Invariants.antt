use Prim.Native.Nat.{◌-◌}
use mathlib.Core.Path.{◌≡◌}
use Rattle.table.specs.Check.{conditions_check}
use Rattle.table.specs.Table.{conditions_end}
use Rattle.table.proofs.reading.Reader.conditions.Given as goal

-- what is left to check is all that is said, and it ends where all ends
abbrev pub invariant-each : goal.invariant-each
invariant-each l = record {
  check : conditions_check l.self.ws.now l.own l.n l.p ≡ conditions_check l.self.ws.now l.own (l.n - l.counter) l.at;
  end : conditions_end l.self.ws.now l.n l.p ≡ conditions_end l.self.ws.now (l.n - l.counter) l.at;
}
