use Prim.Native.Nat.{◌-◌}
use mathlib.Core.Path.{◌≡◌}
use Rattle.table.specs.Check.{fields_check}
use Rattle.table.proofs.reading.Reader.fields.Given as goal

-- what is left to check is all that is said
abbrev pub invariant-fields : goal.invariant-fields
invariant-fields l = fields_check l.self.ws.now l.e l.self.width l.size l.opcode l.n l.p ≡ fields_check l.self.ws.now l.e l.self.width l.size l.used (l.n - l.counter) l.at
