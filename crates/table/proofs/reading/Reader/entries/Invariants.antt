use Prim.Native.Nat.{◌-◌}
use mathlib.Core.Path.{◌≡◌}
use lib.ListN.{length}
use Rattle.table.specs.Check.{entries_check}
use Rattle.table.specs.Table.{entry_place}
use Rattle.table.specs.Answer.{Placed}
use Rattle.table.proofs.reading.Reader.entries.Given as goal

-- what is left to check is all that is said; entry k stands at p, and the places before are stored
abbrev pub invariant-loop-k : goal.invariant-loop-k
invariant-loop-k l = record {
  check : entries_check l.self.ws.now l.self.width l.n 1 ≡ entries_check l.self.ws.now l.self.width (l.n - l.k) l.p;
  place : l.p ≡ entry_place l.self.ws.now l.k;
  size : length l.at ≡ 256;
  placed : Placed l.self.ws.now l.k l.at;
}
