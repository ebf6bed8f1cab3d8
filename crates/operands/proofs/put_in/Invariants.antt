use Rattle.operands.specs.Answers.{InWord, makes}
use Rattle.table.specs.Table.{fields_at}
use lib.ListN.{length, drop}
use mathlib.Core.Path.{◌≡◌}
use Prim.Native.Nat.{◌+◌, ◌-◌}
use Rattle.operands.proofs.put_in.Given as goal

abbrev pub invariant-loop-k : goal.invariant-loop-k
invariant-loop-k l = InWord (fields_at l.ws (length l.values - l.k) (l.p + l.k))
    × (makes 0 l.opcode (fields_at l.ws (length l.values) l.p) l.values ≡ makes l.k l.w (fields_at l.ws (length l.values - l.k) (l.p + l.k)) (drop l.k l.values))
