use Rattle.operands.specs.Fields.{values_in}
use Rattle.table.specs.Table.{fields_at}
use lib.Seq.{sets}
use lib.ListN.{length}
use mathlib.Core.Path.{◌≡◌}
use Prim.Native.Nat.{◌+◌, ◌-◌}
use Rattle.operands.proofs.take_out.Given as goal

abbrev pub invariant-loop-k : goal.invariant-loop-k
invariant-loop-k l = (length l.out ≡ length l.initial.out)
    × (sets l.initial.out 0 (values_in (fields_at l.ws l.n l.p) l.word) ≡ sets l.out l.k (values_in (fields_at l.ws (l.n - l.k) (l.p + l.k)) l.word))
