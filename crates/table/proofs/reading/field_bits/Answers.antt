use Rattle.words.proofs.Parts.{run_shifts}
use Rattle.table.specs.Table.{field_bits}
use Prim.Native.Nat.{ℕ, ◌-◌, ◌*◌, ◌/◌, ◌%◌, ◌^◌}
use mathlib.Core.Path.{◌∙◌, ap₂}
use Rattle.table.proofs.reading.field_bits.Goals as goal

pub returns : goal.returns
unfolding field_bits
returns c =
    ap₂ (λ (l k : ℕ). ((2 ^ 32 - 1) / 2 ^ (32 - k) * 2 ^ l) % 2 ^ 32) c.part-low.ensures c.part-count.ensures
    ∙ run_shifts _ _ c.requires.1
