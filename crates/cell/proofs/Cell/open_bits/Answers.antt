use mathlib.Core.Path.{sym, ◌∙◌}
use Rattle.words.specs.Tests.{◌and◌}
use Rattle.words.proofs.Logic.{clash}
use Rattle.words.proofs.Bits.{bit_none}
use Rattle.cell.specs.Cell.{open_condition}
use Rattle.cell.proofs.Cell.open_bits.Goals as goal
use Rattle.cell.proofs.Cell.open_bits.Goals.{then-holds, else-holds}

pub returns-then-fails : goal.returns-then-fails
unfolding open_condition ◌and◌
returns-then-fails c =
    λ i.
    elim c.if-holds.branch [
      | then-holds w ↦ rw (sym c.holds.ensures ∙ w.if-holds.true) (bit_none i)
      | else-holds w ↦ rw (sym c.holds.ensures ∙ w.if-holds.false, sym w.fails.ensures ∙ sym w.value-is ∙ c.if-fails.true) (bit_none i)
    ]

pub returns-else-fails : goal.returns-else-fails
unfolding open_condition ◌and◌
returns-else-fails c =
    λ i.
    elim c.if-holds.branch [
      | then-holds w ↦ clash (w.value-is ∙ w.if-holds.true) c.if-fails.false
      | else-holds w ↦ rw (sym c.holds.ensures ∙ w.if-holds.false, sym w.fails.ensures ∙ sym w.value-is ∙ c.if-fails.false) (c.bits.ensures i)
    ]
