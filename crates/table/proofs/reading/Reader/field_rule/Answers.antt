use Rattle.table.proofs.Laws.{passed_on, goes_on, stops}
use Rattle.words.proofs.Parts.{part_lt}
use Rattle.table.specs.Check.{field_rule}
use mathlib.Core.Path.{◌∙◌}
use native.Mathlib.Omega.{arith}
use borrow.Author.Tests.{leb-true}
use Rattle.table.proofs.reading.Reader.field_rule.Goals as goal

pub returns-in_err-need : goal.returns-in_err-need
unfolding field_rule
returns-in_err-need c = passed_on _ _ c.from_residual.ensures.1 ∙ simp (← c.part-count.ensures) (stops _ _ _ _ c.in_err-need.ensures.check)

pub returns-in_err-need-2 : goal.returns-in_err-need-2
unfolding field_rule
returns-in_err-need-2 c =
    passed_on _ _ c.from_residual-in_err-need-2.ensures.1
    ∙ simp (← c.part-count.ensures, ← c.part-low.ensures, ← c.saturating_sub.ensures) (goes_on _ _ _ c.in_ok-need.ensures.check (stops _ _ _ _ c.in_err-need-2.ensures.check))

pub overflow_add-low : goal.overflow_add-low
overflow_add-low c = omega (arith, c.part-count.ensures, c.part-low.ensures, part_lt c.args.w 0 8, part_lt c.args.w 8 8)

pub returns-in_err-need-3 : goal.returns-in_err-need-3
unfolding field_rule
returns-in_err-need-3 c =
    passed_on _ _ c.from_residual-in_err-need-3.ensures.1
    ∙ simp (← c.part-count.ensures, ← c.part-low.ensures, ← c.saturating_sub.ensures)
    (goes_on _ _ _ c.in_ok-need.ensures.check (goes_on _ _ _ c.in_ok-need-2.ensures.check (stops _ _ _ _ c.in_err-need-3.ensures.check)))

pub field_bits-requires : goal.field_bits-requires
field_bits-requires c =
    let some = leb-true _ _ c.in_ok-need.ensures.met in (
      omega (arith, c.part-count.ensures, some),
      omega (arith, c.part-count.ensures, c.part-low.ensures, c.args.self.now.small, leb-true _ _ c.in_ok-need-3.ensures.met),
    )

pub returns : goal.returns
unfolding field_rule
returns c =
    simp (← c.field_bits.ensures, ← c.part-count.ensures, ← c.part-low.ensures, ← c.saturating_sub.ensures)
    (goes_on _ _ _ c.in_ok-need.ensures.check (goes_on _ _ _ c.in_ok-need-2.ensures.check (goes_on _ _ _ c.in_ok-need-3.ensures.check c.need-4.ensures.check)))
