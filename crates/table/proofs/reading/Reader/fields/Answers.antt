use Rattle.table.proofs.Laws.{passed_on, field_fits, fields_on, fields_stop, fields_done}
use mathlib.Core.Path.{sym, ◌∙◌}
use native.Mathlib.Omega.{arith}
use Rattle.table.proofs.reading.Reader.fields.Goals as goal

pub returns-in_err-used : goal.returns-in_err-used
returns-in_err-used c =
    passed_on _ _ c.from_residual.ensures.1 ∙ sym (c.fields.invariant ∙ fields_stop _ _ _ _ _ _ _ _ _ _ c.fields-test.true c.in_err-used.ensures.check)

pub overflow_add-at : goal.overflow_add-at
overflow_add-at c = omega (arith, field_fits _ _ _ _ _ (sym c.in_ok-used.ensures.check), c.args.self.now.small)

pub fields-preserved : goal.fields-preserved
fields-preserved c = c.fields.invariant ∙ rw c.in_ok-used.ensures.used (fields_on _ _ _ _ _ _ _ _ c.fields-test.true c.in_ok-used.ensures.check)

pub returns : goal.returns
returns c = rw (← c.own_bits.ensures) c.need.ensures.check ∙ sym (c.fields.invariant ∙ fields_done _ _ _ _ _ _ _ _ c.fields-test.false)
