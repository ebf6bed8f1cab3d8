use Rattle.table.proofs.Laws.{passed_on, conditions_on, conditions_stop, conditions_done, ends_on, ends_done}
use mathlib.Core.Path.{sym, ◌∙◌}
use Rattle.table.proofs.reading.Reader.conditions.Goals as goal

pub returns-in_err-at-clause-check : goal.returns-in_err-at-clause-check
returns-in_err-at-clause-check c =
    passed_on _ _ c.from_residual.ensures.1 ∙ sym (c.each.invariant.check ∙ conditions_stop _ _ _ _ _ _ _ c.each-test.true c.in_err-at.ensures.check)

pub each-preserved : goal.each-preserved
each-preserved c =
    let s = c.each-test.true in
    let i = c.each.invariant in
    record {
      check = i.check ∙ rw c.in_ok-at.ensures.end (conditions_on _ _ _ _ _ s c.in_ok-at.ensures.check);
      end = i.end ∙ rw c.in_ok-at.ensures.end (ends_on _ _ _ _ s);
    }

pub returns : goal.returns
returns c =
    let s = c.each-test.false in
    record {
      check = sym (c.each.invariant.check ∙ conditions_done _ _ _ _ _ s);
      end = sym (c.each.invariant.end ∙ ends_done _ _ _ _ s);
    }
