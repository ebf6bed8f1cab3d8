use Rattle.table.proofs.Laws.{passed_on, unmatching_fits, unmatchings_on, unmatchings_stop, unmatchings_done}
use mathlib.Core.Path.{sym, ◌∙◌}
use native.Mathlib.Omega.{arith}
use Rattle.table.proofs.reading.Reader.unmatchings.Goals as goal

pub returns-in_err-unmatching : goal.returns-in_err-unmatching
returns-in_err-unmatching c =
    passed_on _ _ c.from_residual.ensures.1 ∙ sym (c.patterns.invariant ∙ unmatchings_stop _ _ _ _ _ _ _ c.patterns-test.true c.in_err-unmatching.ensures)

pub overflow_add-at : goal.overflow_add-at
overflow_add-at c = omega (arith, unmatching_fits _ _ _ (sym c.in_ok-unmatching.ensures), c.args.self.now.small)

pub patterns-preserved : goal.patterns-preserved
patterns-preserved c = c.patterns.invariant ∙ unmatchings_on _ _ _ _ _ c.patterns-test.true c.in_ok-unmatching.ensures

pub returns : goal.returns
returns c = sym (c.patterns.invariant ∙ unmatchings_done _ _ _ _ _ c.patterns-test.false)
