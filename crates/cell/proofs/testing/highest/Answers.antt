use Rattle.cell.proofs.Loops.{best_top, best_last, from_less, unfixed_le, unfixed_yes, unfixed_no}
use mathlib.Core.Path.{sym, ◌∙◌}
use native.Mathlib.Omega.{arith}
use Rattle.cell.proofs.testing.highest.Goals as goal

pub returns-then-is_unfixed : goal.returns-then-is_unfixed
returns-then-is_unfixed c =
    let l = c.loop-i in
    best_top _ _ _ (omega arith) (λ j. unfixed_le _ _ j) (unfixed_yes _ _ _ (sym c.is_unfixed.ensures ∙ c.if-is_unfixed.true)) (λ j k m. l.invariant j (omega arith) m)

pub loop-i-preserved : goal.loop-i-preserved
loop-i-preserved c =
    let l = c.loop-i in
    from_less _ l.i _ c.loop-i-test.true l.invariant (unfixed_no _ _ _ (sym c.is_unfixed.ensures ∙ c.if-is_unfixed.false))

pub returns : goal.returns
returns c = rw c.saturating_sub.ensures (best_last _ _ (λ j h. c.loop-i.invariant j (omega arith) h))
