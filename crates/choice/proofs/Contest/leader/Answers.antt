use mathlib.Core.Path.{sym, ◌∙◌}
use Rattle.choice.proofs.Leading.{ahead_start, ahead_out, ahead_stays, ahead_taken}
use Rattle.choice.proofs.Statuses.{live_is}
use Rattle.choice.proofs.Contest.leader.Goals as goal
use Rattle.choice.proofs.Contest.leader.Goals.{then-ne+then-more_specific, else-ne, else-ne-via-then-ne+else-more_specific, else-ne-via-else-ne}

pub loop-k-init : goal.loop-k-init
loop-k-init c = ahead_start _ _ _ _ c.requires

pub loop-k-preserved : goal.loop-k-preserved
loop-k-preserved c =
    let i = c.loop-k.invariant in
    let h = c.loop-k-test.true in
    let e = sym (live_is _) ∙ sym c.ne.ensures in
    elim c.if-ne.branch [
      | then-ne+then-more_specific w ↦ rw w.lead-is (ahead_taken _ _ _ _ _ h i (e ∙ w.if-ne.true) (sym w.more_specific.ensures ∙ w.if-more_specific.true))
      | else-ne w ↦ rw w.lead-is (elim w.else-ne.branch [
        | else-ne-via-then-ne+else-more_specific v ↦ ahead_stays _ _ _ _ _ h i (sym v.more_specific.ensures ∙ v.if-more_specific.false)
        | else-ne-via-else-ne v ↦ ahead_out _ _ _ _ _ h i (e ∙ v.if-ne.false)
      ])
    ]
