use mathlib.Core.Path.{sym, ◌∙◌}
use lib.ListN.{take}
use Rattle.words.proofs.Logic.{clash, not_t, not_f}
use Rattle.choice.proofs.Leading.{none_live, leader_wins, leader_open, leader_beaten, judge_front}
use Rattle.choice.proofs.Statuses.{sure_is}
use Rattle.choice.proofs.judge.Goals as goal

pub returns-in_default : goal.returns-in_default
returns-in_default c =
    let s = take c.min.result c.args.s.now in
    none_live _ s _ c.in_default.ensures ∙ judge_front _ c.args.s.now _ _ c.told-s c.min.ensures

pub returns-then-ne : goal.returns-then-ne
returns-then-ne c =
    let s = take c.min.result c.args.s.now in
    leader_open _ s _ _ c.leader-lead.ensures (sym (sure_is _) ∙ not_t (sym c.ne.ensures ∙ c.if-ne.true))
    ∙ judge_front _ c.args.s.now _ _ c.told-s c.min.ensures

pub returns-then-beats : goal.returns-then-beats
returns-then-beats c =
    let s = take c.min.result c.args.s.now in
    leader_wins _ s _ _ c.leader-lead.ensures (sym (sure_is _) ∙ not_f (sym c.ne.ensures ∙ c.if-ne.false)) (c.beats.ensures.0 c.if-beats.true)
    ∙ judge_front _ c.args.s.now _ _ c.told-s c.min.ensures

pub returns : goal.returns
returns c =
    let s = take c.min.result c.args.s.now in
    leader_beaten _ s _ _ c.leader-lead.ensures (λ w. clash (c.beats.ensures.1 w) c.if-beats.false)
    ∙ judge_front _ c.args.s.now _ _ c.told-s c.min.ensures
