use native.Mathlib.Omega.{arith}
use Rattle.std.proofs.lemmas.Result.{err_from_is_err_and}
use Rattle.table.proofs.Views.{ready_read}
use Rattle.withdrawal.proofs.Counting.{entry, told, told_refused, none_yet, few, own_counts, other_stays, nothing_stays, all_counted, stopped}
use Rattle.withdrawal.proofs.count_selecting.Goals as goal
use Rattle.withdrawal.proofs.count_selecting.Goals.{in-Some+then-found-entry, in-Some+else-found-entry, in_default}

pub loop-word-init : goal.loop-word-init
loop-word-init c = none_yet _ _ _

pub overflow_add-selecting : goal.overflow_add-selecting
overflow_add-selecting c = omega (arith, few _ _ _ _ _ c.loop-word.invariant, c.loop-word-test.true)

pub returns-in_err-found : goal.returns-in_err-found
returns-in_err-found c =
    let t = c.args.table.now in
    let p = err_from_is_err_and c.from_residual.result c.from_residual.ensures.1 in
    rw (p.1, p.2)
    (stopped _ _ _ _ _ c.loop-word.invariant (entry t.entries t.width _ c.requires) _ (ready_read _ _ _ _ t.ready) c.loop-word-test.true _
    (told_refused t.entries _ _ t.ready _ c.in_err-found.ensures))

pub loop-word-preserved : goal.loop-word-preserved
loop-word-preserved c =
    let t = c.args.table.now in
    let e = entry t.entries t.width _ c.requires in
    let s = c.loop-word.invariant in
    elim c.match-branch-2.branch [
      | in-Some+then-found-entry w ↦ rw w.selecting-is (own_counts _ _ _ _ _ s e _ (told t.entries _ _ t.ready _ (rw w.in-Some.is at c.in_ok-found.ensures)) w.if-found-entry.true)
      | in-Some+else-found-entry w ↦ rw w.selecting-is (other_stays _ _ _ _ _ s e _ (told t.entries _ _ t.ready _ (rw w.in-Some.is at c.in_ok-found.ensures)) w.if-found-entry.false)
      | in_default w ↦ rw w.selecting-is (nothing_stays _ _ _ _ _ s e (told t.entries _ _ t.ready _ (rw w.in_default.is at c.in_ok-found.ensures)))
    ]

pub returns : goal.returns
returns c =
    let t = c.args.table.now in
    all_counted _ _ _ _ _ c.loop-word.invariant (entry t.entries t.width _ c.requires) _ (ready_read _ _ _ _ t.ready) (omega (arith, c.loop-word-test.false))
