-- `text::spell` meets its contract. Assumes nothing.
use Rattle.std.proofs.Common.{◌/◌, ◌<◌, arith, length-set}
use Rattle.text.proofs.Spelling.{none_yet, spelled_all, spelled_on, room_left, more_room}
use Rattle.text.proofs.spell.Goals as goal

pub loop-at-init : goal.loop-at-init
loop-at-init c = (c.told-digits, omega arith, omega arith, none_yet _ c.args.digits.now c.told-digits)

pub loop-at-preserved : goal.loop-at-preserved
loop-at-preserved c =
    let i = c.loop-at.invariant in
    let h : 0 < c.loop-at.rest / 10 = omega arith in
    (simp length-set i.0, omega (arith, more_room _ _ i.2 h), room_left _ _ i.1 i.2, spelled_on _ _ _ _ i.1 (omega arith) i.3 h)

pub returns-then-rest-eq0 : goal.returns-then-rest-eq0
returns-then-rest-eq0 c =
    let i = c.loop-at.invariant in
    (omega arith, spelled_all _ _ _ _ i.1 (omega arith) i.3 c.if-rest-eq0.true)
