use mathlib.Core.Path.{◌≡◌}
use lib.ListN.{length}
use native.Mathlib.Omega.{arith}
use native.Mathlib.Numerals.{add-one}
use Rattle.image.proofs.Filling.{filling_start, filling_more, filling_all, filling_full}
use Rattle.image.proofs.Order.{no_less, less, no_more, more}
use Rattle.image.proofs.lister.Admitted.fill.Goals as goal

pub loop-n-init : goal.loop-n-init
loop-n-init c = filling_start _ _ _

pub returns-then-le : goal.returns-then-le
returns-then-le c =
    let e = rw c.end-end.ensures at (no_more c.end-end.result c.loop-n.at c.le.result c.le.ensures c.if-le.true) in
    filling_all _ _ _ _ _ _ c.loop-n.invariant e

pub loop-n-preserved : goal.loop-n-preserved
loop-n-preserved c =
    let e = rw c.end-end.ensures at (more c.end-end.result c.loop-n.at c.le.result c.le.ensures c.if-le.false) in
    rw add-one (filling_more _ _ _ _ _ _ c.loop-n.invariant e (omega arith) c.item_at-item.result c.item_at-item.ensures)

pub returns-then-lt : goal.returns-then-lt
returns-then-lt c =
    let e = rw c.end-end.ensures at (less c.loop-n.at c.end-end.result c.lt.result c.lt.ensures c.if-lt.true) in
    filling_full _ _ _ _ _ _ c.loop-n.invariant e (omega (arith, c.args.self.now.short)) (omega arith)

pub returns : goal.returns
returns c =
    let e = rw c.end-end.ensures at (no_less c.loop-n.at c.end-end.result c.lt.result c.lt.ensures c.if-lt.false) in
    let all : c.loop-n.n ≡ length c.loop-n.out = omega arith in
    filling_all _ _ _ _ _ _ (rw all at c.loop-n.invariant) e
