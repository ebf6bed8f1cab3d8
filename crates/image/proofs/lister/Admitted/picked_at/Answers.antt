use mathlib.Core.Path.{ap, ◌∙◌}
use borrow.Author.Tests.{lt-ltb, le-ltb}
use Rattle.image.specs.Items.{picked, last_picked, picked_at}
use Rattle.image.proofs.Order.{no_less, less}
use Rattle.image.proofs.lister.Admitted.picked_at.Goals as goal

pub returns-then-lt : goal.returns-then-lt
unfolding picked_at
returns-then-lt c =
    let e = rw (c.after.ensures, c.end.ensures) at (less c.after.result c.end.result c.lt.result c.lt.ensures c.if-lt.true) in
    rw (lt-ltb _ _ e) (c.pick.ensures ∙ ap (picked _) c.full_word.ensures)

pub returns : goal.returns
unfolding picked_at
returns c =
    let e = rw (c.after.ensures, c.end.ensures) at (no_less c.after.result c.end.result c.lt.result c.lt.ensures c.if-lt.false) in
    rw (le-ltb _ _ e) (c.pick_last.ensures ∙ ap (last_picked _) c.half.ensures)
