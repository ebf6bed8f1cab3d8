use mathlib.Core.Path.{◌∙◌}
use native.Mathlib.Omega.{arith}
use Rattle.image.proofs.Leading.{last_word}
use Rattle.image.proofs.Order.{no_less}
use Rattle.image.proofs.lister.Admitted.word.Goals as goal

pub returns : goal.returns
returns c =
    let s = c.args.self.now in
    let e = no_less c.after.result c.end.result c.lt.result c.lt.ensures c.if-lt.false in
    c.both_halves.ensures ∙ rw c.half.ensures (last_word s.image.now c.args.a s.even (omega (arith, rw (c.after.ensures, c.end.ensures) at e)))
