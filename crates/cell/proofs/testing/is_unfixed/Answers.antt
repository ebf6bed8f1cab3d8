use mathlib.Core.Bool.{not}
use mathlib.Core.Path.{sym, ap, ◌∙◌}
use Rattle.words.proofs.Parts.{bit_shr}
use Rattle.words.specs.Tests.{◌and◌}
use borrow.Author.Tests.{eq-eqb, ne_eqb}
use Rattle.cell.proofs.testing.is_unfixed.Goals as goal

pub returns-then-mask-i-eq1 : goal.returns-then-mask-i-eq1
unfolding ◌and◌
returns-then-mask-i-eq1 c = simp (sym (bit_shr c.args.mask c.args.i) ∙ eq-eqb _ _ c.if-mask-i-eq1.true) (ap not (bit_shr c.args.fixed c.args.i))

pub returns-else-mask-i-eq1 : goal.returns-else-mask-i-eq1
unfolding ◌and◌
returns-else-mask-i-eq1 c = let e = ne_eqb _ _ c.if-mask-i-eq1.false in simp (e, sym (bit_shr c.args.mask c.args.i) ∙ e)
