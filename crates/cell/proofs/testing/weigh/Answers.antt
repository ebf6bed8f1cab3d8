use borrow.Author.Tests.{eq-eqb, ne_eqb}
use mathlib.Core.Path.{◌≡◌, sym, refl, ap, ◌∙◌}
use Prim.Native.Nat.{ℕ}
use native.Mathlib.Omega.{arith}
use lib.ListN.{length, get_or}
use Rattle.words.specs.Tests.{how_many}
use Rattle.words.specs.Words.{bit}
use Rattle.words.proofs.Parts.{bit_shr}
use Rattle.cell.specs.Decide.{weight_of, votes_for}
use Rattle.cell.proofs.Loops.{digit_le, votes_more}
use Rattle.cell.proofs.testing.weigh.Goals as goal

pub returns-then-fixed-i-eq1 : goal.returns-then-fixed-i-eq1
unfolding weight_of
returns-then-fixed-i-eq1 c = simp (sym (bit_shr c.args.fixed c.args.i) ∙ eq-eqb _ _ c.if-fixed-i-eq1.true)

pub loop-mask-init : goal.loop-mask-init
unfolding how_many
loop-mask-init c = (refl, omega arith)

pub loop-mask-preserved : goal.loop-mask-preserved
loop-mask-preserved c =
    let l = c.loop-mask in
    let d = digit_le (get_or c.args.masks.now l.mask-index 0) c.args.i in
    let m = votes_more c.args.masks.now l.mask-index c.args.i in
    (omega (arith, m, l.invariant.0), omega (arith, d, l.invariant.1))

pub returns : goal.returns
unfolding weight_of votes_for
returns c =
    let e : c.loop-mask.mask-index ≡ length c.args.masks.now = omega arith in
    simp (sym (bit_shr c.args.fixed c.args.i) ∙ ne_eqb _ _ c.if-fixed-i-eq1.false)
    (c.loop-mask.invariant.0 ∙ ap (λ (x : ℕ). how_many (λ j. bit (get_or c.args.masks.now j 0) c.args.i) x) e)
