use mathlib.Core.Path.{refl, sym, ◌∙◌}
use native.Mathlib.Omega.{arith}
use Rattle.halves.proofs.Steps.{bad_header, too_wide, from_root}
use Rattle.halves.proofs.in_common.Goals as goal

pub returns-in_default : goal.returns-in_default
returns-in_default c = bad_header c.args.tree.now c.args.upper _ _ _ c.word_at.ensures refl c.header_of.ensures.value c.in_default.is

pub returns-then-not-fits : goal.returns-then-not-fits
returns-then-not-fits c = too_wide c.args.tree.now _ _ _ _ c.word_at.ensures refl c.header_of.ensures.value _ c.in-Some.is _ (omega arith) (sym c.fits.ensures ∙ c.if-not-fits.true)

pub returns : goal.returns
returns c =
    c.below.ensures ∙ from_root c.args.tree.now _ _ _ _ c.word_at.ensures refl c.header_of.ensures.value _ c.in-Some.is _ (omega arith) (sym c.fits.ensures ∙ c.if-not-fits.false)
