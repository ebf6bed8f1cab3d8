use Rattle.words.proofs.Parts.{fits_all, fits_some}
use native.Mathlib.Omega.{arith}
use Rattle.words.proofs.fits.Goals as goal

pub returns-then-width-gt31 : goal.returns-then-width-gt31
returns-then-width-gt31 c = fits_all c.args.w _ (omega arith) c.if-width-gt31.true

pub returns : goal.returns
returns c = fits_some c.args.w c.args.width (omega arith)
