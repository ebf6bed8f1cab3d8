use mathlib.Core.Path.{refl}
use Rattle.words.proofs.Cause.by.Goals as goal

pub returns : goal.returns
returns c = refl
