use Rattle.words.proofs.Parts.{run_whole}
use native.Mathlib.Omega.{arith}
use mathlib.Core.Path.{◌∙◌}
use Rattle.table.proofs.reading.own_bits.Goals as goal

pub returns : goal.returns
returns c = c.run.ensures ∙ run_whole _ _ (omega arith)
