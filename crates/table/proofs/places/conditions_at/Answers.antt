use Rattle.words.proofs.Parts.{part_of, part_lt}
use native.Mathlib.Omega.{arith}
use mathlib.Core.Path.{ap₂}
use Prim.Native.Nat.{◌+◌}
use Rattle.table.proofs.places.conditions_at.Goals as goal

pub returns : goal.returns
returns c = (ap₂ ◌+◌ c.fields_at.ensures.0 (part_of _ _ _ 4 4 c.part-fields.ensures c.word_at.ensures), omega (arith, c.fields_at.ensures.1, c.part-fields.ensures, part_lt c.word_at.result 4 4))
