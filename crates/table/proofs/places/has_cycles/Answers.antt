use lib.Dec.{eqb}
use mathlib.Core.Path.{ap, ◌∙◌}
use Prim.Native.Nat.{ℕ}
use Rattle.table.specs.Table.{has_cycles}
use Rattle.words.specs.Words.{part}
use Rattle.table.proofs.places.has_cycles.Goals as goal

pub returns : goal.returns
unfolding has_cycles
returns c = c.is_of.ensures ∙ ap (λ (w : ℕ). eqb (part w 28 4) 6) c.word_at.ensures
