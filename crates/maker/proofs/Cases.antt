-- Each case of generating's and sizing's answers says another thing, so that the promises fix the answers themselves. Assumes nothing.
use mathlib.Core.Path.{◌≡◌, refl}
use Prim.Native.Nat.{ℕ}
use Rattle.std.specs.Prelude.{Result}
use Rattle.words.specs.declared.Refusal.{Refusal}
use Rattle.words.proofs.Outcomes.{said_one, said_as_one}
use Rattle.tree.specs.Generate.{Measure}
use Rattle.maker.specs.Answers.{said_generate, said_measure, measure_by}
use Rattle.maker.specs.declared.Size.{Size}

pub generate_one : (r s : Result ℕ Refusal) → said_generate r ≡ said_generate s → r ≡ s
generate_one = said_one

back_measure : Measure → Size
back_measure m = record { nodes = m.nodes; tests = m.tests }

measure_back : (s : Size) → back_measure (measure_by s) ≡ s
unfolding back_measure
measure_back s = refl

pub measure_one : (r s : Result Size Refusal) → said_measure r ≡ said_measure s → r ≡ s
measure_one = said_as_one measure_by back_measure measure_back
