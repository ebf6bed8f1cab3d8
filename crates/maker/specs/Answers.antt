-- What generating's and sizing's answers say.
use Rattle.std.specs.Prelude.{ℕ, ◌≡◌, List, length, Result}
use Rattle.words.specs.Outcome.{Outcome, said, said_as}
use Rattle.words.specs.declared.Refusal.{Refusal}
use Rattle.table.specs.Check.{read_table}
use Rattle.tree.specs.Generate.{generate_of, buffer_of, Measure}
use Rattle.maker.specs.declared.Size.{Size}

-- the number of words, or what refuses
abbrev pub said_generate : Result ℕ Refusal → Outcome ℕ
said_generate r = said r

-- generating answers what the definition says, and the whole buffer is as the definition says
pub record Generates (ws before after : List ℕ) (r : Result ℕ Refusal) : Type 0 where
  pub answer : said_generate r ≡ generate_of (read_table ws) (length before)
  pub buffer : after ≡ buffer_of (read_table ws) before

abbrev pub measure_by : Size → Measure
measure_by s = record { nodes = s.nodes; tests = s.tests }

-- the same of sizing's answer
abbrev pub said_measure : Result Size Refusal → Outcome Measure
said_measure r = said_as measure_by r
