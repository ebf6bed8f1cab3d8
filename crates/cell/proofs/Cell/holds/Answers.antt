use Rattle.std.proofs.Common.{rules}
use borrow.Author.Tests.{tests}
use mathlib.Core.Path.{sym, ◌∙◌}
use Rattle.words.specs.Tests.{◌and◌}
use Rattle.std.proofs.lemmas.Iterator.Search.{all_from_yields_List}
use Rattle.std.proofs.lemmas.Iterator.Consumers.{YieldsList-from_first}
use Rattle.cell.specs.Cell.{clashes, holds}
use Rattle.cell.specs.Items.{pattern_of, patterns_left}
use Rattle.cell.specs.Decide.{cell_of}
use Rattle.cell.proofs.Walks.{all_is}
use Rattle.cell.proofs.Cell.holds.Goals as goal

pub returns-then-implies : goal.returns-then-implies
unfolding holds ◌and◌
returns-then-implies c =
    let e = all_from_yields_List (clashes (cell_of c.args.self)) c.all.new.self _ c.all.result c.all.ensures.ran
    (YieldsList-from_first pattern_of patterns_left {s = c.unmatching.result} _ c.unmatching.ensures) (λ x b q k. search (rules, tests)) in
    rw (← c.matching.ensures, sym c.implies.ensures ∙ c.if-implies.true) (e ∙ all_is _ _)

pub returns-else-implies : goal.returns-else-implies
unfolding holds ◌and◌
returns-else-implies c = search rules
