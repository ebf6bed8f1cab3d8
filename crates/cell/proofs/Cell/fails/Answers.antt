use Rattle.std.proofs.Common.{rules}
use borrow.Author.Tests.{tests}
use mathlib.Core.Path.{sym, ◌∙◌}
use Rattle.words.specs.Tests.{◌or◌}
use Rattle.std.proofs.lemmas.Iterator.Search.{any_from_yields_List}
use Rattle.std.proofs.lemmas.Iterator.Consumers.{YieldsList-from_first}
use Rattle.cell.specs.Cell.{implies, fails}
use Rattle.cell.specs.Items.{pattern_of, patterns_left}
use Rattle.cell.specs.Decide.{cell_of}
use Rattle.cell.proofs.Walks.{any_is}
use Rattle.cell.proofs.Cell.fails.Goals as goal

pub returns-then-clashes : goal.returns-then-clashes
unfolding fails ◌or◌
returns-then-clashes c = search rules

pub returns-else-clashes : goal.returns-else-clashes
unfolding fails ◌or◌
returns-else-clashes c =
    let e = any_from_yields_List (implies (cell_of c.args.self)) c.any.new.self _ c.any.result c.any.ensures.ran
    (YieldsList-from_first pattern_of patterns_left {s = c.unmatching.result} _ c.unmatching.ensures) (λ x b q k. search (rules, tests)) in
    rw (← c.matching.ensures, sym c.clashes.ensures ∙ c.if-clashes.false) (e ∙ any_is _ _)
