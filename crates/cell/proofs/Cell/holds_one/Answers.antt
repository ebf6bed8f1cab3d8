use Rattle.std.proofs.Common.{rules}
use borrow.Author.Tests.{tests}
use mathlib.Core.Path.{refl, ◌∙◌}
use Rattle.std.proofs.lemmas.Iterator.Search.{any_from_yields_List}
use Rattle.std.proofs.lemmas.Iterator.Consumers.{YieldsList-from_first}
use Rattle.cell.specs.Cell.{holds}
use Rattle.cell.specs.Items.{condition_of, conditions_left}
use Rattle.cell.specs.Decide.{cell_of}
use Rattle.cell.proofs.Walks.{any_is}
use Rattle.cell.proofs.Cell.holds_one.Goals as goal

pub returns : goal.returns
returns c =
    let e = any_from_yields_List (holds (cell_of c.args.self)) c.any.new.self _ c.any.result c.any.ensures.ran
    (YieldsList-from_first condition_of conditions_left {s = c.args.conditions} _ refl) (λ x b q k. search (rules, tests)) in
    e ∙ any_is _ _
