use Rattle.std.proofs.Common.{rules}
use borrow.Author.Tests.{tests}
use mathlib.Core.Path.{refl, ◌∙◌}
use Rattle.std.proofs.lemmas.Iterator.Search.{all_from_yields_List}
use Rattle.std.proofs.lemmas.Iterator.Consumers.{YieldsList-from_first}
use Rattle.cell.specs.Cell.{fails}
use Rattle.cell.specs.Items.{condition_of, conditions_left}
use Rattle.cell.specs.Decide.{cell_of}
use Rattle.cell.proofs.Walks.{all_is}
use Rattle.cell.proofs.Cell.fails_all.Goals as goal

pub returns : goal.returns
returns c =
    let e = all_from_yields_List (fails (cell_of c.args.self)) c.all.new.self _ c.all.result c.all.ensures.ran
    (YieldsList-from_first condition_of conditions_left {s = c.args.conditions} _ refl) (λ x b q k. search (rules, tests)) in
    e ∙ all_is _ _
