use mathlib.Core.Path.{sym, ◌∙◌}
use borrow.Author.Tests.{eq-eqb, ne_eqb}
use Rattle.words.specs.Words.{part}
use Rattle.words.proofs.Parts.{part_low}
use Rattle.flat.specs.Nodes.{nothing_node}
use Rattle.flat.proofs.nothing_node.Goals as goal

pub returns-then-spare-ne0-clause-value : goal.returns-then-spare-ne0-clause-value
unfolding nothing_node
returns-then-spare-ne0-clause-value c = let x = c.args.word in rw (ne_eqb (part x 0 28) 0 (λ e. c.if-spare-ne0.true (part_low x 28 ∙ e)))

pub returns-clause-value : goal.returns-clause-value
unfolding nothing_node
returns-clause-value c = let x = c.args.word in rw (eq-eqb (part x 0 28) 0 (sym (part_low x 28) ∙ c.if-spare-ne0.false))
