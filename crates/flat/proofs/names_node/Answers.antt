use mathlib.Core.Path.{sym, ap, ◌∙◌}
use Prim.Native.Nat.{ℕ}
use borrow.Author.Tests.{eq-eqb, ne_eqb}
use Rattle.std.specs.Prelude.{Some}
use Rattle.words.specs.Words.{part}
use Rattle.words.proofs.Parts.{part_mask, part_low}
use Rattle.flat.specs.Nodes.{names_node}
use Rattle.flat.specs.declared.Node.TheVariants.{Names}
use Rattle.flat.proofs.names_node.Goals as goal

pub returns-then-spare-ne0-clause-value : goal.returns-then-spare-ne0-clause-value
unfolding names_node
returns-then-spare-ne0-clause-value c = let x = c.args.word in rw (ne_eqb (part x 8 20) 0 (λ e. c.if-spare-ne0.true (part_mask x 8 20 ∙ e)))

pub returns-clause-value : goal.returns-clause-value
unfolding names_node
returns-clause-value c =
    let x = c.args.word in
    rw (eq-eqb (part x 8 20) 0 (sym (part_mask x 8 20) ∙ c.if-spare-ne0.false)) (ap (λ (e : ℕ). Some (Names e)) (part_low x 8))
