use mathlib.Core.Path.{refl, sym, ap, ap₂, ◌∙◌}
use Rattle.std.specs.Prelude.{Some, None}
use Rattle.flat.specs.declared.Node.TheVariants as node
use Rattle.halves.specs.Common.{both_of, from_sides}
use Rattle.halves.specs.declared.Shared.TheVariants.{Entry, Nothing, Several}
use Rattle.halves.specs.declared.Side.TheVariants.{Zero, One, Either}
use Rattle.halves.proofs.Steps.{ends, too_deep, goes}
use Rattle.halves.proofs.+below.Goals as goal

pub returns-then-depth-lt1 : goal.returns-then-depth-lt1
returns-then-depth-lt1 t c = too_deep _ _ _ _ _ _ _ c.word_at.ensures c.node_of.ensures.value _ _ (c.in-Some.is ∙ ap Some c.in-Asks.is) _ c.if-depth-lt1.true

pub returns-in_default : goal.returns-in_default
returns-in_default t c = ends _ _ _ _ _ _ _ c.word_at.ensures c.node_of.ensures.value _ None Several c.in_default.is (λ s. refl)

pub returns-in-Names : goal.returns-in-Names
returns-in-Names t c = ends _ _ _ _ _ _ _ c.word_at.ensures c.node_of.ensures.value _ (Some (node.Names _)) (Entry _) (c.in-Some.is ∙ ap Some c.in-Names.is) (λ s. refl)

pub returns-in-Nothing : goal.returns-in-Nothing
returns-in-Nothing t c = ends _ _ _ _ _ _ _ c.word_at.ensures c.node_of.ensures.value _ (Some node.Nothing) Nothing (c.in-Some.is ∙ ap Some c.in-Nothing.is) (λ s. refl)

pub returns-in-Zero : goal.returns-in-Zero
unfolding from_sides
returns-in-Zero t c = c.below.ensures ∙ goes _ _ _ _ _ _ _ c.word_at.ensures c.node_of.ensures.value _ _ (c.in-Some.is ∙ ap Some c.in-Asks.is) _ c.if-depth-lt1.false Zero (sym c.in-Zero.is ∙ c.side_of-side.ensures)

pub returns-in-One : goal.returns-in-One
unfolding from_sides
returns-in-One t c = c.below-in-One.ensures ∙ goes _ _ _ _ _ _ _ c.word_at.ensures c.node_of.ensures.value _ _ (c.in-Some.is ∙ ap Some c.in-Asks.is) _ c.if-depth-lt1.false One (sym c.in-One.is ∙ c.side_of-side.ensures)

pub returns-in-Either : goal.returns-in-Either
unfolding from_sides
returns-in-Either t c =
    c.both.ensures ∙ ap₂ both_of c.below-zero.ensures c.below-other.ensures
    ∙ goes _ _ _ _ _ _ _ c.word_at.ensures c.node_of.ensures.value _ _ (c.in-Some.is ∙ ap Some c.in-Asks.is) _ c.if-depth-lt1.false Either (sym c.in-Either.is ∙ c.side_of-side.ensures)
