use borrow.Author.Tests.{eq-eqb}
use Rattle.std.proofs.Common.{rules, arith}
use Rattle.std.proofs.lemmas.Grind.{common_steps}
use Rattle.words.specs.Tests.{◌and◌}
use Rattle.words.specs.Words.{includes}
use Rattle.choice.specs.Rule.{more_specific, matches}
use Rattle.choice.proofs.Contest.more_specific.Goals as goal

pub returns-then-mask-less : goal.returns-then-mask-less
unfolding more_specific includes ◌and◌
returns-then-mask-less c = search rules

pub returns-then-mask-less-2 : goal.returns-then-mask-less-2
unfolding more_specific includes ◌and◌
returns-then-mask-less-2 c = simp (← c.word_at-mask.ensures, ← c.word_at-less.ensures, eq-eqb _ _ c.if-mask-less.false, eq-eqb _ _ c.if-mask-less-2.true)

pub returns : goal.returns
unfolding more_specific includes matches ◌and◌
returns c = grind (arith, common_steps)
