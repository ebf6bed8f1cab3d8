use Rattle.std.proofs.Common.{rules}
use mathlib.Core.Path.{◌≡◌, refl, ap, ◌∙◌}
use lib.Bits.{bit_or}
use Rattle.std.proofs.lemmas.Fn.{fold_over}
use Rattle.std.proofs.lemmas.Iterator.Consumers.{YieldsList-from_first}
use Rattle.std.specs.Iterator.{YieldsFirstBy}
use Rattle.words.specs.Words.{bit}
use Rattle.cell.specs.Step.{in_condition}
use Rattle.cell.specs.Items.{pattern_of, patterns_left}
use Rattle.cell.proofs.Walks.{Gathers, gathers_none, gathers_more}
use Rattle.cell.proofs.items.Condition.bits.Goals as goal

pub returns : goal.returns
unfolding in_condition
returns c =
    let m = c.mask-matching.result in
    let g = fold_over (YieldsFirstBy pattern_of patterns_left) pattern_of _ (Gathers (λ i p. bit p.mask i) m) _
    (λ ys a x b q j k.
    let e : b ≡ bit_or a (pattern_of x).mask = search rules in
    (rw e (gathers_more (λ i p. bit p.mask i) m ys a (pattern_of x).mask (pattern_of x) (λ i. refl) j), search rules))
    c.unmatching.result _ m c.fold.result (YieldsList-from_first pattern_of patterns_left {s = c.unmatching.result} _ c.unmatching.ensures).runs
    (gathers_none (λ i p. bit p.mask i) m) c.fold.ensures.ran in
    λ i. g i ∙ rw (c.mask-matching.ensures ∙ ap (λ p. p.mask) c.matching.ensures)
