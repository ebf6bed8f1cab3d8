use mathlib.Core.Path.{sym, ap₂, ◌∙◌}
use Prim.Native.Nat.{ℕ}
use native.Mathlib.Omega.{arith}
use borrow.Author.Tests.{eq-eqb, ne_eqb}
use Rattle.words.specs.Tests.{◌and◌}
use Rattle.words.specs.Words.{part}
use Rattle.words.proofs.Parts.{part_mask, part_low, part_lt}
use Rattle.flat.specs.Nodes.{header_rest, header_of}
use Rattle.flat.proofs.header_of.Goals as goal

pub returns-then-not-is_of-clause-value : goal.returns-then-not-is_of-clause-value
unfolding header_of ◌and◌
returns-then-not-is_of-clause-value c = rw (sym c.is_of.ensures ∙ c.if-not-is_of.true)

pub returns-then-spare-ne0-clause-value : goal.returns-then-spare-ne0-clause-value
unfolding header_of ◌and◌
returns-then-spare-ne0-clause-value c =
    let x = c.args.first in
    rw (sym c.is_of.ensures ∙ c.if-not-is_of.false, ne_eqb (part x 22 6) 0 (λ e. c.if-spare-ne0.true (part_mask x 22 6 ∙ e)))

pub header_rest-requires : goal.header_rest-requires
header_rest-requires c = let x = c.args.first in omega (arith, part_low x 16, part_lt x 0 16)

pub returns-clause-value : goal.returns-clause-value
unfolding header_of ◌and◌
returns-clause-value c =
    let x = c.args.first in
    rw (sym c.is_of.ensures ∙ c.if-not-is_of.false, eq-eqb (part x 22 6) 0 (sym (part_mask x 22 6) ∙ c.if-spare-ne0.false))
    (c.header_rest.ensures.value ∙ ap₂ (λ (v n : ℕ). header_rest v n c.args.words) (part_mask x 16 6) (part_low x 16))
