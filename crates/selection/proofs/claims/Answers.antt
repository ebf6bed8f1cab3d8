use Rattle.words.proofs.Parts.{part_of, part_lt}
use Rattle.selection.proofs.Exclusion.{claims_not, claims_by}
use mathlib.Core.Path.{◌≡◌, sym, ◌∙◌}
use native.Mathlib.Omega.{arith}
use Rattle.words.specs.Words.{part}
use Rattle.selection.proofs.claims.Goals as goal

pub excluded-requires : goal.excluded-requires
excluded-requires c =
    let e : c.part-conditions.result ≡ part c.word_at.result 0 4 = c.part-conditions.ensures in
    omega (arith, part_lt c.word_at.result 0 4, c.conditions_at.ensures.1)

pub returns-then-matches : goal.returns-then-matches
returns-then-matches c = claims_by c.args.ws.now c.args.word c.args.p _ _ _ (sym c.matches.ensures ∙ c.if-matches.true) (part_of _ _ _ 0 4 c.part-conditions.ensures c.word_at.ensures) c.conditions_at.ensures.0 c.excluded.ensures

pub returns-else-matches : goal.returns-else-matches
returns-else-matches c = c.if-matches.false ∙ claims_not c.args.ws.now c.args.word c.args.p (sym c.matches.ensures ∙ c.if-matches.false)
