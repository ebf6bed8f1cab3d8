use mathlib.Core.Path.{sym, ◌∙◌}
use Rattle.selection.proofs.Finding.{claim_sure, claim_dead}
use Rattle.selection.proofs.status_for.Goals as goal

pub returns-then-claims : goal.returns-then-claims
returns-then-claims c = claim_sure _ _ (sym c.claims.ensures ∙ c.if-claims.true)

pub returns-else-claims : goal.returns-else-claims
returns-else-claims c = claim_dead _ _ (sym c.claims.ensures ∙ c.if-claims.false)
