use mathlib.Core.Path.{ap, ◌∙◌}
use Rattle.flat.specs.Walk.{mask_or_zero}
use Rattle.walker.proofs.Headers.{shut, walks, refused_mask}
use Rattle.walker.proofs.mask.Goals as goal

pub returns-in_default : goal.returns-in_default
returns-in_default g c = refused_mask c.in_default.field-0 ∙ ap mask_or_zero (shut _ (g.W.Words.words c.args.tree) _ _ c.in_default.ensures.value)

pub returns-in-Ok-path : goal.returns-in-Ok-path
returns-in-Ok-path g c = ap mask_or_zero (c.in-Ok-path.ensures.result_value ∙ walks _ (g.W.Words.words c.args.tree) _ _ c.in-Ok.ensures.value)

pub returns-in-Err : goal.returns-in-Err
returns-in-Err g c = refused_mask c.in-Err.field-0 ∙ ap mask_or_zero (c.in-Err.ensures.result_value ∙ walks _ (g.W.Words.words c.args.tree) _ _ c.in-Ok.ensures.value)
