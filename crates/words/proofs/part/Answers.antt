use native.Mathlib.Omega.{arith}
use Rattle.words.proofs.Parts.{part_out, part_all, part_some, one_below}
use Rattle.words.proofs.part.Goals as goal

pub returns-then-low-gt31 : goal.returns-then-low-gt31
returns-then-low-gt31 c = part_out c.args.w _ _ (omega arith) c.if-low-gt31.true

pub returns-then-width-gt31 : goal.returns-then-width-gt31
returns-then-width-gt31 c = part_all c.args.w _ _ (omega arith) c.if-width-gt31.true

pub overflow_sub-result : goal.overflow_sub-result
overflow_sub-result c = one_below _ (omega arith)

pub returns : goal.returns
returns c = part_some _ _ _ (omega arith)
