use Rattle.words.proofs.Parts.{run_out, run_all, run_some, one_below}
use native.Mathlib.Omega.{arith}
use Rattle.words.proofs.run.Goals as goal

pub returns-then-low-gt31 : goal.returns-then-low-gt31
returns-then-low-gt31 c = run_out c.args.low c.args.width c.if-low-gt31.true

pub returns-then-width-gt31 : goal.returns-then-width-gt31
returns-then-width-gt31 c = run_all c.args.low c.args.width c.if-width-gt31.true

pub overflow_sub-result : goal.overflow_sub-result
overflow_sub-result c = one_below _ (omega arith)

pub returns : goal.returns
returns c = run_some _ _ (omega arith)
