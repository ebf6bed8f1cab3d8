use Prim.Native.Nat.{◌≤◌}
use mathlib.Core.Path.{sym, ap, ◌∙◌}
use native.Mathlib.Nat.{mod-lt}
use native.Mathlib.Omega.{arith}
use lib.ListN.{length, length-set}
use Rattle.numbers.specs.Decimals.{divided}
use Rattle.numbers.proofs.Dividing.{digit_next, none_left}
use Rattle.numbers.proofs.divide.Goals as goal

pub loop-digit-preserved : goal.loop-digit-preserved
loop-digit-preserved c =
    let i = c.loop-digit.invariant in
    record {
      below = mod-lt _ (omega arith);
      whole = digit_next _ _ _ _ i.below (omega arith) ∙ simp length-set (i.whole);
    }

pub returns : goal.returns
returns c =
    let all : length c.loop-digit.digit-items ≤ c.loop-digit.digit-index = omega arith in
    sym (none_left _ _ _ _ all) ∙ c.loop-digit.invariant.whole ∙ ap (λ n. divided c.args.unit n c.args.rest) c.loop-digit.auto.digit-items
