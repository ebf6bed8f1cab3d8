use Rattle.numbers.proofs.Writing.{puts_none, no_fraction, pointed, unit_fits, rest_is}
use Prim.Native.Nat.{◌+◌, ◌-◌, ◌≤◌, ◌%◌, ◌^◌}
use mathlib.Core.Path.{◌≡◌, ◌∙◌}
use native.Mathlib.Nat.{mod-lt}
use native.Mathlib.Omega.{arith}
use lib.Pow.{pow_pos}
use lib.Seq.{length-take-le}
use Rattle.numbers.proofs.Form.put_fraction.Goals as goal

pub returns-then-self-eq0 : goal.returns-then-self-eq0
returns-then-self-eq0 c =
    let none : c.args.self.fraction ≡ 0 = omega (arith, c.if-self-eq0.true) in
    puts_none _ _ _ (no_fraction _ _ none)

pub divide-requires : goal.divide-requires
divide-requires c =
    let e : c.part.result ≡ c.args.steps % 2 ^ c.args.self.fraction = c.part.ensures ∙ rest_is c.args.steps c.args.self.fraction in
    unit_fits _ _ c.args.self.few (rw e (mod-lt c.args.steps (pow_pos c.args.self.fraction)))

pub returns : goal.returns
returns c =
    let f = c.args.self.fraction in
    let few : f + 1 - 1 ≤ 16 = omega arith in
    let back : f + 1 - 1 ≡ f = omega arith in
    rw (pointed f c.args.steps _ _ _ _ (λ e. c.if-self-eq0.false e) c.args.self.few (c.part.ensures ∙ rest_is c.args.steps f) (length-take-le _ _ few ∙ back) c.divide.ensures) at c.put_bytes.ensures
