use Prim.Native.Nat.{◌^◌, ◌≤◌, ◌<◌}
use mathlib.Core.Bool.{false}
use mathlib.Core.Path.{◌≡◌, sym, ◌∙◌}
use borrow.Author.Tests.{ltb-true, ltb-false}
use native.Mathlib.Omega.{arith}
use Rattle.words.proofs.Logic.{not_t}
use Rattle.numbers.specs.Whole.{size_bits, on_side}
use Rattle.numbers.proofs.Ranges.{side_out, side_up, side_down, near_down}
use Rattle.numbers.proofs.Form.side_in.Goals as goal

pub returns-then-not-fits-clause-said : goal.returns-then-not-fits-clause-said
returns-then-not-fits-clause-said c = side_out _ _ _ (sym c.fits.ensures ∙ c.if-not-fits.true)

pub returns-then-not-self-clause-said : goal.returns-then-not-self-clause-said
unfolding size_bits
returns-then-not-self-clause-said c =
    let f = c.args.self in
    let below = ltb-true _ _ (sym c.fits.ensures ∙ c.if-not-fits.false) in
    let plain : f.sign ≡ false = not_t c.if-not-self.true in
    let within : c.args.value < 2 ^ size_bits f.sign f.width = rw plain below in
    side_up f.sign _ _ below within

pub returns-then-not-self-clause-near : goal.returns-then-not-self-clause-near
unfolding on_side
returns-then-not-self-clause-near c = omega arith

pub returns-then-fits-clause-said : goal.returns-then-fits-clause-said
returns-then-fits-clause-said c =
    let f = c.args.self in
    let within : c.args.value < 2 ^ size_bits f.sign f.width = rw c.size_bits-bits.ensures at (ltb-true _ _ (sym c.fits-2.ensures ∙ c.if-fits.true)) in
    side_up f.sign _ _ (ltb-true _ _ (sym c.fits.ensures ∙ c.if-not-fits.false)) within

pub returns-then-fits-clause-near : goal.returns-then-fits-clause-near
unfolding on_side
returns-then-fits-clause-near c = omega arith

pub returns-clause-said : goal.returns-clause-said
returns-clause-said c =
    let f = c.args.self in
    let over : 2 ^ size_bits f.sign f.width ≤ c.args.value = rw c.size_bits-bits.ensures at (ltb-false _ _ (sym c.fits-2.ensures ∙ c.if-fits.false)) in
    side_down f.sign _ _ _ f.some (ltb-true _ _ (sym c.fits.ensures ∙ c.if-not-fits.false)) over c.opposite-size.ensures

pub returns-clause-near : goal.returns-clause-near
returns-clause-near c =
    let f = c.args.self in
    let over : 2 ^ size_bits f.sign f.width ≤ c.args.value = rw c.size_bits-bits.ensures at (ltb-false _ _ (sym c.fits-2.ensures ∙ c.if-fits.false)) in
    near_down f.sign _ _ _ f.some (ltb-true _ _ (sym c.fits.ensures ∙ c.if-not-fits.false)) over c.opposite-size.ensures f.most
