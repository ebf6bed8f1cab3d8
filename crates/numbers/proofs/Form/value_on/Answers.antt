use Rattle.numbers.specs.Whole.{size_bits}
use Rattle.numbers.proofs.Ranges.{bits_lt, limit, size_fits, value_fits, kept_out, kept_up, kept_plain, kept_down}
use Prim.Native.Nat.{◌^◌, ◌≤◌, ◌<◌}
use native.Mathlib.Omega.{arith}
use Rattle.words.proofs.Logic.{not_t, not_f}
use Rattle.numbers.proofs.Form.value_on.Goals as goal

pub overflow_shl-bits : goal.overflow_shl-bits
overflow_shl-bits c = let f = c.args.self in bits_lt f.sign f.width c.args.side.size f.most _ c.size_bits-bits.ensures

pub returns-then-bits-side : goal.returns-then-bits-side
returns-then-bits-side c =
    let f = c.args.self in
    let over : 2 ^ size_bits f.sign f.width ≤ c.args.side.size = omega (arith, limit f.sign f.width c.args.side.size f.most _ c.size_bits-bits.ensures, c.if-bits-side.true) in
    kept_out _ _ _ _ over

pub overflow_cast-result : goal.overflow_cast-result
overflow_cast-result c =
    let f = c.args.self in
    let within : c.args.side.size < 2 ^ size_bits f.sign f.width = omega (arith, limit f.sign f.width c.args.side.size f.most _ c.size_bits-bits.ensures, c.if-bits-side.false) in
    record { fits = value_fits f.sign _ _ f.most (size_fits _ _ _ f.most within) }

pub returns-then-not-side : goal.returns-then-not-side
returns-then-not-side c =
    let f = c.args.self in
    let within : c.args.side.size < 2 ^ size_bits f.sign f.width = omega (arith, limit f.sign f.width c.args.side.size f.most _ c.size_bits-bits.ensures, c.if-bits-side.false) in
    kept_up _ _ _ _ (not_t c.if-not-side.true) within

pub returns-then-not-self : goal.returns-then-not-self
returns-then-not-self c = kept_plain _ _ _ _ (not_f c.if-not-side.false) (not_t c.if-not-self.true)

pub opposite-requires : goal.opposite-requires
opposite-requires c =
    let f = c.args.self in
    let within : c.args.side.size < 2 ^ size_bits f.sign f.width = omega (arith, limit f.sign f.width c.args.side.size f.most _ c.size_bits-bits.ensures, c.if-bits-side.false) in
    size_fits _ _ _ f.most within

pub returns : goal.returns
returns c =
    let f = c.args.self in
    let within : c.args.side.size < 2 ^ size_bits f.sign f.width = omega (arith, limit f.sign f.width c.args.side.size f.most _ c.size_bits-bits.ensures, c.if-bits-side.false) in
    kept_down _ _ _ _ _ (not_f c.if-not-side.false) (not_f c.if-not-self.false) within c.opposite.ensures
