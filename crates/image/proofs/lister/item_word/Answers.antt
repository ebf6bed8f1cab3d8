use lib.Bits.{bit_or, or_shifted_r}
use native.Mathlib.Omega.{arith}
use Prim.Native.Nat.{ℕ, ◌+◌, ◌*◌, ◌%◌, ◌^◌}
use mathlib.Core.Path.{◌≡◌, ap, ◌∙◌}
use Rattle.words.specs.Kinds.{kind_number}
use Rattle.image.proofs.lister.item_word.Goals as goal

pub returns : goal.returns
returns c =
    let a = c.args.a.0 in
    let e = c.args.entry in
    let k = kind_number c.args.kind in
    let small : e * 2 ^ 20 % 2 ^ 32 ≡ e * 2 ^ 20 = omega arith in
    rw (c.from.ensures, c.word.ensures, small)
    (ap (λ (n : ℕ). bit_or n (k * 2 ^ 28)) (or_shifted_r e 20 a (omega arith)) ∙ or_shifted_r k 28 (e * 2 ^ 20 + a) (omega arith) ∙ omega arith)
