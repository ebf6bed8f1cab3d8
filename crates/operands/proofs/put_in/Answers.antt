use Rattle.words.proofs.Parts.{part_of}
use Rattle.operands.proofs.Coding.{makes_stop, makes_on, makes_done, word_low, word_both, word_rest, shifted}
use Rattle.table.specs.Table.{field_low, field_width}
use Rattle.words.specs.Words.{word}
use borrow.Author.Tests.{ltb-true}
use lib.ListN.{length, get_or}
use lib.Dec.{ltb}
use mathlib.Core.Bool.{true}
use mathlib.Core.Path.{◌≡◌, sym, ◌∙◌}
use native.Mathlib.Nat.{sub-zero, add-zero}
use native.Mathlib.Omega.{arith}
use Prim.Native.Nat.{◌+◌, ◌*◌, ◌%◌, ◌^◌, ◌<◌}
use Rattle.operands.proofs.put_in.Goals as goal

pub loop-k-init : goal.loop-k-init
loop-k-init c = (rw (sub-zero, add-zero) c.requires.2, rw (sub-zero, add-zero))

pub returns-then-not-fits : goal.returns-then-not-fits
returns-then-not-fits c = sym (c.loop-k.invariant.1 ∙ makes_stop c.args.ws.now c.args.p c.args.values.now c.loop-k.k c.loop-k-test.true _ (rw (part_of _ _ _ 0 8 c.part.ensures c.word_at-field.ensures) at (sym c.fits.ensures ∙ c.if-not-fits.true)))

pub overflow_shl-w : goal.overflow_shl-w
overflow_shl-w c = omega (arith, part_of _ _ _ 8 8 c.part-in-loop-k.ensures c.word_at-field.ensures, word_low c.args.ws.now c.args.p c.args.values.now c.loop-k.k c.loop-k-test.true c.loop-k.invariant.0)

pub loop-k-preserved : goal.loop-k-preserved
loop-k-preserved c =
    let ws = c.args.ws.now in
    let p = c.args.p in
    let vs = c.args.values.now in
    let k = c.loop-k.k in
    let i = c.loop-k.invariant in
    let h : k < length vs = c.loop-k-test.true in
    let low : c.part-in-loop-k.result ≡ field_low (word ws (p + k)) = part_of _ _ _ 8 8 c.part-in-loop-k.ensures c.word_at-field.ensures in
    let fit : ltb (get_or vs k 0) (2 ^ field_width (word ws (p + k))) ≡ true
    = rw (part_of _ _ _ 0 8 c.part.ensures c.word_at-field.ensures) at (sym c.fits.ensures ∙ c.if-not-fits.false) in
    let e : (get_or vs k 0 * 2 ^ c.part-in-loop-k.result) % 2 ^ 32 ≡ get_or vs k 0 * 2 ^ field_low (word ws (p + k))
    = rw low (shifted (get_or vs k 0) (field_low (word ws (p + k))) (field_width (word ws (p + k))) (ltb-true _ _ fit) (word_both ws p vs k h i.0)) in
    (word_rest ws p vs k h i.0, i.1 ∙ rw e (makes_on ws p vs k h c.loop-k.w fit))

pub returns : goal.returns
returns c = sym (c.loop-k.invariant.1 ∙ makes_done c.args.ws.now c.args.p c.args.values.now c.loop-k.k _ (omega arith))
