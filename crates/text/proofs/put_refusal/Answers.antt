-- `text::put_refusal` meets its contract: the line made apart is the one defined. Assumes nothing.
use Rattle.text.proofs.Lining.{refusal_line_lem, begins_within}
use lib.Seq.{length-take-le}
use native.Mathlib.Omega.{arith}
use mathlib.Core.Path.{refl, sym}
use Rattle.text.proofs.put_refusal.Goals as goal

pub slice_bounds-line-end : goal.slice_bounds-line-end
slice_bounds-line-end c =
    let a = c.args.cause in
    let b = refusal_line_lem a.number a.place a.word refl (omega arith) (omega arith) c.put_bytes-first.ensures c.put_decimal-second.ensures c.put_byte-third.ensures c.put_decimal-fourth.ensures c.put_byte-fifth.ensures c.put_hex-sixth.ensures c.put_byte-end.ensures in
    begins_within b (omega arith)

pub returns : goal.returns
returns c =
    let a = c.args.cause in
    let b = refusal_line_lem a.number a.place a.word refl (omega arith) (omega arith) c.put_bytes-first.ensures c.put_decimal-second.ensures c.put_byte-third.ensures c.put_decimal-fourth.ensures c.put_byte-fifth.ensures c.put_hex-sixth.ensures c.put_byte-end.ensures in
    rw b.text_is at c.put_bytes.ensures

pub slice_bounds-put_bytes-end-3 : goal.slice_bounds-put_bytes-end-3
slice_bounds-put_bytes-end-3 c =
    let a = c.args.cause in
    let b = refusal_line_lem a.number a.place a.word refl (omega arith) (omega arith) c.put_bytes-first.ensures c.put_decimal-second.ensures c.put_byte-third.ensures c.put_decimal-fourth.ensures c.put_byte-fifth.ensures c.put_hex-sixth.ensures c.put_byte-end.ensures in
    sym (length-take-le _ _ (begins_within b (omega arith)))
