-- `text::put_tree_line` meets its contract: the line made apart is the one defined. Assumes nothing.
use Rattle.text.proofs.Lining.{tree_line_lem, begins_within}
use lib.Seq.{length-take-le}
use native.Mathlib.Omega.{arith}
use mathlib.Core.Path.{refl, sym}
use Rattle.text.proofs.put_tree_line.Goals as goal

pub slice_bounds-line-end : goal.slice_bounds-line-end
slice_bounds-line-end c =
    let a = c.args in
    let b = tree_line_lem a.index a.word refl (omega arith) c.put_decimal-first.ensures c.put_byte-second.ensures c.put_hex-third.ensures c.put_byte-end.ensures in
    begins_within b (omega arith)

pub returns : goal.returns
returns c =
    let a = c.args in
    let b = tree_line_lem a.index a.word refl (omega arith) c.put_decimal-first.ensures c.put_byte-second.ensures c.put_hex-third.ensures c.put_byte-end.ensures in
    rw b.text_is at c.put_bytes.ensures

pub slice_bounds-put_bytes-end : goal.slice_bounds-put_bytes-end
slice_bounds-put_bytes-end c =
    let a = c.args in
    let b = tree_line_lem a.index a.word refl (omega arith) c.put_decimal-first.ensures c.put_byte-second.ensures c.put_hex-third.ensures c.put_byte-end.ensures in
    sym (length-take-le _ _ (begins_within b (omega arith)))
