use Rattle.std.proofs.lemmas.Result.{err_from_is_err_and}
use Rattle.numbers.proofs.Judging.{sound}
use Rattle.numbers.proofs.Answering.{text_refused, text_out, writes_refused, writes_in}
use Rattle.numbers.proofs.Writing.{too_short, written}
use Rattle.numbers.proofs.put_text.Goals as goal

pub returns-in_err-form : goal.returns-in_err-form
returns-in_err-form c =
    let p = err_from_is_err_and c.from_residual.result c.from_residual.ensures.1 in
    rw (p.1, p.2) (writes_refused _ _ _ (text_refused _ _ c.in_err-form.ensures _))

pub returns-in_err-side : goal.returns-in_err-side
returns-in_err-side c =
    let r = c.from_residual-in_err-side in
    let p = err_from_is_err_and r.result r.ensures.1 in
    rw (p.1, p.2) (writes_refused _ _ _ (text_out (sound _ _ c.in_ok-form.ensures) _ _ c.in_err-side.ensures.said))

pub returns-then-out-end : goal.returns-then-out-end
returns-then-out-end c =
    let m = c.make_line-end in
    writes_in (sound _ _ c.in_ok-form.ensures) _ _ _ _ _ c.in_ok-side.ensures.said (too_short _ _ _ m.ensures.text m.array_long m.ensures.short _ c.if-out-end.true)

pub returns : goal.returns
returns c =
    let m = c.make_line-end in
    writes_in (sound _ _ c.in_ok-form.ensures) _ _ _ _ _ c.in_ok-side.ensures.said (written _ _ _ m.ensures.text m.array_long m.ensures.short _ c.if-out-end.false c.put_bytes.ensures)
