use Rattle.std.proofs.lemmas.Result.{err_from_is_err_and}
use Rattle.operands.proofs.Confirming.{encode_refused, encode_none, encode_count, encode_made, entry_in_word, made_refused, made_word}
use Rattle.operands.proofs.Answering.{read_ready, read_low, read_stands}
use Rattle.words.proofs.Parts.{part_of}
use Rattle.table.proofs.Views.{ready_few}
use mathlib.Core.Path.{sym, ◌∙◌}
use native.Mathlib.Omega.{arith}
use Rattle.operands.proofs.encode.Goals as goal

pub returns-in_err-table : goal.returns-in_err-table
returns-in_err-table c = let p = err_from_is_err_and c.from_residual.result c.from_residual.ensures.1 in rw (p.1, p.2) (encode_refused _ _ _ _ c.in_err-table.ensures)

pub returns-then-table-entry : goal.returns-then-table-entry
returns-then-table-entry c = let g = read_ready _ _ c.in_ok-table.ensures in encode_none _ g.good _ _ (omega (arith, g.number, c.if-table-entry.true))

pub bounds-table-entry : goal.bounds-table-entry
bounds-table-entry c = omega (arith, ready_few _ _ _ _ c.in_ok-table.table.ready, c.if-table-entry.false)

pub returns-then-values-n : goal.returns-then-values-n
returns-then-values-n c =
    let reads = c.in_ok-table.ensures in
    let h = c.if-table-entry.false in
    encode_count _ (read_ready _ _ reads).good _ _ (read_low _ _ reads _ h) _ (read_stands _ _ reads _ h)
    (λ e. c.if-values-n.true (e ∙ sym (part_of _ _ _ 4 4 c.part-n.ensures c.word_at.ensures)))

pub put_in-requires : goal.put_in-requires
put_in-requires c =
    let reads = c.in_ok-table.ensures in
    let s = read_stands _ _ reads _ c.if-table-entry.false in
    let n = part_of _ _ _ 4 4 c.part-n.ensures c.word_at.ensures in (
      omega (arith, c.fields_at.ensures.1),
      omega (arith, s.few, n, c.if-values-n.false),
      rw c.fields_at.ensures.0 (entry_in_word _ _ _ _ (read_ready _ _ reads).good s (c.if-values-n.false ∙ n)),
    )

pub returns-in_err-w : goal.returns-in_err-w
returns-in_err-w c =
    let reads = c.in_ok-table.ensures in
    let h = c.if-table-entry.false in
    let p = err_from_is_err_and c.from_residual-in_err-w.result c.from_residual-in_err-w.ensures.1 in
    rw (p.1, p.2)
    (encode_made _ (read_ready _ _ reads).good _ _ (read_low _ _ reads _ h) _ (read_stands _ _ reads _ h) _
    (c.if-values-n.false ∙ part_of _ _ _ 4 4 c.part-n.ensures c.word_at.ensures)
    (made_refused _ _ _ _ _ _ c.word_at-opcode.ensures _ (rw c.fields_at.ensures.0 at c.in_err-w.ensures)))

pub returns : goal.returns
returns c =
    let reads = c.in_ok-table.ensures in
    let h = c.if-table-entry.false in
    encode_made _ (read_ready _ _ reads).good _ _ (read_low _ _ reads _ h) _ (read_stands _ _ reads _ h) _
    (c.if-values-n.false ∙ part_of _ _ _ 4 4 c.part-n.ensures c.word_at.ensures)
    (made_word _ _ _ _ _ _ c.word_at-opcode.ensures _ _ (rw c.fields_at.ensures.0 at c.in_ok-w.ensures) (rw reads.words at c.confirm.ensures))
