use Rattle.std.specs.Prelude.{Some, Ok}
use Rattle.std.proofs.lemmas.Result.{err_from_is_err_and}
use Rattle.words.proofs.Parts.{part_of}
use Rattle.table.proofs.Views.{ready_read}
use Rattle.selection.specs.Lookup.{Finds}
use Rattle.operands.proofs.Answering.{short, short_faulty, decode_refused, decode_nothing, entry_stands, decode_entry}
use native.Mathlib.Omega.{arith}
use Rattle.operands.proofs.decode.Goals as goal

pub returns-in_err-read : goal.returns-in_err-read
returns-in_err-read c = let p = err_from_is_err_and c.from_residual.result c.from_residual.ensures.1 in rw (p.1, p.2) (short_faulty _ _ _ c.if-out-lt8.true _ c.in_err-read.ensures)

pub returns-then-out-lt8 : goal.returns-then-out-lt8
returns-then-out-lt8 c = let t = c.in_ok-read.field-0 in short _ _ _ c.if-out-lt8.true _ (rw c.in_ok-read.ensures.words at (ready_read _ _ _ _ t.ready))

pub returns-in_err-found : goal.returns-in_err-found
returns-in_err-found c = let p = err_from_is_err_and c.from_residual-in_err-found.result c.from_residual-in_err-found.ensures.1 in rw (p.1, p.2) (decode_refused _ _ _ c.if-out-lt8.false _ c.in_err-found.ensures)

pub returns-in_default : goal.returns-in_default
returns-in_default c = decode_nothing _ _ _ c.if-out-lt8.false (rw c.in_default.is at c.in_ok-found.ensures)

pub take_out-requires : goal.take_out-requires
take_out-requires c =
    let f : Finds c.args.ws.now c.args.word (Ok (Some c.in-Some.found)) = rw c.in-Some.is at c.in_ok-found.ensures in
    let s = entry_stands _ _ _ _ f.answer f.place in
    (omega (arith, c.fields_at.ensures.1), omega (arith, s.few, part_of _ _ _ 4 4 c.part-count.ensures c.word_at.ensures, c.if-out-lt8.false))

pub returns : goal.returns
returns c =
    let f : Finds c.args.ws.now c.args.word (Ok (Some c.in-Some.found)) = rw c.in-Some.is at c.in_ok-found.ensures in
    decode_entry _ _ _ _ f.answer f.place c.args.out.now _ _ (part_of _ _ _ 4 4 c.part-count.ensures c.word_at.ensures) c.if-out-lt8.false
    (rw (← c.fields_at.ensures.0) c.take_out.ensures)
