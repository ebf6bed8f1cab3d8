-- `words::words_of` meets its contract. The buffer is the words passed so far and the unchanged rest. Assumes nothing.
use native.Mathlib.Omega.{arith}
use Rattle.words.specs.Bytes.{words_of}
use Rattle.words.proofs.Bytes.{words_length}
use Rattle.words.proofs.Filling.{filled_on, filled_all}
use Rattle.words.proofs.words_of.Goals as goal

pub loop-i-preserved : goal.loop-i-preserved
loop-i-preserved c =
    let l = c.loop-i in
    let a = c.args in
    let w = words_length a.bytes.now in
    rw c.whole_word.ensures (filled_on (words_of a.bytes.now) a.out.now l.out l.i l.invariant (omega arith) (omega arith))

pub returns : goal.returns
returns c =
    let l = c.loop-i in filled_all c.args.bytes.now c.args.out.now l.out l.i c.min-n.result c.min-n.ensures (omega arith) l.invariant
