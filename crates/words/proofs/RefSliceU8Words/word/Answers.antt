use mathlib.Core.Path.{sym}
use native.Mathlib.Omega.{arith}
use lib.ListN.{get_or-eq_default}
use Rattle.words.specs.Bytes.{words_of}
use Rattle.words.proofs.Bytes.{words_length}
use Rattle.words.proofs.RefSliceU8Words.word.Goals as goal

pub returns-else-i-self : goal.returns-else-i-self
returns-else-i-self c =
    let bs = c.args.self.now.now in
    sym (get_or-eq_default (words_of bs) 0 (omega (arith, words_length bs, c.if-i-self.false)))
