use mathlib.Core.Path.{sym}
use Rattle.words.proofs.Bytes.{words_length}
use Rattle.words.proofs.RefSliceU8Words.count.Goals as goal

pub returns : goal.returns
returns c = sym (words_length c.args.self.now.now)
