-- `words::whole_word` meets its contract. Assumes nothing.
use Prim.Native.Nat.{ℕ, ◌+◌, ◌*◌}
use mathlib.Core.Path.{sym, ap, ◌∙◌}
use native.Mathlib.Nat.{add-zero}
use lib.ListN.{get_or}
use Rattle.words.specs.Bytes.{word_of}
use Rattle.words.proofs.Bytes.{words_at}
use Rattle.words.proofs.whole_word.Goals as goal

pub returns : goal.returns
unfolding word_of
returns c =
    let s = c in
    let bs = s.args.bytes.now in
    let k = s.args.i * 4 in
    c.from_le_bytes.ensures
    ∙ ap (λ (n : ℕ). word_of (get_or bs n 0) (get_or bs (k + 1) 0) (get_or bs (k + 2) 0) (get_or bs (k + 3) 0)) (sym (add-zero k))
    ∙ words_at s.args.i bs s.requires
