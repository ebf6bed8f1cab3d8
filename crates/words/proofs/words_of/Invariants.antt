-- `words::words_of` meets its contract. The buffer is the words passed so far and the unchanged rest. Assumes nothing.
use mathlib.Core.List.{◌++◌}
use mathlib.Core.Path.{◌≡◌}
use lib.ListN.{take, drop}
use Rattle.words.specs.Bytes.{words_of}
use Rattle.words.proofs.words_of.Given as goal

abbrev pub invariant-loop-i : goal.invariant-loop-i
invariant-loop-i l = l.out ≡ take l.i (words_of l.bytes) ++ drop l.i l.initial.out
