use mathlib.Core.Path.{ap, ◌∙◌}
use Prim.Native.Nat.{ℕ}
use native.Mathlib.Omega.{arith}
use lib.ListN.{replicate}
use Rattle.table.proofs.Views.{ready_wide}
use Rattle.maker.proofs.Generating.{cleared, stands_writes}
use Rattle.maker.proofs.whole.write_tree.Goals as goal

pub header_word-requires : goal.header_word-requires
header_word-requires c =
    let n = c.make_whole.ensures.stands _ c.in-Ok.is in
    (omega (arith, ready_wide _ _ _ _ c.args.table.now.ready), omega (arith, n.1, c.min-limit.ensures))

pub returns-in-Ok : goal.returns-in-Ok
returns-in-Ok c = stands_writes _ _ _ c.min-limit.ensures c.make_whole.ensures c.in-Ok.is c.header_word.result c.header_word.ensures

pub returns-in-Err : goal.returns-in-Err
returns-in-Err c =
    rw (c.fill.ensures.after (λ y e. e) ∙ ap (λ (n : ℕ). replicate n 0) c.make_whole.auto.out) (cleared _ _ _ c.min-limit.ensures c.make_whole.ensures c.in-Err.is)
