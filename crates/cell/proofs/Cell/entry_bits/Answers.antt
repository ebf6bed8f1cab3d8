use Rattle.std.proofs.Common.{rules}
use mathlib.Core.Path.{◌≡◌, ◌∙◌}
use lib.Bits.{bit_or}
use Prim.Native.Nat.{ℕ}
use Rattle.table.specs.Table.{Condition}
use Rattle.std.proofs.lemmas.Fn.{fold_over}
use Rattle.std.proofs.lemmas.Iterator.Consumers.{YieldsList-from_first}
use Rattle.std.specs.Iterator.{YieldsFirstBy}
use Rattle.words.specs.Tests.{◌and◌, ◌or◌}
use Rattle.words.specs.Words.{bit}
use Rattle.words.proofs.Bits.{bit_none}
use Rattle.cell.specs.Cell.{open_condition}
use Rattle.cell.specs.Decide.{cell_of}
use Rattle.cell.specs.Step.{in_condition, in_open}
use Rattle.cell.specs.Items.{condition_of, conditions_left}
use Rattle.cell.proofs.Walks.{Gathers, gathers_none, gathers_more}
use Rattle.cell.proofs.Cell.entry_bits.Goals as goal

pub returns : goal.returns
unfolding in_open ◌or◌
returns c =
    let d = cell_of c.args.self in
    let w = λ (i : ℕ) (k : Condition). open_condition d k and in_condition i k in
    let g = fold_over (YieldsFirstBy condition_of conditions_left) condition_of _ (Gathers w 0) _
    (λ ys a x b q j k.
    let s : (r : ℕ) × (b ≡ bit_or a r) × ((i : ℕ) → bit r i ≡ w i (condition_of x)) = search rules in
    (rw s.1 (gathers_more w 0 ys a s.0 (condition_of x) s.2 j), search rules))
    c.of.result _ 0 c.fold.result (YieldsList-from_first condition_of conditions_left {s = c.of.result} _ c.of.ensures).runs
    (gathers_none w 0) c.fold.ensures.ran in
    λ i. g i ∙ rw (bit_none i)
