-- The tree below a cell of a table without fault, by what was decided of the cell. Assumes nothing.
use mathlib.Core.Path.{◌≡◌, sym, ap, ◌∙◌}
use mathlib.Core.List.{List}
use Prim.Native.Nat.{ℕ, ◌<◌, min}
use mathlib.Core.Bool.{false}
use Rattle.words.specs.Words.{bit}
use Rattle.table.specs.Ready.{Ready}
use Rattle.table.specs.Table.{Entry, entries_at}
use Rattle.choice.specs.Rule.{names, nothing, ambiguous}
use Rattle.cell.specs.Cell.{Cell, zero_side, one_side}
use Rattle.choice.specs.Judged.{entry_placed}
use Rattle.cell.specs.Step.{step_at, step}
use Rattle.cell.specs.Decide.{said_decision}
use Rattle.cell.specs.declared.Decision.{Decision}
use Rattle.tree.specs.Tree.{leaf, test, below}
use Rattle.cell.proofs.Deciding.{ready_good, step_ready, test_ready}
use Rattle.tree.proofs.Theorem.{below_end, below_split}

-- d is what cell::decide answers
module _ (ws places : List ℕ) (width n : ℕ) (ready : Ready ws places width n) (c : Cell) (d : Decision)
    (is : said_decision d ≡ step_at (entry_placed ws places) (min n 256) (min width 32) c) where
  abbrev es : List Entry
  es = entries_at ws n 1

  own : (e : Decision) → d ≡ e → step es width c ≡ said_decision e
  own e h = sym (is ∙ step_ready ws places width n ready c) ∙ ap said_decision h

  pub below_names : (i : ℕ) → d ≡ Decision.Names i → below es width c ≡ leaf (names i)
  below_names i h = below_end es width (ready_good ws places width n ready) c _ (own (Decision.Names i) h)

  pub below_nothing : d ≡ Decision.Nothing → below es width c ≡ leaf nothing
  below_nothing h = below_end es width (ready_good ws places width n ready) c _ (own Decision.Nothing h)

  pub below_conflict : d ≡ Decision.Conflict → below es width c ≡ leaf ambiguous
  below_conflict h = below_end es width (ready_good ws places width n ready) c _ (own Decision.Conflict h)

  pub below_test : (i : ℕ) → d ≡ Decision.Test i → below es width c ≡ test i (below es width (zero_side c i)) (below es width (one_side c i))
  below_test i h = below_split es width (ready_good ws places width n ready) c i (own (Decision.Test i) h)

  pub test_bounds : (i : ℕ) → d ≡ Decision.Test i → (i < width) × (bit c.fixed i ≡ false)
  test_bounds i h = test_ready ws places width n ready c i (sym is ∙ ap said_decision h)
