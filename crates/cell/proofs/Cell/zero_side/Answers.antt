use mathlib.Core.Path.{◌≡◌, sym, ◌∙◌}
use Prim.Native.Nat.{◌^◌}
use Rattle.std.specs.Int.Bits.{or_zero_r}
use Rattle.words.proofs.Parts.{run_out}
use Rattle.cell.proofs.Sides.{one_bit}
use Rattle.cell.proofs.Cell.zero_side.Goals as goal

pub returns-clause-below : goal.returns-clause-below
returns-clause-below c = λ h. let e : c.run.result ≡ 2 ^ c.args.bit = c.run.ensures ∙ one_bit c.args.bit h in rw e

pub returns-clause-beyond : goal.returns-clause-beyond
returns-clause-beyond c = λ h. let e : c.run.result ≡ 0 = c.run.ensures ∙ sym (run_out c.args.bit 1 h) in rw (e, or_zero_r)
