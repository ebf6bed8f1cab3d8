use Rattle.words.proofs.Parts.{part_of}
use Rattle.operands.proofs.Coding.{values_on, values_done}
use lib.ListN.{length-set}
use mathlib.Core.Path.{refl, sym, ◌∙◌}
use native.Mathlib.Nat.{sub-zero, add-zero}
use Rattle.operands.proofs.take_out.Goals as goal

pub loop-k-init : goal.loop-k-init
loop-k-init c = (refl, rw (sub-zero, add-zero))

pub loop-k-preserved : goal.loop-k-preserved
loop-k-preserved c =
    let i = c.loop-k.invariant in (
      simp length-set i.0,
      i.1 ∙ values_on c.args.ws.now c.args.word _ _ _ _ _ _ _ c.loop-k-test.true (part_of _ _ _ 8 8 c.part.ensures c.word_at-field.ensures) (part_of _ _ _ 0 8 c.part-in-loop-k.ensures c.word_at-field.ensures) c.part-in-loop-k-2.ensures,
    )

pub returns : goal.returns
returns c = sym (c.loop-k.invariant.1 ∙ values_done _ _ _ _ _ _ c.loop-k-test.false)
