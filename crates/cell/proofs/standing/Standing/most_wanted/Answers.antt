use mathlib.Core.Path.{◌≡◌, refl, sym, ap, ◌∙◌}
use native.Mathlib.Omega.{arith}
use Rattle.choice.specs.Judged.{entry_of}
use Rattle.cell.specs.Decide.{cell_of}
use Rattle.cell.proofs.Deciding.{open_at, heaviest_agree}
use Rattle.cell.proofs.Loops.{gathered_none, gathered_out, gathered_fixed, gathered_more, gathered_weight}
use Rattle.cell.proofs.standing.Standing.most_wanted.Goals as goal
use Rattle.cell.proofs.standing.Standing.most_wanted.Goals.{then-eq+then-fixed-mask, then-eq+else-fixed-mask, else-eq}

pub loop-j-init : goal.loop-j-init
loop-j-init c = gathered_none _ _ _ _ refl

pub loop-j-preserved : goal.loop-j-preserved
loop-j-preserved c =
    let s = c.args.self.now in
    let g = c.loop-j.invariant in
    let o = sym (open_at (entry_of s.entries.now) s.count (cell_of s.cell) s.statuses.now s.stated c.loop-j.j c.loop-j-test.true) ∙ sym c.eq.ensures in
    elim c.if-eq.branch [
      | then-eq+then-fixed-mask w ↦ rw (w.masks-is, w.n-is, w.mask-mask.ensures ∙ ap (λ p. p.mask) w.at-opcode.ensures) (gathered_more _ _ _ _ _ _ g (omega arith) (o ∙ w.if-eq.true))
      | then-eq+else-fixed-mask w ↦ rw (w.masks-is, w.n-is) (gathered_fixed _ _ _ _ _ _ g (rw (w.mask-mask.ensures ∙ ap (λ p. p.mask) w.at-opcode.ensures) at w.if-fixed-mask.false))
      | else-eq w ↦ rw (w.masks-is, w.n-is) (gathered_out _ _ _ _ _ _ g (o ∙ w.if-eq.false))
    ]

pub returns : goal.returns
returns c =
    let s = c.args.self.now in
    let l = c.loop-j in
    let e : l.j ≡ s.count = omega arith in
    heaviest_agree _ _ _ _ (gathered_weight _ _ _ _ _ _ (rw e at l.invariant) (omega (arith, s.number))) c.heaviest.ensures
