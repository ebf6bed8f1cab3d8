use Prim.Native.Nat.{ℕ, ◌-◌}
use mathlib.Core.Path.{◌≡◌, sym, ap, ◌∙◌, subst}
use native.Mathlib.Omega.{arith}
use Rattle.std.specs.Prelude.{Result, Ok, Err}
use Rattle.words.specs.declared.Refusal.{Refusal}
use Rattle.flat.specs.Nodes.{node_of}
use Rattle.flat.specs.Walk.{path, ended}
use Rattle.walker.specs.Walked.{said, Small, went_of, WentBounds}
use Rattle.walker.specs.declared.Went.{Went}
use Rattle.walker.specs.declared.Walked as found
use Rattle.walker.proofs.Nodes.{returned, damaged_at}
use Rattle.walker.proofs.Paths.{plus, plus_zero, goes_on, ends, breaks_off}
use Rattle.walker.proofs.path.Goals as goal

pub loop-went-init : goal.loop-went-init
loop-went-init g c =
    let a = c.args in
    let ws = g.W.Words.words a.tree in
    let h = a.header in
    let z : h.nodes ≡ h.nodes - 0 = omega arith in
    record {
      some = omega arith;
      within = omega arith;
      passed = omega arith;
      left = sym (plus_zero (path h.nodes ws h.width h.nodes a.word 1)) ∙ ap (λ (k : ℕ). plus 0 0 (ended (path k ws h.width h.nodes a.word 1))) z;
    }

pub returns-in_err-went-clause-result_value : goal.returns-in_err-went-clause-result_value
returns-in_err-went-clause-result_value g c =
    let l = c.loop-went in
    let a = c.args in
    let e = ap (λ (x : ℕ). went_of (node_of a.header.width a.header.nodes l.at x) a.word l.at) (sym c.word.ensures) ∙ sym c.in_err-went.ensures.value in
    ap said (returned c.from_residual.result c.in_err-went.field-0.0 c.from_residual.ensures.1)
    ∙ sym (l.invariant.left ∙ breaks_off (g.W.Words.words a.tree) a.header.width a.header.nodes a.word l.at l.tests l.mask (omega arith) _ e)

pub returns-in_err-went-clause-small : goal.returns-in_err-went-clause-small
returns-in_err-went-clause-small g c =
    let l = c.loop-went in
    let q = returned c.from_residual.result c.in_err-went.field-0.0 c.from_residual.ensures.1 ∙ ap Err (damaged_at _ _ l.at _ (sym c.in_err-went.ensures.value)) in
    subst (λ (r : Result found.Walked Refusal). Small (said r)) (sym q) (omega arith, omega arith)

pub loop-went-preserved : goal.loop-went-preserved
loop-went-preserved g c =
    let l = c.loop-went in
    let a = c.args in
    let is = c.in_ok-went.ensures.value ∙ ap (λ (x : ℕ). went_of (node_of a.header.width a.header.nodes l.at x) a.word l.at) c.word.ensures in
    let b = subst (λ (x : Went). WentBounds (Ok x) a.header.nodes l.at) c.in-On.is c.in_ok-went.ensures.bounds in
    record {
      some = omega (arith, b.0);
      within = b.1;
      passed = omega (arith, b.0);
      left = l.invariant.left ∙ goes_on (g.W.Words.words a.tree) a.header.width a.header.nodes a.word l.at l.tests l.mask (omega arith) _ _ b.2 (sym is ∙ ap Ok c.in-On.is);
    }

pub returns-in-Ends-clause-result_value : goal.returns-in-Ends-clause-result_value
returns-in-Ends-clause-result_value g c =
    let l = c.loop-went in
    let a = c.args in
    let is = c.in_ok-went.ensures.value ∙ ap (λ (x : ℕ). went_of (node_of a.header.width a.header.nodes l.at x) a.word l.at) c.word.ensures in
    sym (l.invariant.left ∙ ends (g.W.Words.words a.tree) a.header.width a.header.nodes a.word l.at l.tests l.mask (omega arith) _ (sym is ∙ ap Ok c.in-Ends.is))
