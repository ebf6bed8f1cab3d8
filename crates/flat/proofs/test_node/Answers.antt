use mathlib.Core.Path.{sym, ap₂, ◌∙◌}
use Prim.Native.Nat.{ℕ, ◌+◌}
use native.Mathlib.Omega.{arith}
use borrow.Author.Tests.{eq-eqb, ne_eqb, lt-ltb, le-ltb, le-leb, lt-leb}
use Rattle.std.specs.Prelude.{Some}
use Rattle.words.specs.Tests.{◌and◌}
use Rattle.words.specs.Words.{part}
use Rattle.words.proofs.Parts.{part_mask, part_low, part_lt}
use Rattle.flat.specs.Nodes.{test_node}
use Rattle.flat.specs.declared.Node.TheVariants.{Asks}
use Rattle.flat.proofs.test_node.Goals as goal

pub returns-then-spare-ne0-clause-value : goal.returns-then-spare-ne0-clause-value
unfolding test_node ◌and◌
returns-then-spare-ne0-clause-value c =
    let a = c.args in
    rw (ne_eqb (part a.word 16 7) 0 (λ e. c.if-spare-ne0.true (part_mask a.word 16 7 ∙ e)))

pub returns-then-width-bit-clause-value : goal.returns-then-width-bit-clause-value
unfolding test_node ◌and◌
returns-then-width-bit-clause-value c =
    let a = c.args in
    let b = part_mask a.word 23 5 in
    rw (eq-eqb (part a.word 16 7) 0 (sym (part_mask a.word 16 7) ∙ c.if-spare-ne0.false), le-ltb (part a.word 23 5) a.width (omega arith))

pub overflow_cast-one : goal.overflow_cast-one
overflow_cast-one c = let x = c.args.word in omega (arith, part_low x 16, part_lt x 0 16)

pub returns-then-one-at-clause-value : goal.returns-then-one-at-clause-value
unfolding test_node ◌and◌
returns-then-one-at-clause-value c =
    let a = c.args in
    let b = part_mask a.word 23 5 in
    let o = part_low a.word 16 in
    rw (eq-eqb (part a.word 16 7) 0 (sym (part_mask a.word 16 7) ∙ c.if-spare-ne0.false), lt-ltb (part a.word 23 5) a.width (omega arith), lt-leb (a.at + 2) (part a.word 0 16) (omega arith))

pub returns-then-nodes-one-clause-value : goal.returns-then-nodes-one-clause-value
unfolding test_node ◌and◌
returns-then-nodes-one-clause-value c =
    let a = c.args in
    let b = part_mask a.word 23 5 in
    let o = part_low a.word 16 in
    rw (eq-eqb (part a.word 16 7) 0 (sym (part_mask a.word 16 7) ∙ c.if-spare-ne0.false), lt-ltb (part a.word 23 5) a.width (omega arith), le-leb (a.at + 2) (part a.word 0 16) (omega arith), lt-leb (part a.word 0 16) a.nodes (omega arith))

pub returns-clause-value : goal.returns-clause-value
unfolding test_node ◌and◌
returns-clause-value c =
    let a = c.args in
    let b = part_mask a.word 23 5 in
    let o = part_low a.word 16 in
    rw (eq-eqb (part a.word 16 7) 0 (sym (part_mask a.word 16 7) ∙ c.if-spare-ne0.false), lt-ltb (part a.word 23 5) a.width (omega arith), le-leb (a.at + 2) (part a.word 0 16) (omega arith), le-leb (part a.word 0 16) a.nodes (omega arith))
    (ap₂ (λ (x k : ℕ). Some (Asks x k)) b o)
