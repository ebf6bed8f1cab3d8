use mathlib.Core.Path.{◌≡◌, sym, ◌∙◌}
use Prim.Native.Nat.{◌/◌, ◌^◌}
use native.Mathlib.Omega.{arith}
use borrow.Author.Tests.{eq-eqb, ne_eqb}
use Rattle.words.specs.Words.{part}
use Rattle.words.proofs.Parts.{part_top}
use Rattle.flat.specs.Nodes.{node_of}
use Rattle.flat.proofs.node_of.Goals as goal

pub returns-in-8-clause-value : goal.returns-in-8-clause-value
unfolding node_of
returns-in-8-clause-value c =
    let a = c.args in
    rw (eq-eqb (part a.word 28 4) 8 (sym (part_top a.word (omega arith)) ∙ c.in-8.is)) c.test_node.ensures.value

pub returns-in-9-clause-value : goal.returns-in-9-clause-value
unfolding node_of
returns-in-9-clause-value c =
    let a = c.args in
    let q = sym (part_top a.word (omega arith)) ∙ c.in-9.is in
    rw (ne_eqb (part a.word 28 4) 8 (λ e. omega arith), eq-eqb (part a.word 28 4) 9 q) c.names_node.ensures.value

pub returns-in-10-clause-value : goal.returns-in-10-clause-value
unfolding node_of
returns-in-10-clause-value c =
    let a = c.args in
    let q = sym (part_top a.word (omega arith)) ∙ c.in-10.is in
    rw (ne_eqb (part a.word 28 4) 8 (λ e. omega arith), ne_eqb (part a.word 28 4) 9 (λ e. omega arith), eq-eqb (part a.word 28 4) 10 q) c.nothing_node.ensures.value

pub returns-in-0-to-7-clause-value : goal.returns-in-0-to-7-clause-value
unfolding node_of
returns-in-0-to-7-clause-value c =
    let a = c.args in
    let k : a.word / 2 ^ 28 ≡ part a.word 28 4 = part_top a.word (omega arith) in
    rw (ne_eqb (part a.word 28 4) 8 (λ e. omega arith), ne_eqb (part a.word 28 4) 9 (λ e. omega arith), ne_eqb (part a.word 28 4) 10 (λ e. omega arith))
