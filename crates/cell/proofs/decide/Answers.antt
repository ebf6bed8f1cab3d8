use mathlib.Core.Path.{sym, ◌∙◌}
use Prim.Native.Nat.{min}
use native.Mathlib.Omega.{arith}
use Rattle.choice.specs.Judged.{entry_of}
use Rattle.cell.specs.Decide.{cell_of}
use Rattle.cell.proofs.Deciding.{decide_names, decide_nothing, decide_conflict, decide_test}
use Rattle.cell.proofs.decide.Goals as goal

-- a named entry is one of those that were judged
pub overflow_cast-result : goal.overflow_cast-result
overflow_cast-result c =
    let s = c.of-standing.result in
    let named = decide_names (entry_of s.entries.now) s.count (cell_of s.cell) (min c.args.width 32) _ c.verdict.ensures _ c.in-Names.is in
    omega (arith, named.1, s.number)

pub returns-in-Names : goal.returns-in-Names
returns-in-Names c =
    let s = c.of-standing.result in
    rw (← c.of-standing.ensures.0, ← c.of-standing.ensures.1, ← s.number) (decide_names _ _ _ _ _ c.verdict.ensures _ c.in-Names.is).0

pub returns-in-Nothing : goal.returns-in-Nothing
returns-in-Nothing c =
    let s = c.of-standing.result in
    rw (← c.of-standing.ensures.0, ← c.of-standing.ensures.1, ← s.number) (decide_nothing _ _ _ _ _ c.verdict.ensures c.in-Nothing.is)

pub returns-then-not-any_open : goal.returns-then-not-any_open
returns-then-not-any_open c =
    let s = c.of-standing.result in
    rw (← c.of-standing.ensures.0, ← c.of-standing.ensures.1, ← s.number)
    (decide_conflict _ _ _ _ _ c.verdict.ensures c.in-Stuck.is (sym c.any_open.ensures ∙ c.if-not-any_open.true))

pub returns-else-not-any_open : goal.returns-else-not-any_open
returns-else-not-any_open c =
    let s = c.of-standing.result in
    rw (← c.of-standing.ensures.0, ← c.of-standing.ensures.1, ← s.number, ← c.min.ensures)
    (decide_test _ _ _ _ _ c.verdict.ensures _ c.in-Stuck.is (sym c.any_open.ensures ∙ c.if-not-any_open.false) c.bit_to_test-tested.ensures.0)
