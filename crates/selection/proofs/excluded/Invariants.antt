use Prim.Native.Nat.{◌+◌, ◌-◌, ◌*◌, ◌≤◌}
use mathlib.Core.Bool.{false}
use mathlib.Core.Path.{◌≡◌}
use Rattle.choice.specs.Rule.{matches}
use Rattle.selection.specs.Selection.{satisfied}
use Rattle.table.specs.Table.{unmatching_at, conditions_at}
use Rattle.words.specs.Tests.{any_of}
use Rattle.selection.proofs.excluded.Given as goal

-- none is satisfied so far, so that those that are left decide
abbrev pub invariant-search : goal.invariant-search
invariant-search l = record {
  near : l.next ≤ l.p + 48 * l.counter;
  none : l.found ≡ false;
  rest : any_of (satisfied l.word) (conditions_at l.ws l.n l.p) ≡ any_of (satisfied l.word) (conditions_at l.ws (l.n - l.counter) l.next);
}

-- none matches so far
abbrev pub invariant-loop-u : goal.invariant-loop-u
invariant-loop-u l =
    any_of (matches l.word) (unmatching_at l.ws l.unmatchings (l.condition + 3))
    ≡ any_of (matches l.word) (unmatching_at l.ws (l.unmatchings - l.u) (l.condition + 3 + 3 * l.u))
