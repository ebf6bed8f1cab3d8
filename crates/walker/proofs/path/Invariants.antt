use Prim.Native.Nat.{◌-◌, ◌≤◌, ◌<◌}
use mathlib.Core.Path.{◌≡◌}
use Rattle.flat.specs.Walk.{path, ended}
use Rattle.walker.proofs.Paths.{plus}
use Rattle.walker.proofs.path.Given as goal

abbrev pub invariant-loop-went : goal.invariant-loop-went
invariant-loop-went g l =
    let ws = g.W.Words.words l.tree in
    let h = l.header in
    record {
      some : 1 ≤ l.at;
      within : l.at ≤ h.nodes;
      passed : l.tests < l.at;
      left : ended (path h.nodes ws h.width h.nodes l.word 1) ≡ plus l.tests l.mask (ended (path (h.nodes - l.tests) ws h.width h.nodes l.word l.at));
    }

abbrev pub decreases-loop-went : goal.decreases-loop-went
decreases-loop-went g l = l.header.nodes - l.tests
