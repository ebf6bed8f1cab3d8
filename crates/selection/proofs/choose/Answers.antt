use Prim.Native.Nat.{◌<◌, min}
use Rattle.std.proofs.Common.{rules, arith}
use Rattle.selection.proofs.Finding.{named_lt, chose_entry, chose_nothing, chose_ambiguous}
use Rattle.selection.proofs.choose.Goals as goal
use Rattle.selection.proofs.choose.Goals.{In-Names}

-- a named entry is one of those in the array
few : (c : In-Names) → c.in-Names.i < min c.args.entries.now.count 256
few c = named_lt c.args.entries.now c.args.word c.statuses-s.result c.statuses-s.ensures _ c.in-Names.ensures

pub overflow_cast-result : goal.overflow_cast-result
overflow_cast-result c = let b = few c in search rules

pub offset_bounds-entries-i : goal.offset_bounds-entries-i
offset_bounds-entries-i c = let b = few c in search rules

pub bounds-entries-i : goal.bounds-entries-i
bounds-entries-i c = omega (arith, few (goal.at.bounds-entries-i c).In-Names)

pub returns-in-Names : goal.returns-in-Names
returns-in-Names c = chose_entry c.args.entries.now c.args.word c.statuses-s.result c.statuses-s.ensures _ c.in-Names.ensures

pub returns-in-Nothing : goal.returns-in-Nothing
returns-in-Nothing c = chose_nothing c.args.entries.now c.args.word c.statuses-s.result c.statuses-s.ensures c.in-Nothing.ensures

pub returns-in-Stuck : goal.returns-in-Stuck
returns-in-Stuck c = chose_ambiguous c.args.entries.now c.args.word c.statuses-s.result c.statuses-s.ensures c.in-Stuck.ensures
