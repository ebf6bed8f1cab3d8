use Prim.Native.Nat.{◌-◌, ◌<◌}
use mathlib.Core.List.{◌++◌}
use mathlib.Core.Path.{◌≡◌}
use lib.ListN.{length, take}
use Rattle.numbers.specs.Decimals.{divided}
use Rattle.numbers.proofs.divide.Given as goal

-- what is written, and the digits of what is left, are the whole
abbrev pub invariant-loop-digit : goal.invariant-loop-digit
invariant-loop-digit l = record {
  below : l.left < l.unit;
  whole : take l.digit-index l.digit-items ++ divided l.unit (length l.digit-items - l.digit-index) l.left ≡ divided l.unit (length l.digit-items) l.rest;
}
