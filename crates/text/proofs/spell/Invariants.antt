-- The whole text is that of the rest, and then the digits written; the rest has at most as many digits as there is room before them.
use Rattle.std.proofs.Common.{◌≡◌, ◌^◌, ◌<◌, ◌++◌, length, drop}
use Rattle.text.specs.Digits.{decimal_text}
use Rattle.text.proofs.spell.Given as goal

abbrev pub invariant-loop-at : goal.invariant-loop-at
invariant-loop-at l = (length l.digits ≡ 10) × (0 < l.at) × (l.rest < 10 ^ l.at) × (decimal_text l.n ≡ decimal_text l.rest ++ drop l.at l.digits)
