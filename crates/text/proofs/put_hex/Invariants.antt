-- The digits so far and those that are left are the word's.
use Rattle.std.proofs.Common.{◌≡◌, ◌-◌, ◌++◌, length, take}
use Rattle.text.specs.Digits.{hex_digits, hex_text}
use Rattle.text.proofs.put_hex.Given as goal

abbrev pub invariant-loop-i : goal.invariant-loop-i
invariant-loop-i l = (length l.digits ≡ 8) × (take l.i l.digits ++ hex_digits (8 - l.i) l.w ≡ hex_text l.w)
