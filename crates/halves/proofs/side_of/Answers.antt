use borrow.Author.Tests.{eq-eqb, ne_eqb, lt-ltb, le-ltb}
use Prim.Native.Nat.{◌-◌}
use mathlib.Core.Path.{sym, ◌∙◌}
use Rattle.words.proofs.Parts.{bit_shr}
use Rattle.halves.specs.Common.{side_of}
use Rattle.halves.proofs.side_of.Goals as goal

pub returns-then-b-lt16 : goal.returns-then-b-lt16
unfolding side_of
returns-then-b-lt16 c = rw (lt-ltb _ 16 c.if-b-lt16.true)

pub returns-then-upper-b-eq1 : goal.returns-then-upper-b-eq1
unfolding side_of
returns-then-upper-b-eq1 c = rw (le-ltb _ 16 c.if-b-lt16.false, sym (bit_shr c.args.upper (c.args.b - 16)) ∙ eq-eqb _ 1 c.if-upper-b-eq1.true)

pub returns : goal.returns
unfolding side_of
returns c = rw (le-ltb _ 16 c.if-b-lt16.false, sym (bit_shr c.args.upper (c.args.b - 16)) ∙ ne_eqb _ 1 c.if-upper-b-eq1.false)
