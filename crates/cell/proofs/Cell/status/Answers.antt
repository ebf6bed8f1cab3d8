use mathlib.Core.Path.{sym, ◌∙◌}
use Rattle.words.specs.Tests.{◌and◌, ◌or◌}
use Rattle.cell.specs.Cell.{dead, sure, live}
use Rattle.cell.specs.Decide.{status_of}
use Rattle.cell.proofs.Cell.status.Goals as goal

pub returns-then-clashes : goal.returns-then-clashes
unfolding status_of dead ◌or◌
returns-then-clashes c = rw (← c.at-opcode.ensures, sym c.clashes.ensures ∙ c.if-clashes.true)

pub returns-then-holds_one : goal.returns-then-holds_one
unfolding status_of dead ◌or◌
returns-then-holds_one c = rw (← c.at-opcode.ensures, sym c.clashes.ensures ∙ c.if-clashes.false, ← c.of-conditions.ensures, sym c.holds_one.ensures ∙ c.if-holds_one.true)

pub returns-then-not-implies : goal.returns-then-not-implies
unfolding status_of dead sure live ◌and◌ ◌or◌
returns-then-not-implies c =
    rw (← c.at-opcode.ensures, sym c.clashes.ensures ∙ c.if-clashes.false, ← c.of-conditions.ensures, sym c.holds_one.ensures ∙ c.if-holds_one.false, sym c.implies.ensures ∙ c.if-not-implies.true)

pub returns-then-fails_all : goal.returns-then-fails_all
unfolding status_of dead sure live ◌and◌ ◌or◌
returns-then-fails_all c =
    rw (← c.at-opcode.ensures, sym c.clashes.ensures ∙ c.if-clashes.false, ← c.of-conditions.ensures, sym c.holds_one.ensures ∙ c.if-holds_one.false, sym c.implies.ensures ∙ c.if-not-implies.false, sym c.fails_all.ensures ∙ c.if-fails_all.true)

pub returns-else-fails_all : goal.returns-else-fails_all
unfolding status_of dead sure live ◌and◌ ◌or◌
returns-else-fails_all c =
    rw (← c.at-opcode.ensures, sym c.clashes.ensures ∙ c.if-clashes.false, ← c.of-conditions.ensures, sym c.holds_one.ensures ∙ c.if-holds_one.false, sym c.implies.ensures ∙ c.if-not-implies.false, sym c.fails_all.ensures ∙ c.if-fails_all.false)
