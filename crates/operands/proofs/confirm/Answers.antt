use Rattle.std.proofs.Common.{rules, ◌≡◌, Ok, None}
use Rattle.operands.proofs.Confirming.{confirmed_yes, confirmed_other, confirmed_nothing, confirmed_refused}
use Rattle.operands.proofs.confirm.Goals as goal

pub returns-in-Ok-Some : goal.returns-in-Ok-Some
returns-in-Ok-Some c = confirmed_yes c.args.table.now _ _ _ c.find_among.ensures _ (rw c.in-Ok-Some.field-0-is at c.in-Ok-Some.is) c.if-found-entry.true

pub returns-in_default : goal.returns-in_default
returns-in_default c = confirmed_other c.args.table.now _ _ _ c.find_among.ensures _ (rw c.in-Ok-Some.field-0-is at c.in-Ok-Some.is) c.if-found-entry.false

pub returns-in_default-2 : goal.returns-in_default-2
returns-in_default-2 c = let h : c.find_among.result ≡ Ok None = search rules in confirmed_nothing c.args.table.now _ _ _ c.find_among.ensures h

pub returns-in_default-3 : goal.returns-in_default-3
returns-in_default-3 c = confirmed_refused c.args.table.now _ _ _ c.find_among.ensures _ c.in_default.is
