use mathlib.Core.Path.{◌∙◌}
use Rattle.checker.proofs.Checking.{bad_header, other_width, ended_at}
use Rattle.checker.proofs.nodes.accepts.Goals as goal

pub returns-then-header-table : goal.returns-then-header-table
returns-then-header-table c = other_width _ _ _ c.word.ensures c.header_of.ensures.value c.in-Some.is c.if-header-table.true

pub returns-in_default : goal.returns-in_default
returns-in_default c = bad_header _ _ _ c.word.ensures c.header_of.ensures.value c.in_default.is

pub returns : goal.returns
returns c =
    c.eq.ensures ∙ ended_at _ _ _ c.word.ensures c.header_of.ensures.value c.in-Some.is c.if-header-table.false c.check_tree.ensures
