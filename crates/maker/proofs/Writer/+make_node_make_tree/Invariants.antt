use Rattle.std.proofs.Common.{◌+◌}
use Rattle.cell.specs.Step.{free}
use Rattle.maker.proofs.Writer.+make_node_make_tree.Given as goal

-- twice the number of unfixed bits; a tree is one above its node
abbrev pub decreases-make_node : goal.decreases-make_node
decreases-make_node l = free l.table.now.width l.cell.fixed + free l.table.now.width l.cell.fixed

abbrev pub decreases-make_tree : goal.decreases-make_tree
decreases-make_tree l = free l.table.now.width l.cell.fixed + free l.table.now.width l.cell.fixed + 1
