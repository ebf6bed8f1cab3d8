use Rattle.std.proofs.Common.{◌+◌}
use Rattle.cell.specs.Step.{free}
use Rattle.checker.proofs.nodes.Lent.+check_node_check_tree.Given as goal

abbrev pub decreases-check_node : goal.decreases-check_node
decreases-check_node l = free l.self.now.table.now.width l.cell.fixed + free l.self.now.table.now.width l.cell.fixed

abbrev pub decreases-check_tree : goal.decreases-check_tree
decreases-check_tree l = free l.self.now.table.now.width l.cell.fixed + free l.self.now.table.now.width l.cell.fixed + 1
