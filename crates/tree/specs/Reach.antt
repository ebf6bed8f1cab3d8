-- Which entries the words of the width reach (document 02, No. 8), and which the leaves of a tree name.
use Rattle.std.specs.Prelude.{ℕ, ◌^◌, Bool, not, List, length}
use Rattle.std.proofs.Math.Option.{Option}
use Rattle.words.specs.Tests.{◌or◌, exists, first}
use Rattle.table.specs.Table.{Entry}
use Rattle.choice.specs.Rule.{selects}
use Rattle.selection.specs.Selection.{select}
use Rattle.tree.specs.Tree.{Tree, leaf, test}

-- some word of the width selects entry e; not to be computed at a large width
unfoldable pub reached : List Entry → ℕ → ℕ → Bool
reached es width e = exists (λ w. selects (select es w) e) (2 ^ width)

-- "some entry is selected by no word of the width": "the lowest such entry"
unfoldable pub lowest_unreached : List Entry → ℕ → Option ℕ
lowest_unreached es width = first (λ e. not (reached es width e)) (length es)

-- some leaf of the tree names entry e
unfoldable pub names_entry : Tree → ℕ → Bool
names_entry (leaf a) e = selects a e
names_entry (test i l r) e = names_entry l e or names_entry r e
