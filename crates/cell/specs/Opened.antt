-- The entries that stand in a cell, and which of them are open.
use Rattle.std.specs.Prelude.{ℕ, Bool}
use Rattle.table.specs.Table.{Entry}
use Rattle.choice.specs.Judged.{entry_of}
use Rattle.cell.specs.Cell.{open_entry}
use Rattle.cell.specs.Decide.{cell_of}
use Rattle.cell.specs.declared.standing.Standing.{Standing}

abbrev pub entry_in : Standing → ℕ → Entry
entry_in s = entry_of s.entries.now

abbrev pub opened : Standing → ℕ → Bool
opened s j = open_entry (cell_of s.cell) (entry_in s j)
