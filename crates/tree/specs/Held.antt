-- The entries of a table that was read, for the contracts of those who hold it.
use Rattle.std.specs.Prelude.{List}
use Rattle.table.specs.Table.{Entry, entries_at}
use Rattle.table.specs.declared.Table as held

abbrev pub entries_of : held.Table → List Entry
entries_of t = entries_at t.entries.words.now t.entries.count 1
