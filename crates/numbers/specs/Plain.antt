-- A field without its form (document 02, No. 7): "0 plain".
use Rattle.std.specs.Prelude.{map}
use Rattle.table.specs.Table.{Field, Entry, Table}

unfoldable pub plain : Field → Field
plain f = record { low = f.low; width = f.width; form = 0; fraction = 0 }

-- an entry with plain fields
unfoldable pub plain_entry : Entry → Entry
plain_entry e = record { label = e.label; size = e.size; opcode = e.opcode; cycles = e.cycles; fields = map plain e.fields; conditions = e.conditions }

-- a table with plain fields; two tables differ in forms only where this is the same of both
unfoldable pub plain_table : Table → Table
plain_table t = record { width = t.width; entries = map plain_entry t.entries }
