-- `words::is_table` meets its contract. Assumes nothing.
use borrow.Author.Tests.{le-leb, lt-leb}
use Rattle.words.specs.Bytes.{is_table}
use Rattle.words.proofs.is_table.Goals as goal

pub returns-then-bytes-gt-TABLE_BYTES : goal.returns-then-bytes-gt-TABLE_BYTES
unfolding is_table
returns-then-bytes-gt-TABLE_BYTES c = rw (lt-leb _ 65536 c.if-bytes-gt-TABLE_BYTES.true)

pub returns : goal.returns
unfolding is_table
returns c = rw (le-leb _ 65536 c.if-bytes-gt-TABLE_BYTES.false)
