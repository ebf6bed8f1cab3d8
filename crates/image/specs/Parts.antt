-- What the parts of the lister promise each other.
use Rattle.std.specs.Prelude.{ℕ, ◌≡◌, List, length, Result}
use Rattle.words.specs.declared.Refusal.{Refusal}
use Rattle.table.specs.Table.{Entry, table_of}
use Rattle.image.specs.declared.lister.Admitted.{Admitted}
use Rattle.image.specs.Listing.{counted, filled_with, said_list}

-- the entries by which an image is listed
abbrev pub entries_of : Admitted → List Entry
entries_of a = (table_of a.table.entries.words.now).entries

-- it holds this table, tree and image
pub record IsOf (a : Admitted) (ws nodes bytes : List ℕ) : Type 0 where
  pub table : a.table.entries.words.now ≡ ws
  pub tree : a.tree.now ≡ nodes
  pub image : a.image.now ≡ bytes

-- the items written to a buffer
pub record Fills (is before after : List ℕ) (r : Result ℕ Refusal) : Type 0 where
  pub answer : said_list r ≡ counted is (length before)
  pub buffer : after ≡ filled_with is before
