-- One list of entries in another order ("Vendors reorder their manuals between editions").
use Rattle.std.specs.Prelude.{ℕ, ◌<◌, ◌≡◌, List, length}
use Rattle.table.specs.Table.{Entry, entry_number}

-- fs has the entries of es in another order: entry e of es is entry (to e) of fs, and entry i of fs was entry (from i) of es
pub record Shuffled (es fs : List Entry) : Type 0 where
  pub to : ℕ → ℕ
  pub from : ℕ → ℕ
  pub to_inside : (e : ℕ) → e < length es → to e < length fs
  pub from_inside : (i : ℕ) → i < length fs → from i < length es
  pub from_to : (e : ℕ) → e < length es → from (to e) ≡ e
  pub to_from : (i : ℕ) → i < length fs → to (from i) ≡ i
  pub each : (e : ℕ) → e < length es → entry_number fs (to e) ≡ entry_number es e
