-- The answers of a walk, of a check, of sizing, of a listing, of cycles, of a withdrawal and of operands in 64 bits, for C ('Written form').
use Rattle.std.specs.Prelude.{ℕ, suc, ◌+◌, ◌-◌, ◌*◌, ◌^◌, ◌/◌, ◌%◌, ◌<◌, ◌≡◌, List, ℤ, pos, negsuc, length}
use Rattle.std.proofs.Math.Option.{Option, none, some}
use Rattle.std.specs.Int.Signed.{mag}
use Rattle.words.specs.Outcome.{Outcome, result, faulty, refused}
use Rattle.table.specs.Check.{read_table}
use Rattle.flat.specs.Walk.{Walk}
use Rattle.tree.specs.Generate.{Measure}
use Rattle.image.specs.Listing.{list_of, buffer_of}
use Rattle.numbers.specs.Calls.{text_of, length_of, buffer_after}

-- "entry in 7–0, bit 8 for nothing"
abbrev pub named : Option ℕ → ℕ
named (some e) = e
named none = 2 ^ 8

-- "count in 31–16, number in 39–32 (0 if none), place in 63–48, the rest zero"
abbrev pub packed : Outcome Walk → ℕ
packed (result a) = named a.entry + a.count * 2 ^ 16
packed (faulty number place) = number * 2 ^ 32 + place * 2 ^ 48
packed (refused number place w) = number * 2 ^ 32 + place * 2 ^ 48

-- a listing's, an entry's cycles, a stored value and a text's length, which are ours: the number of items, the cycles, the value, the length,
-- or the place, in 31–0; the number in 39–32 (0 if none)
abbrev pub packed_number : Outcome ℕ → ℕ
packed_number (result n) = n
packed_number (faulty number place) = number * 2 ^ 32 + place
packed_number (refused number place w) = number * 2 ^ 32 + place

-- a check's, laid out as a listing's: 0 for yes
abbrev pub packed_check : Outcome Unit → ℕ
packed_check (result u) = 0
packed_check (faulty number place) = number * 2 ^ 32 + place
packed_check (refused number place w) = number * 2 ^ 32 + place

-- a size, which is ours too: the number of nodes in 15–0 and the greatest number of tests in 31–16; or the place or the word (a refusal
-- has one of them at most) in 31–0; the number in 39–32 (0 if none)
abbrev pub packed_measure : Outcome Measure → ℕ
packed_measure (result m) = m.nodes + m.tests * 2 ^ 16
packed_measure (faulty number place) = number * 2 ^ 32 + place
packed_measure (refused number place w) = number * 2 ^ 32 + place + w

-- a count of words, which is ours too: its lowest 32 bits in 31–0 and 24 more in 63–40, since a list may have every word of the width, 2^32
-- of them; or the place or the word in 31–0; the number in 39–32 (0 if none)
abbrev pub packed_count : Outcome ℕ → ℕ
packed_count (result n) = n % 2 ^ 32 + n / 2 ^ 32 % 2 ^ 24 * 2 ^ 40
packed_count (faulty number place) = number * 2 ^ 32 + place
packed_count (refused number place w) = number * 2 ^ 32 + place + w

-- a signed number, which is ours too: its lowest 32 bits in 31–0, and bit 40 if it is below zero
abbrev pub packed_whole : ℤ → ℕ
packed_whole (pos n) = n
packed_whole (negsuc m) = 2 ^ 40 + (2 ^ 32 - suc m)

abbrev pub packed_signed : Outcome ℤ → ℕ
packed_signed (result z) = packed_whole z
packed_signed (faulty number place) = number * 2 ^ 32 + place
packed_signed (refused number place w) = number * 2 ^ 32 + place

-- a number that has this room, as every signed number of a field has
unfoldable pub Narrow : Outcome ℤ → Type 0
Narrow (result z) = mag z < 2 ^ 32
Narrow (faulty number place) = Unit {0}
Narrow (refused number place w) = Unit {0}

-- listing for C answers what the definition says, and the whole buffer is as the definition says
pub record ListsPacked (ws tree image before after : List ℕ) (r : ℕ) : Type 0 where
  pub answer : r ≡ packed_number (list_of (read_table ws) tree image (length before))
  pub buffer : after ≡ buffer_of (read_table ws) tree image before

-- a text for C: its length, and the whole buffer as the definition says
pub record WritesPacked (field value : ℕ) (before after : List ℕ) (r : ℕ) : Type 0 where
  pub answer : r ≡ packed_number (length_of (text_of field value) (length before))
  pub buffer : after ≡ buffer_after (text_of field value) before
