-- Addresses and offsets in an image, and what stands there ('Checker and images').
use Rattle.std.specs.Prelude.{ℕ, ◌+◌, ◌*◌, ◌/◌, ◌^◌, List, length, get_or}
use Rattle.image.specs.declared.HalfwordAddress.{HalfwordAddress}
use Rattle.image.specs.declared.ByteOffset.{ByteOffset}

-- "offset = 2 × address"
abbrev pub offset_of : HalfwordAddress → ByteOffset
offset_of a = record { 0 = 2 * a.0 }

-- so many halfwords on
abbrev pub after : HalfwordAddress → ℕ → HalfwordAddress
after a n = record { 0 = a.0 + n }

-- "A halfword is two bytes, low byte first"; a missing one reads as zero
unfoldable pub halfword_at : List ℕ → HalfwordAddress → ℕ
halfword_at image a = get_or image (offset_of a).0 0 + 2 ^ 8 * get_or image ((offset_of a).0 + 1) 0

-- "The halfword at an address is the word's upper half, the next one its lower half; a missing lower half reads as zero."
unfoldable pub word_at : List ℕ → HalfwordAddress → ℕ
word_at image a = 2 ^ 16 * halfword_at image a + halfword_at image (after a 1)

-- how many halfwords the image has: its end, as an address
abbrev pub halfwords : List ℕ → ℕ
halfwords image = length image / 2
