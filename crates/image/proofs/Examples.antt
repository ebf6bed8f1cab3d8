-- Small images, listed by computing the definitions on a table's words; last halfwords, by the laws: nothing here computes 65,536 selections.
-- Assumes nothing.
use Prim.Native.Nat.{ℕ}
use mathlib.Core.Path.{◌≡◌, refl, sym}
use mathlib.Core.List.{List, [], ◌∷◌}
use mathlib.Core.Option.{Option, none, some}
use native.Mathlib.Omega.{arith}
use Rattle.words.specs.Outcome.{Outcome, result, faulty, refused}
use Rattle.table.specs.Table.{Entry, table_of}
use Rattle.table.specs.Check.{read_table}
use Rattle.table.specs.Worked.{worked}
use Rattle.selection.proofs.Examples.{looks}
use Rattle.checker.proofs.Examples.{verdict}
use Rattle.halves.proofs.Examples.{says}
use Rattle.image.specs.declared.HalfwordAddress.{HalfwordAddress}
use Rattle.image.specs.declared.Picked.TheVariants.{Short, Nothing, Cut}
use Rattle.image.proofs.Picking.{last_short, last_long, last_nothing, last_several}
use Rattle.image.specs.Address.{halfword_at, word_at}
use Rattle.image.specs.Items.{picked_by, picked, last_picked, picked_at, found_word, nothing_word, cut_word, item_of, item_at, items_from, items}
use Rattle.flat.specs.Walk.{path, mask_of, enters, walk_of}
use Rattle.image.specs.Listing.{image_size, image_table, image_good, refuse_unless, admitted, counted, filled_with, list_from, list_of, buffer_from, buffer_of, Step, handed_on, step_from, step_of}

-- width 32: entry 0 has 16 bits, 0 and a field of 15; entry 1 has 32 bits, 10 and a field of 30; 11 is nothing
abbrev table : List ℕ
table =
    0x10020020
    ∷ 0x20001010 ∷ 0x80000000 ∷ 0x00000000 ∷ 0x3000100f
    ∷ 0x20012010 ∷ 0xc0000000 ∷ 0x80000000 ∷ 0x3000001e
    ∷ []

-- the same with a length of 24 for entry 1
abbrev other_length : List ℕ
other_length =
    0x10020020
    ∷ 0x20001010 ∷ 0x80000000 ∷ 0x00000000 ∷ 0x3000100f
    ∷ 0x20011810 ∷ 0xc0000000 ∷ 0x80000000 ∷ 0x30000816
    ∷ []

-- its tree, and one that names the entries the wrong way round
abbrev tree : List ℕ
tree = 0x70200005 ∷ 0x8f800003 ∷ 0x90000000 ∷ 0x8f000005 ∷ 0x90000001 ∷ 0xa0000000 ∷ []

abbrev wrong_tree : List ℕ
wrong_tree = 0x70200005 ∷ 0x8f800003 ∷ 0x90000001 ∷ 0x8f000005 ∷ 0x90000000 ∷ 0xa0000000 ∷ []

-- a short entry, a long one, nothing, and a long one again; an odd number of bytes
abbrev image : List ℕ
image = 0x34 ∷ 0x12 ∷ 0x01 ∷ 0x80 ∷ 0x02 ∷ 0x00 ∷ 0x00 ∷ 0xc0 ∷ 0xff ∷ 0xbf ∷ 0x00 ∷ 0x00 ∷ []

abbrev odd : List ℕ
odd = 0x34 ∷ 0x12 ∷ 0x01 ∷ 0x80 ∷ 0x02 ∷ 0x00 ∷ 0x00 ∷ 0xc0 ∷ 0xff ∷ []

abbrev at : ℕ → HalfwordAddress
at n = record { 0 = n }

abbrev item : ℕ → ℕ → ℕ → Outcome (Option Step)
item word next mask = result (some (record { item = record { word = word; next = at next }; mask = mask }))

-- listing by this table, with every definition open
unfoldable pub lists : List ℕ → List ℕ → ℕ → Outcome ℕ
unfolding verdict looks halfword_at word_at picked_by picked picked_at found_word nothing_word cut_word item_of item_at items_from items image_size image_table image_good refuse_unless admitted counted filled_with list_from list_of buffer_from buffer_of path mask_of enters walk_of handed_on step_from step_of
lists tree image room = list_of (read_table table) tree image room

-- ---- a whole listing

pub record Listings : Type 0 where
  pub whole : list_of (read_table table) tree image 6 ≡ result 4
  pub buffer : buffer_of (read_table table) tree image (1 ∷ 2 ∷ 3 ∷ 4 ∷ 5 ∷ 6 ∷ []) ≡ 0xc0000000 ∷ 0xc0100001 ∷ 0xd0000003 ∷ 0xc0100004 ∷ 5 ∷ 6 ∷ []
  pub exact : list_of (read_table table) tree image 4 ≡ result 4
  -- a buffer one word short: 17 with the address of the item left out
  pub full : list_of (read_table table) tree image 3 ≡ refused 17 4 0
  pub earlier : buffer_of (read_table table) tree image (1 ∷ 2 ∷ 3 ∷ []) ≡ 0xc0000000 ∷ 0xc0100001 ∷ 0xd0000003 ∷ []
  pub none_fit : list_of (read_table table) tree image 0 ≡ refused 17 0 0
  pub empty : list_of (read_table table) tree [] 0 ≡ result 0

pub listings : Listings
unfolding lists
listings = record { whole = refl; buffer = refl; exact = refl; full = refl; earlier = refl; none_fit = refl; empty = refl }

-- ---- what refuses, in its order: the table's faults, 15, 16, 14, 17

pub record Refusals : Type 0 where
  pub no_table : list_of (read_table []) wrong_tree odd 0 ≡ faulty 1 0
  pub width_8 : list_of (read_table worked) wrong_tree odd 0 ≡ refused 15 0 0
  pub length_24 : list_of (read_table other_length) tree image 6 ≡ refused 15 0 0
  pub odd_image : list_of (read_table table) wrong_tree odd 0 ≡ refused 16 0 0
  pub bad_tree : list_of (read_table table) wrong_tree image 0 ≡ refused 14 0 0
  pub unchanged : buffer_of (read_table table) wrong_tree image (1 ∷ 2 ∷ []) ≡ 1 ∷ 2 ∷ []

pub refusals : Refusals
unfolding lists
refusals = record { no_table = refl; width_8 = refl; length_24 = refl; odd_image = refl; bad_tree = refl; unchanged = refl }

-- ---- steps: the item, the address after it, the mask of the bits tested

pub record Steps : Type 0 where
  pub short : step_of (read_table table) tree image (at 0) ≡ item 0xc0000000 1 0x80000000
  pub long : step_of (read_table table) tree image (at 1) ≡ item 0xc0100001 3 0xc0000000
  -- in the middle of an item
  pub inside : step_of (read_table table) tree image (at 2) ≡ item 0xc0000002 3 0x80000000
  pub nothing : step_of (read_table table) tree image (at 3) ≡ item 0xd0000003 4 0xc0000000
  pub again : step_of (read_table table) tree image (at 4) ≡ item 0xc0100004 6 0xc0000000
  pub end : step_of (read_table table) tree image (at 6) ≡ result none
  pub past : step_of (read_table table) tree image (at 9) ≡ result none
  -- it refuses as a listing does, past the end too
  pub refuses : step_of (read_table table) wrong_tree image (at 9) ≡ refused 14 0 0

pub steps : Steps
unfolding lists
steps = record { short = refl; long = refl; inside = refl; nothing = refl; again = refl; end = refl; past = refl; refuses = refl }

-- ---- the last halfword

-- entry 1 made more specific than entry 0, by bit 0 of its 32 bits; and its tree
abbrev close_table : List ℕ
close_table =
    0x10020020
    ∷ 0x20001010 ∷ 0x80000000 ∷ 0x00000000 ∷ 0x3000100f
    ∷ 0x20012010 ∷ 0x80000001 ∷ 0x00000001 ∷ 0x3000011e
    ∷ []

abbrev close_tree : List ℕ
close_tree = 0x70200005 ∷ 0x8f800005 ∷ 0x80000004 ∷ 0x90000000 ∷ 0x90000001 ∷ 0xa0000000 ∷ []

abbrev entries : List ℕ → List Entry
entries ws = (table_of ws).entries

pub record Lasts : Type 0 where
  -- all lower halves select entry 0, of 16 bits; entry 1, of 32 bits; nothing
  pub short : last_picked (entries table) 0x1234 ≡ Short 0
  pub long : last_picked (entries table) 0xbfff ≡ Cut
  pub nothing : last_picked (entries table) 0xc000 ≡ Nothing
  -- zeros below make a whole entry, and some other lower half another
  pub zeros : picked (entries close_table) 0x12340000 ≡ Short 0
  pub several : last_picked (entries close_table) 0x1234 ≡ Cut

pub lasts : Lasts
unfolding lists says
lasts =
    record {
      short = sym (last_short (entries table) tree refl 0x1234 (omega arith) _ refl 0 refl refl);
      long = sym (last_long (entries table) tree refl 0xbfff (omega arith) _ refl 1 refl refl);
      nothing = sym (last_nothing (entries table) tree refl 0xc000 (omega arith) _ refl refl);
      zeros = refl;
      several = sym (last_several (entries close_table) close_tree refl 0x1234 (omega arith) _ refl refl);
    }

-- the step there: kind 14 and the end, with the mask of 0x12340000
pub cut_step : step_of (read_table close_table) close_tree (0x34 ∷ 0x12 ∷ []) (at 0) ≡ item 0xe0000000 1 0x80000001
unfolding lists
cut_step = rw lasts.several refl

-- and a listing that ends there
pub cut_listing : buffer_of (read_table close_table) close_tree (0x78 ∷ 0x56 ∷ 0x34 ∷ 0x12 ∷ []) (1 ∷ 2 ∷ 3 ∷ []) ≡ 0xc0000000 ∷ 0xe0000001 ∷ 3 ∷ []
unfolding lists
cut_listing = rw lasts.several refl
