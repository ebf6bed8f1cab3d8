-- A whole listing, and a step ('Checker and images', 'Causes, numbers, places').
use Rattle.std.specs.Prelude.{ℕ, ◌%◌, Bool, true, false, cond, ◌≡◌, List, ◌++◌, leb, eqb, length, take, drop, Result, Option as Maybe, Some, None}
use Rattle.std.proofs.Math.Option.{Option, none, some}
use Rattle.words.specs.Tests.{◌and◌, ◌or◌, all_of}
use Rattle.words.specs.Words.{word, bits}
use Rattle.words.specs.Outcome.{Outcome, result, faulty, refused, said, said_as}
use Rattle.words.specs.declared.Refusal.{Refusal}
use Rattle.table.specs.Table.{Entry, Table}
use Rattle.table.specs.Check.{read_table}
use Rattle.flat.specs.Walk.{walk_of, mask_or_zero}
use Rattle.checker.specs.Checker.{accepts}
use Rattle.image.specs.declared.HalfwordAddress.{HalfwordAddress}
use Rattle.image.specs.declared.Item.{Item}
use Rattle.image.specs.declared.Stepped as handed
use Rattle.image.specs.Address.{word_at, halfwords}
use Rattle.image.specs.Items.{item_at, items}

-- ---- what refuses a listing and a step alike

-- "image table: width not 32 or a length not 16 or 32"
unfoldable pub image_size : Entry → Bool
image_size e = eqb e.size 16 or eqb e.size 32

unfoldable pub image_table : Table → Bool
image_table t = eqb t.width 32 and all_of image_size t.entries

-- "image odd or over 2,097,152 bytes"
unfoldable pub image_good : List ℕ → Bool
image_good image = eqb (length image % 2) 0 and leb (length image) 2097152

-- go on where the test holds, else refuse with the cause's number
unfoldable pub refuse_unless : {A : Type 0} → Bool → ℕ → Outcome A → Outcome A
refuse_unless true number rest = rest
refuse_unless false number rest = refused number 0 0

-- "Numbers 1–4 .. Then: .. listing 15, 16, 14": the entries of a table, where it, the tree and the image are not refused
unfoldable pub admitted : Outcome Table → List ℕ → List ℕ → Outcome (List Entry)
admitted (faulty n p) tree image = faulty n p
admitted (refused n p x) tree image = refused n p x
admitted (result t) tree image =
    refuse_unless (image_table t) 15 (refuse_unless (image_good image) 16 (refuse_unless (accepts t.entries t.width tree) 14 (result t.entries)))

-- ---- a whole listing

-- "A whole listing returns the number of items"; "more items than the buffer takes": 17 with "halfword address of the first left out",
-- which that item has in bits 19–0
unfoldable pub counted : List ℕ → ℕ → Outcome ℕ
counted is room = cond (leb (length is) room) (result (length is)) (refused 17 (bits 19 0 (word is room)) 0)

-- "buffer words after them are unchanged"; with 17 "buffer holds the earlier items"
unfoldable pub filled_with : List ℕ → List ℕ → List ℕ
filled_with is buffer = cond (leb (length is) (length buffer)) (is ++ drop (length is) buffer) (take (length buffer) is)

unfoldable pub list_from : Outcome (List Entry) → List ℕ → ℕ → Outcome ℕ
list_from (faulty n p) image room = faulty n p
list_from (refused n p x) image room = refused n p x
list_from (result es) image room = counted (items es image) room

-- listing an image into a buffer of `room` words
unfoldable pub list_of : Outcome Table → List ℕ → List ℕ → ℕ → Outcome ℕ
list_of r tree image room = list_from (admitted r tree image) image room

unfoldable pub buffer_from : Outcome (List Entry) → List ℕ → List ℕ → List ℕ
buffer_from (faulty n p) image buffer = buffer
buffer_from (refused n p x) image buffer = buffer
buffer_from (result es) image buffer = filled_with (items es image) buffer

-- the whole buffer afterwards; "Left unchanged: all" where the listing is refused, but for 17
unfoldable pub buffer_of : Outcome Table → List ℕ → List ℕ → List ℕ → List ℕ
buffer_of r tree image buffer = buffer_from (admitted r tree image) image buffer

-- the paper's number and values for each case of the answer
abbrev pub said_list : Result ℕ Refusal → Outcome ℕ
said_list = said

-- listing answers what the definition says, and the whole buffer is as the definition says
pub record Lists (ws tree image before after : List ℕ) (r : Result ℕ Refusal) : Type 0 where
  pub answer : said_list r ≡ list_of (read_table ws) tree image (length before)
  pub buffer : after ≡ buffer_of (read_table ws) tree image before

-- ---- a step

-- what a step gives: the item and, document 02, No. 1, "its item's mask"
pub record Step : Type 0 where
  pub item : Item
  pub mask : ℕ

-- the mask is that of the walk of the word at the address; for the last halfword, document 02, No. 6, "that of the word with zeros below"
unfoldable pub handed_on : List Entry → List ℕ → List ℕ → HalfwordAddress → Step
handed_on es tree image a = record { item = item_at es image a; mask = mask_or_zero (walk_of tree (word_at image a)) }

-- "at or past the image's end says end", which is none
unfoldable pub step_from : Outcome (List Entry) → List ℕ → List ℕ → HalfwordAddress → Outcome (Option Step)
step_from (faulty n p) tree image a = faulty n p
step_from (refused n p x) tree image a = refused n p x
step_from (result es) tree image a = result (cond (leb (halfwords image) a.0) none (some (handed_on es tree image a)))

-- "A step takes an address, refuses as listing does but for 17"
unfoldable pub step_of : Outcome Table → List ℕ → List ℕ → HalfwordAddress → Outcome (Option Step)
step_of r tree image a = step_from (admitted r tree image) tree image a

-- what the code hands on, as a step
abbrev pub step_given : Maybe handed.Stepped → Option Step
step_given None = none
step_given (Some s) = some (record { item = record { word = s.word; next = s.next }; mask = s.mask })

-- the paper's number and values for each case of the answer
abbrev pub said_step : Result (Maybe handed.Stepped) Refusal → Outcome (Option Step)
said_step = said_as step_given
