-- Items: what stands at an address by the selection of its word, and all that stands from an address on ('Checker and images'; document 02,
-- No. 6: the last halfword).
use Rattle.std.specs.Prelude.{ℕ, zero, suc, ◌+◌, ◌*◌, ◌^◌, Bool, cond, List, [], ◌∷◌, ltb, eqb}
use Rattle.words.specs.Tests.{every}
use Rattle.table.specs.Table.{Entry, entry_number}
use Rattle.choice.specs.Rule.{Choice, names, nothing, ambiguous, same_choice}
use Rattle.selection.specs.Selection.{select}
use Rattle.image.specs.declared.HalfwordAddress.{HalfwordAddress}
use Rattle.image.specs.declared.Item.{Item}
use Rattle.image.specs.declared.Picked.{Picked}
use Rattle.image.specs.declared.Picked.TheVariants.{Short, Long, Nothing, Cut}
use Rattle.image.specs.Address.{after, halfword_at, word_at, halfwords}

-- the selected entry by its length, 16 bits or 32 (a table whose tree is accepted has no ambiguous word)
unfoldable pub picked_by : List Entry → Choice → Picked
picked_by es (names e) = cond (eqb (entry_number es e).size 16) (Short e) (Long e)
picked_by es nothing = Nothing
picked_by es ambiguous = Nothing

unfoldable pub picked : List Entry → ℕ → Picked
picked es w = picked_by es (select es w)

-- "all 65,536 lower halves select the same": each as the word with zeros below does
unfoldable pub all_same : List Entry → ℕ → Bool
all_same es u = every (λ l. same_choice (select es (2 ^ 16 * u + l)) (select es (2 ^ 16 * u))) (2 ^ 16)

-- what all of them select: "the same entry of length 16", "nothing", or otherwise
unfoldable pub last_by : List Entry → Choice → Picked
last_by es (names e) = cond (eqb (entry_number es e).size 16) (Short e) Cut
last_by es nothing = Nothing
last_by es ambiguous = Cut

-- "With the lower half missing, the item is now kind 12 exactly if all 65,536 lower halves select the same entry of length 16, kind 13 if
-- all of them select nothing, and kind 14 otherwise."
unfoldable pub last_picked : List Entry → ℕ → Picked
last_picked es u = cond (all_same es u) (last_by es (select es (2 ^ 16 * u))) Cut

-- what the image says at an address: at its last halfword so; "full words read as before"
unfoldable pub picked_at : List Entry → List ℕ → HalfwordAddress → Picked
picked_at es image a = cond (ltb (a.0 + 1) (halfwords image)) (picked es (word_at image a)) (last_picked es (halfword_at image a))

-- "kind 12 with the entry in bits 27–20 and the address in bits 19–0"
unfoldable pub found_word : ℕ → HalfwordAddress → ℕ
found_word e a = 12 * 2 ^ 28 + e * 2 ^ 20 + a.0

-- "kind 13 with the address", "kind 14 with the address"
unfoldable pub nothing_word : HalfwordAddress → ℕ
nothing_word a = 13 * 2 ^ 28 + a.0

unfoldable pub cut_word : HalfwordAddress → ℕ
cut_word a = 14 * 2 ^ 28 + a.0

-- the item at an address of an image of n halfwords, and the address after it: an entry, "then on by its length";
-- "if nothing is selected, then on by one halfword"; a word that is cut, "and the end"
unfoldable pub item_of : Picked → HalfwordAddress → ℕ → Item
item_of (Short e) a n = record { word = found_word e a; next = after a 1 }
item_of (Long e) a n = record { word = found_word e a; next = after a 2 }
item_of Nothing a n = record { word = nothing_word a; next = after a 1 }
item_of Cut a n = record { word = cut_word a; next = record { 0 = n } }

-- "The lister gives one item a step"
unfoldable pub item_at : List Entry → List ℕ → HalfwordAddress → Item
item_at es image a = item_of (picked_at es image a) a (halfwords image)

-- the items from an address on; each leads on by a halfword at least, so that the halfwords left bound their number
unfoldable pub items_from : List Entry → List ℕ → ℕ → HalfwordAddress → List ℕ
items_from es image zero a = []
items_from es image (suc left) a =
    cond (ltb a.0 (halfwords image)) ((item_at es image a).word ∷ items_from es image left (item_at es image a).next) []

-- all items of the image
unfoldable pub items : List Entry → List ℕ → List ℕ
items es image = items_from es image (halfwords image) (record { 0 = 0 })
