-- What is said of a table whose entry e has the number (to e): "no more than entry numbers" is changed (document 02, No. 12).
use Rattle.std.specs.Prelude.{ℕ, ◌+◌, ◌*◌, ◌^◌, ◌≤◌, ◌<◌, ◌≡◌, cond, List, ◌++◌, map, ◌↔◌, eqb, length, take, drop}
use Rattle.std.proofs.Math.Option
use Rattle.std.proofs.Math.Option.{Option}
use Rattle.words.specs.Tests.{◌and◌}
use Rattle.words.specs.Words.{word, bits}
use Rattle.words.specs.Outcome.{Outcome, result, faulty, refused}
use Rattle.table.specs.Table.{Entry, kind_of}
use Rattle.choice.specs.Rule.{names, moved_choice}
use Rattle.operands.specs.Calls.{Decoded, entry_values, none_selected}
use Rattle.flat.specs.Walk.{Walk}
use Rattle.tree.specs.Tree.{Tree, leaf, test}
use Rattle.tree.specs.Written.{leaf_word}
use Rattle.image.specs.Listing.{Step}

-- "the same tests and nothings", "and each leaf names the moved entry"
unfoldable pub moved_tree : (ℕ → ℕ) → Tree → Tree
moved_tree to (leaf a) = leaf (moved_choice to a)
moved_tree to (test b l r) = test b (moved_tree to l) (moved_tree to r)

-- the same of a word of the written form: "Kind 9 names the entry in bits 7–0", which is moved; every other word stays, and a damaged one too
unfoldable pub moved_word : (ℕ → ℕ) → ℕ → ℕ
moved_word to w = cond (eqb (kind_of w) 9 and eqb (bits 27 8 w) 0) (leaf_word (names (to (bits 7 0 w)))) w

-- and of what a walk answers: the same count and mask
abbrev pub moved_walk : (ℕ → ℕ) → Walk → Walk
moved_walk to a = record { entry = Option.map to a.entry; count = a.count; mask = a.mask }

-- and of what lookup answers, and decoding, with the values of the fields as they were
abbrev pub moved_answer : (ℕ → ℕ) → Outcome (Option ℕ) → Outcome (Option ℕ)
moved_answer to (result o) = result (Option.map to o)
moved_answer to (faulty n p) = faulty n p
moved_answer to (refused n p w) = refused n p w

abbrev pub moved_decoded : (ℕ → ℕ) → Outcome Decoded → Outcome Decoded
moved_decoded to (result (entry_values e vs)) = result (entry_values (to e) vs)
moved_decoded to (result none_selected) = result none_selected
moved_decoded to (faulty n p) = faulty n p
moved_decoded to (refused n p w) = refused n p w

-- and of an item: "kind 12 with the entry in bits 27–20", which is moved; every other item stays
unfoldable pub moved_item : (ℕ → ℕ) → ℕ → ℕ
moved_item to w = cond (eqb (kind_of w) 12) (12 * 2 ^ 28 + to (bits 27 20 w) * 2 ^ 20 + bits 19 0 w) w

-- a buffer whose first n words are items, with these moved
abbrev pub moved_items : (ℕ → ℕ) → ℕ → List ℕ → List ℕ
moved_items to n buffer = map (moved_item to) (take n buffer) ++ drop n buffer

-- how many items a listing leaves in a buffer of `room` words: those that it counts; with 17 the whole room; else none
abbrev pub items_left : Outcome ℕ → ℕ → ℕ
items_left (result n) room = n
items_left (faulty n p) room = 0
items_left (refused n p w) room = cond (eqb n 17) room 0

-- and of a step: the same address after its item, and the same mask
abbrev pub moved_step : (ℕ → ℕ) → Step → Step
moved_step to s = record { item = record { word = moved_item to s.item.word; next = s.item.next }; mask = s.mask }

abbrev pub moved_stepped : (ℕ → ℕ) → Outcome (Option Step) → Outcome (Option Step)
moved_stepped to (result o) = result (Option.map (moved_step to) o)
moved_stepped to (faulty n p) = faulty n p
moved_stepped to (refused n p w) = refused n p w

-- a tree, whoever made it, names only entries of the table: each of its words, from the first to the last node that this tells of, that is of
-- kind 9 without a spare bit names one
abbrev pub NamesEntry : List Entry → ℕ → Type 0
NamesEntry es x = kind_of x ≡ 9 → bits 27 8 x ≡ 0 → bits 7 0 x < length es

abbrev pub NamesOnly : List Entry → List ℕ → Type 0
NamesOnly es words = (i : ℕ) → i ≤ bits 15 0 (word words 0) → NamesEntry es (word words i)

-- its words with the leaves renumbered
abbrev pub moved_words : (ℕ → ℕ) → List ℕ → List ℕ
moved_words to words = map (moved_word to) words

-- two answers are alike: "refused alike for 5, 6 and the word"; "For 19 the two tables are refused alike, though the lowest entry may differ";
-- else the same
pub record Alike {A : Type 0} (x y : Outcome A) : Type 0 where
  pub five : (x ≡ refused 5 0 0) ↔ (y ≡ refused 5 0 0)
  pub six : (w : ℕ) → (x ≡ refused 6 0 w) ↔ (y ≡ refused 6 0 w)
  pub nineteen : ((e : ℕ) × (x ≡ refused 19 e 0)) ↔ ((e : ℕ) × (y ≡ refused 19 e 0))
  pub answer : (a : A) → (x ≡ result a) ↔ (y ≡ result a)
