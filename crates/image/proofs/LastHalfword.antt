-- Document 02, No. 6, sentence by sentence, over the definitions that the calls' contracts cite. Assumes nothing.
--   `image::list` answers `list_of (read_table ws) tree image room` and `image::step` `step_of (read_table ws) tree image at`; their items are those
--   of `item_at`, a step's mask that of `handed_on`. `halves::in_common` answers `common_of tree upper`.
--     kind_12, kind_13, kind_14     the item with the lower half missing
--     cut_within     an image that was cut within an instruction
--     zeros_mask     the mask handed on for it
--     full_words     every other item
--     found_in_tree     what the code finds in a tree that the checker accepts
use Prim.Native.Nat.{ℕ, ◌+◌, ◌*◌, ◌%◌, ◌^◌, ◌<◌}
use native.Mathlib.Nat.{add-zero}
use native.Mathlib.Omega.{arith}
use mathlib.Core.Path.{◌≡◌, sym, ap, ◌∙◌}
use mathlib.Core.Logic.{◌↔◌}
use mathlib.Core.Bool.{true}
use mathlib.Core.List.{List}
use lib.Dec.{eqb}
use lib.ListN.{length}
use borrow.Author.Tests.{eq-eqb, eqb-true}
use Rattle.words.specs.Outcome.{result}
use Rattle.words.proofs.Logic.{cases}
use Rattle.table.specs.Table.{Entry, Table, entry_number}
use Rattle.table.specs.Check.{read_table}
use Rattle.choice.specs.Rule.{Choice, names, nothing}
use Rattle.choice.proofs.Judging.{answers}
use Rattle.selection.specs.Selection.{select}
use Rattle.selection.proofs.Formula.{names_exactly}
use Rattle.flat.specs.Walk.{walk_of, mask_or_zero}
use Rattle.tree.proofs.Demand.{read_sane}
use Rattle.checker.specs.Checker.{accepts}
use Rattle.halves.specs.Common.{common_of}
use Rattle.halves.proofs.Accepted.{AllSelect, zeros_below, OfAll, accepted_halves}
use Rattle.image.specs.declared.HalfwordAddress.{HalfwordAddress}
use Rattle.image.specs.declared.Item.{Item}
use Rattle.image.specs.declared.Picked.{Picked}
use Rattle.image.specs.declared.Picked.TheVariants.{Short, Nothing, Cut}
use Rattle.image.specs.Address.{halfword_at, word_at, halfwords}
use Rattle.image.specs.Items.{picked, all_same, last_by, last_picked, found_word, nothing_word, cut_word, item_of, item_at}
use Rattle.image.specs.Listing.{handed_on}
use Rattle.image.proofs.Leading.{last_word, item_full, item_last}
use Rattle.image.proofs.Picking.{same_all, last_all}

-- ---- the words of items differ

module _ (a : HalfwordAddress) (e : ℕ) where
  same_entry : (f : ℕ) → found_word f a ≡ found_word e a → f ≡ e
  unfolding found_word
  same_entry f q = omega (arith, q)

  not_nothing : e < 256 → found_word e a ≡ nothing_word a → ⊥
  unfolding found_word nothing_word
  not_nothing h q = omega (arith, q)

  not_cut : e < 256 → found_word e a ≡ cut_word a → ⊥
  unfolding found_word cut_word
  not_cut h q = omega (arith, q)

nothing_not_cut : (a : HalfwordAddress) → nothing_word a ≡ cut_word a → ⊥
unfolding nothing_word cut_word
nothing_not_cut a q = omega (arith, q)

-- ---- "With the lower half missing", by a table that reads

module _ (ws : List ℕ) (t : Table) (reads : read_table ws ≡ result t) (image : List ℕ) (a : HalfwordAddress) (last : a.0 + 1 ≡ halfwords image) where
  -- all of them select this; and the entry of length 16
  abbrev All : Choice → Type 0
  All x = AllSelect t.entries (halfword_at image a) x

  abbrev Has16 : ℕ → Type 0
  Has16 e = (entry_number t.entries e).size ≡ 16

  -- an item, and the image's end after it
  abbrev ends : ℕ → Item
  ends w = record { word = w; next = record { 0 = halfwords image } }

  abbrev is_item : Item → Type 0
  is_item i = item_at t.entries image a ≡ i

  few : (e : ℕ) → All (names e) → e < 256
  few e all = omega (arith, ((names_exactly t.entries _ e).0 (zeros_below t.entries _ (names e) all)).entry, (read_sane ws t reads).short)

  says : (p : Picked) → last_picked t.entries (halfword_at image a) ≡ p → is_item (item_of p a (halfwords image))
  says p q = item_last t.entries image a last ∙ ap (λ (x : Picked). item_of x a (halfwords image)) q

  item_short : (e : ℕ) → All (names e) → Has16 e → is_item (ends (found_word e a))
  unfolding last_by item_of
  item_short e all h =
      says (Short e) (last_all t.entries _ (names e) all ∙ rw (eq-eqb _ 16 h))
      ∙ ap (λ (n : ℕ). record { word = found_word e a; next = record { 0 = n } }) last

  item_nothing : All nothing → is_item (ends (nothing_word a))
  unfolding last_by item_of
  item_nothing all =
      says Nothing (last_all t.entries _ nothing all)
      ∙ ap (λ (n : ℕ). record { word = nothing_word a; next = record { 0 = n } }) last

  item_cut : last_picked t.entries (halfword_at image a) ≡ Cut → is_item (ends (cut_word a))
  unfolding item_of
  item_cut q = says Cut q

  -- there is no fourth case
  three {ℓ} : {G : Type ℓ} → ((e : ℕ) → All (names e) → Has16 e → G) → (All nothing → G) → (is_item (ends (cut_word a)) → G) → G
  unfolding last_picked last_by
  three f g h =
      let es : List Entry = t.entries in
      let u : ℕ = halfword_at image a in
      cases (all_same es u)
      (λ y.
      let all : AllSelect es u (select es (2 ^ 16 * u)) = same_all es u y in
      answers (select es (2 ^ 16 * u))
      (λ e q. cases (eqb (entry_number es e).size 16)
      (λ s. f e (rw q at all) (eqb-true _ 16 s))
      (λ s. h (item_cut (rw (y, q, s)))))
      (λ q. g (rw q at all))
      (λ q. h (item_cut (rw (y, q)))))
      (λ n. h (item_cut (rw n)))

  differ : {v w : ℕ} → is_item (ends v) → is_item (ends w) → v ≡ w
  differ p q = ap (λ (i : Item). i.word) (sym p ∙ q)

  -- "the item is now kind 12 exactly if all 65,536 lower halves select the same entry of length 16"; the entry in bits 27–20, so below 256
  pub kind_12 : (e : ℕ) → e < 256 → is_item (ends (found_word e a)) ↔ (All (names e) × Has16 e)
  kind_12 e small = (
    λ q. three
        (λ f all h. let s : f ≡ e = same_entry a e f (differ (item_short f all h) q) in (rw s at all, rw s at h))
        (λ all. absurd (not_nothing a e small (differ q (item_nothing all))))
        (λ c. absurd (not_cut a e small (differ q c))),
    λ (all, h). item_short e all h,
  )

  -- "kind 13 if all of them select nothing"
  pub kind_13 : is_item (ends (nothing_word a)) ↔ All nothing
  kind_13 = (
    λ q. three
        (λ f all h. absurd (not_nothing a f (few f all) (differ (item_short f all h) q)))
        (λ all. all)
        (λ c. absurd (nothing_not_cut a (differ q c))),
    item_nothing,
  )

  -- "and kind 14 otherwise"
  pub kind_14 : is_item (ends (cut_word a)) ↔ (((e : ℕ) → All (names e) → Has16 e → ⊥) × (All nothing → ⊥))
  kind_14 = (
    λ q. (λ e all h. not_cut a e (few e all) (differ (item_short e all h) q), λ all. nothing_not_cut a (differ (item_nothing all) q)),
    λ (not_IsShort, some). three (λ e all h. absurd (not_IsShort e all h)) (λ all. absurd (some all)) (λ c. c),
  )

  -- "Images cut by a transfer end in half of an instruction": if with its lost lower half, l, it was one of more than 16 bits, the item is
  -- kind 14, whatever zeros below make of it
  pub cut_within : (l e : ℕ) → l < 2 ^ 16 → select t.entries (2 ^ 16 * halfword_at image a + l) ≡ names e → (Has16 e → ⊥) → is_item (ends (cut_word a))
  cut_within l e h was long =
      kind_14.1 (
        λ f all short. let same : names f ≡ names e = sym (all l h) ∙ was in let q : f ≡ e = cc in long (rw q at short),
        λ all. let q : nothing ≡ names e = sym (all l h) ∙ was in let z : ◌≡◌ {A = ℕ} 0 1 = cc in omega arith,
      )

-- ---- the mask, and full words

module _ (es : List Entry) (image : List ℕ) (a : HalfwordAddress) where
  -- "The mask handed on for such an item is that of the word with zeros below" (an image has whole halfwords, else it is refused with 16)
  pub zeros_mask : length image % 2 ≡ 0 → a.0 + 1 ≡ halfwords image → (tree : List ℕ)
      → (handed_on es tree image a).mask ≡ mask_or_zero (walk_of tree (2 ^ 16 * halfword_at image a))
  unfolding handed_on
  zeros_mask even last tree = ap (λ (x : ℕ). mask_or_zero (walk_of tree x)) (sym (last_word image a even last) ∙ add-zero _)

  -- "full words read as before"
  pub full_words : a.0 + 1 < halfwords image → item_at es image a ≡ item_of (picked es (word_at image a)) a (halfwords image)
  full_words = item_full es image a

-- ---- the code walks no word: it finds in the tree what all lower halves select, both ways

pub found_in_tree : (es : List Entry) (tree : List ℕ) → accepts es 32 tree ≡ true → (u : ℕ) → u < 2 ^ 16 → OfAll es u (common_of tree u)
found_in_tree = accepted_halves
