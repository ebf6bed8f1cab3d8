-- Listings and steps in two tables, the entries of the one in the other's order, with trees whose leaves are renumbered. Assumes nothing.
use Prim.Native.Nat.{ℕ, zero, suc, ◌+◌, ◌*◌, ◌^◌, ◌≤◌, ◌<◌}
use native.Mathlib.Omega.{arith}
use mathlib.Core.Path.{◌≡◌, refl, ap, ap₂, ◌∙◌}
use mathlib.Core.Bool.{Bool, true}
use mathlib.Core.List.{List, [], ◌∷◌, map}
use lib.Dec.{eqb, ltb}
use lib.ListN.{length}
use borrow.Author.Tests.{ltb-true}
use Rattle.words.specs.Tests.{all_of}
use Rattle.words.specs.Words.{part, bits}
use Rattle.words.proofs.Logic.{cases, same, all_of_at, all_of_make, every_same}
use Rattle.words.proofs.Parts.{part_lt}
use Rattle.table.specs.Table.{Entry, entry_number, kind_of}
use Rattle.choice.specs.Rule.{Choice, names, nothing, ambiguous, moved_choice, selects, same_choice, is_nothing, is_ambiguous}
use Rattle.selection.specs.Selection.{select}
use Rattle.selection.proofs.Formula.{names_exactly}
use Rattle.image.specs.declared.HalfwordAddress.{HalfwordAddress}
use Rattle.image.specs.Address.{halfword_at, word_at, halfwords}
use Rattle.image.specs.Items.{picked_by, picked, all_same, last_by, last_picked, picked_at, found_word, nothing_word, cut_word, item_of, item_at, items_from, items}
use Rattle.shuffle.specs.Shuffled.{Shuffled}
use Rattle.shuffle.specs.Moved.{moved_item}
use Rattle.shuffle.proofs.Shuffling.{select_shuffled}
use Rattle.shuffle.proofs.Renumbering.{to_once}

-- ---- the word of an item

found_moved : (to : ℕ → ℕ) (e : ℕ) (a : HalfwordAddress) → e < 256 → a.0 < 2 ^ 20 → found_word (to e) a ≡ moved_item to (found_word e a)
unfolding found_word moved_item part
found_moved to e a h l =
    let x : ℕ = 12 * 2 ^ 28 + e * 2 ^ 20 + a.0 in
    let k : kind_of x ≡ 12 = omega arith in
    let n : bits 27 20 x ≡ e = omega arith in
    let m : bits 19 0 x ≡ a.0 = omega arith in
    rw (k, n, m)

nothing_stays : (to : ℕ → ℕ) (a : HalfwordAddress) → a.0 < 2 ^ 20 → nothing_word a ≡ moved_item to (nothing_word a)
unfolding nothing_word moved_item part
nothing_stays to a l = let x : ℕ = 13 * 2 ^ 28 + a.0 in let k : kind_of x ≡ 13 = omega arith in rw k

cut_stays : (to : ℕ → ℕ) (a : HalfwordAddress) → a.0 < 2 ^ 20 → cut_word a ≡ moved_item to (cut_word a)
unfolding cut_word moved_item part
cut_stays to a l = let x : ℕ = 14 * 2 ^ 28 + a.0 in let k : kind_of x ≡ 14 = omega arith in rw k

-- its address stays
low_bits : (e a : ℕ) → a < 2 ^ 20 → bits 19 0 (12 * 2 ^ 28 + e * 2 ^ 20 + a) ≡ a
unfolding part
low_bits e a h = omega arith

pub address_stays : (to : ℕ → ℕ) (w : ℕ) → bits 19 0 (moved_item to w) ≡ bits 19 0 w
unfolding moved_item
address_stays to w = cases (eqb (kind_of w) 12) (λ t. rw t (low_bits (to (bits 27 20 w)) (bits 19 0 w) (part_lt w 0 20))) (λ t. rw t)

-- ---- what stands at an address

module _ (es fs : List Entry) (s : Shuffled es fs) (few : length es ≤ 256) where
  abbrev none : Entry
  none = entry_number [] 0

  pub all_same_lem : (p : Entry → Bool) → all_of p fs ≡ all_of p es
  all_same_lem p =
      same
      (λ t. all_of_make none p es (λ i h. rw (s.each i h) at (all_of_at none p fs t (s.to i) (s.to_inside i h))))
      (λ t. all_of_make none p fs (λ i h.
      let e : p (entry_number fs (s.to (s.from i))) ≡ true = rw (s.each (s.from i) (s.from_inside i h)) (all_of_at none p es t (s.from i) (s.from_inside i h)) in
      rw (s.to_from i h) at e))

  -- a choice that is of the table
  abbrev Own : Choice → Type 0
  Own a = (e : ℕ) → a ≡ names e → e < length es

  own : (w : ℕ) → Own (select es w)
  own w e q = ((names_exactly es w e).0 q).entry

  same_moved : (a b : Choice) → Own a → Own b → same_choice (moved_choice s.to a) (moved_choice s.to b) ≡ same_choice a b
  unfolding same_choice selects is_nothing is_ambiguous
  same_moved (names d) (names e) h k = to_once es fs s few e d (k e refl) (h d refl)
  same_moved (names d) nothing h k = refl
  same_moved (names d) ambiguous h k = refl
  same_moved nothing (names e) h k = refl
  same_moved nothing nothing h k = refl
  same_moved nothing ambiguous h k = refl
  same_moved ambiguous (names e) h k = refl
  same_moved ambiguous nothing h k = refl
  same_moved ambiguous ambiguous h k = refl

  all_moved : (u : ℕ) → all_same fs u ≡ all_same es u
  unfolding all_same
  all_moved u =
      every_same _ _ (2 ^ 16)
      (λ l h. rw (select_shuffled es fs s (2 ^ 16 * u + l), select_shuffled es fs s (2 ^ 16 * u)) (same_moved _ _ (own (2 ^ 16 * u + l)) (own (2 ^ 16 * u))))

  module _ (a : HalfwordAddress) (near : a.0 < 2 ^ 20) (n : ℕ) where
    few_entry : (c : Choice) → Own c → (e : ℕ) → c ≡ names e → e < 256
    few_entry c h e q = omega (arith, h e q)

    by_word : (c : Choice) → Own c → (item_of (picked_by fs (moved_choice s.to c)) a n).word ≡ moved_item s.to (item_of (picked_by es c) a n).word
    unfolding picked_by item_of
    by_word (names e) h =
        rw (s.each e (h e refl))
        (cases (eqb (entry_number es e).size 16)
        (λ t. rw t (found_moved s.to e a (few_entry (names e) h e refl) near))
        (λ t. rw t (found_moved s.to e a (few_entry (names e) h e refl) near)))
    by_word nothing h = nothing_stays s.to a near
    by_word ambiguous h = nothing_stays s.to a near

    by_next : (c : Choice) → Own c → (item_of (picked_by fs (moved_choice s.to c)) a n).next ≡ (item_of (picked_by es c) a n).next
    unfolding picked_by item_of
    by_next (names e) h = rw (s.each e (h e refl)) (cases (eqb (entry_number es e).size 16) (λ t. rw t) (λ t. rw t))
    by_next nothing h = refl
    by_next ambiguous h = refl

    last_word : (c : Choice) → Own c → (item_of (last_by fs (moved_choice s.to c)) a n).word ≡ moved_item s.to (item_of (last_by es c) a n).word
    unfolding last_by item_of
    last_word (names e) h =
        rw (s.each e (h e refl))
        (cases (eqb (entry_number es e).size 16)
        (λ t. rw t (found_moved s.to e a (few_entry (names e) h e refl) near))
        (λ t. rw t (cut_stays s.to a near)))
    last_word nothing h = nothing_stays s.to a near
    last_word ambiguous h = cut_stays s.to a near

    last_next : (c : Choice) → Own c → (item_of (last_by fs (moved_choice s.to c)) a n).next ≡ (item_of (last_by es c) a n).next
    unfolding last_by item_of
    last_next (names e) h = rw (s.each e (h e refl)) (cases (eqb (entry_number es e).size 16) (λ t. rw t) (λ t. rw t))
    last_next nothing h = refl
    last_next ambiguous h = refl

  module _ (image : List ℕ) (a : HalfwordAddress) (near : a.0 < 2 ^ 20) where
    pub word_moved : (item_at fs image a).word ≡ moved_item s.to (item_at es image a).word
    unfolding item_at picked_at picked last_picked item_of
    word_moved =
        cases (ltb (a.0 + 1) (halfwords image))
        (λ t. rw (t, select_shuffled es fs s (word_at image a)) (by_word a near (halfwords image) (select es (word_at image a)) (own (word_at image a))))
        (λ t. rw (t, all_moved (halfword_at image a), select_shuffled es fs s (2 ^ 16 * halfword_at image a)) (cases (all_same es (halfword_at image a))
        (λ k. rw k (last_word a near (halfwords image) (select es (2 ^ 16 * halfword_at image a)) (own (2 ^ 16 * halfword_at image a))))
        (λ k. rw k (cut_stays s.to a near))))

    pub next_same : (item_at fs image a).next ≡ (item_at es image a).next
    unfolding item_at picked_at picked last_picked item_of
    next_same =
        cases (ltb (a.0 + 1) (halfwords image))
        (λ t. rw (t, select_shuffled es fs s (word_at image a)) (by_next a near (halfwords image) (select es (word_at image a)) (own (word_at image a))))
        (λ t. rw (t, all_moved (halfword_at image a), select_shuffled es fs s (2 ^ 16 * halfword_at image a)) (cases (all_same es (halfword_at image a))
        (λ k. rw k (last_next a near (halfwords image) (select es (2 ^ 16 * halfword_at image a)) (own (2 ^ 16 * halfword_at image a))))
        (λ k. rw k)))

  -- ---- all items
  module _ (image : List ℕ) (short : halfwords image ≤ 2 ^ 20) where
    from_moved : (left : ℕ) (a : HalfwordAddress) → items_from fs image left a ≡ map (moved_item s.to) (items_from es image left a)
    unfolding items_from
    from_moved zero a = refl
    from_moved (suc left) a =
        cases (ltb a.0 (halfwords image))
        (λ t.
        let near : a.0 < 2 ^ 20 = omega (arith, ltb-true a.0 (halfwords image) t) in
        rw t (ap₂ ◌∷◌ (word_moved image a near) (ap (items_from fs image left) (next_same image a near) ∙ from_moved left (item_at es image a).next)))
        (λ t. rw t)

    pub items_moved : items fs image ≡ map (moved_item s.to) (items es image)
    unfolding items
    items_moved = from_moved (halfwords image) _
