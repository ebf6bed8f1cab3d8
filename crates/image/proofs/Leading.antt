-- Laws of items: each leads on, and what they are from an address on. Assumes nothing.
use mathlib.Core.Path.{◌≡◌, refl, ap, ◌∙◌}
use mathlib.Core.List.{List, [], ◌∷◌}
use Prim.Native.Nat.{ℕ, zero, suc, ◌+◌, ◌-◌, ◌*◌, ◌%◌, ◌^◌, ◌≤◌, ◌<◌}
use native.Mathlib.Nat.{le_refl}
use native.Mathlib.Omega.{arith}
use borrow.Author.Tests.{lt-ltb, le-ltb, ltb-true}
use lib.Dec.{eqb, ltb}
use lib.ListN.{length, get_or-eq_default}
use Rattle.words.specs.Words.{part, bits}
use Rattle.words.proofs.Logic.{cases}
use Rattle.table.specs.Table.{Entry, entry_number}
use Rattle.choice.specs.Rule.{Choice, names, nothing, ambiguous}
use Rattle.selection.specs.Selection.{select}
use Rattle.image.specs.declared.HalfwordAddress.{HalfwordAddress}
use Rattle.image.specs.declared.Item.{Item}
use Rattle.image.specs.declared.Picked.{Picked}
use Rattle.image.specs.declared.Picked.TheVariants.{Short, Long, Nothing, Cut}
use Rattle.image.specs.Address.{halfword_at, word_at, halfwords}
use Rattle.image.specs.Items.{picked, all_same, last_by, last_picked, picked_at, found_word, nothing_word, cut_word, item_of, item_at, items_from, items}

-- ---- an item

-- an item leads on, and not past the end; its bits 19–0 are its address
pub record Leads (a : HalfwordAddress) (n : ℕ) (i : Item) : Type 0 where
  pub more : a.0 < i.next.0
  pub within : i.next.0 ≤ n
  pub place : a.0 < 2 ^ 20 → bits 19 0 i.word ≡ a.0

low_bits : (k a : ℕ) → a < 2 ^ 20 → bits 19 0 (k * 2 ^ 20 + a) ≡ a
unfolding part
low_bits k a h = omega arith

leads_of : (a : HalfwordAddress) (n k : ℕ) (i : Item) → a.0 < i.next.0 → i.next.0 ≤ n → i.word ≡ k * 2 ^ 20 + a.0 → Leads a n i
leads_of a n k i h l e = record { more = h; within = l; place = λ s. ap (bits 19 0) e ∙ low_bits k a.0 s }

-- where a 32-bit entry is said only of a full word
item_leads : (p : Picked) (a : HalfwordAddress) (n : ℕ) → a.0 < n → ((e : ℕ) → p ≡ Long e → a.0 + 2 ≤ n) → Leads a n (item_of p a n)
unfolding item_of nothing_word found_word cut_word
item_leads (Short e) a n h full = leads_of a n (12 * 2 ^ 8 + e) _ (omega arith) (omega arith) (omega arith)
item_leads (Long e) a n h full = leads_of a n (12 * 2 ^ 8 + e) _ (omega arith) (omega (arith, full e refl)) (omega arith)
item_leads Nothing a n h full = leads_of a n (13 * 2 ^ 8) _ (omega arith) (omega arith) (omega arith)
item_leads Cut a n h full = leads_of a n (14 * 2 ^ 8) _ (omega arith) (omega arith) (omega arith)

-- a missing lower half reads as zero: the word of the last halfword of an image that has whole ones
pub last_word : (image : List ℕ) (a : HalfwordAddress) → length image % 2 ≡ 0 → a.0 + 1 ≡ halfwords image → 2 ^ 16 * halfword_at image a + 0 ≡ word_at image a
unfolding word_at halfword_at
last_word image a even last =
    let low : length image ≤ 2 * (a.0 + 1) = omega arith in
    let high : length image ≤ 2 * (a.0 + 1) + 1 = omega arith in
    rw (get_or-eq_default image 0 low, get_or-eq_default image 0 high) refl

-- ---- what the image says: a 32-bit entry only where the word is full

by_not_long : (es : List Entry) (x : Choice) (e : ℕ) → last_by es x ≡ Long e → ⊥
unfolding last_by
by_not_long es (names i) e q =
    cases (eqb (entry_number es i).size 16)
    (λ t. let s : Short i ≡ Long e = rw t at q in let z : ◌≡◌ {A = ℕ} 0 1 = cc in omega arith)
    (λ t. let s : Cut ≡ Long e = rw t at q in let z : ◌≡◌ {A = ℕ} 0 1 = cc in omega arith)
by_not_long es nothing e q = let z : ◌≡◌ {A = ℕ} 0 1 = cc in omega arith
by_not_long es ambiguous e q = let z : ◌≡◌ {A = ℕ} 0 1 = cc in omega arith

last_not_long : (es : List Entry) (u e : ℕ) → last_picked es u ≡ Long e → ⊥
unfolding last_picked
last_not_long es u e q =
    cases (all_same es u)
    (λ t. by_not_long es (select es (2 ^ 16 * u)) e (rw t at q))
    (λ t. let s : Cut ≡ Long e = rw t at q in let z : ◌≡◌ {A = ℕ} 0 1 = cc in omega arith)

long_full : (es : List Entry) (image : List ℕ) (a : HalfwordAddress) (e : ℕ) → picked_at es image a ≡ Long e → a.0 + 2 ≤ halfwords image
unfolding picked_at
long_full es image a e q =
    cases (ltb (a.0 + 1) (halfwords image))
    (λ t. omega (arith, ltb-true (a.0 + 1) (halfwords image) t))
    (λ t. absurd (last_not_long es (halfword_at image a) e (rw t at q)))

-- ---- the item at an address, of a full word and of the last halfword

module _ (es : List Entry) (image : List ℕ) (a : HalfwordAddress) where
  pub item_full : a.0 + 1 < halfwords image → item_at es image a ≡ item_of (picked es (word_at image a)) a (halfwords image)
  unfolding item_at picked_at
  item_full h = rw (lt-ltb (a.0 + 1) (halfwords image) h)

  pub item_last : a.0 + 1 ≡ halfwords image → item_at es image a ≡ item_of (last_picked es (halfword_at image a)) a (halfwords image)
  unfolding item_at picked_at
  item_last h = rw (le-ltb (a.0 + 1) (halfwords image) (omega arith))

-- ---- the items from an address on

module _ (es : List Entry) (image : List ℕ) where
  pub leads : (a : HalfwordAddress) → a.0 < halfwords image → Leads a (halfwords image) (item_at es image a)
  unfolding item_at
  leads a h = item_leads (picked_at es image a) a (halfwords image) h (long_full es image a)

  -- as many steps as there are halfwords left are enough, and more change nothing
  fuel_same : (f g : ℕ) (a : HalfwordAddress) → halfwords image - a.0 ≤ f → halfwords image - a.0 ≤ g → items_from es image f a ≡ items_from es image g a
  unfolding items_from
  fuel_same zero zero a h k = refl
  fuel_same zero (suc g) a h k = rw (le-ltb a.0 (halfwords image) (omega arith)) refl
  fuel_same (suc f) zero a h k = rw (le-ltb a.0 (halfwords image) (omega arith)) refl
  fuel_same (suc f) (suc g) a h k =
      cases (ltb a.0 (halfwords image))
      (λ t.
      let l : a.0 < halfwords image = ltb-true a.0 (halfwords image) t in
      let m : a.0 < (item_at es image a).next.0 = (leads a l).more in
      rw t (ap (λ (r : List ℕ). (item_at es image a).word ∷ r) (fuel_same f g (item_at es image a).next (omega arith) (omega arith))))
      (λ t. rw t refl)

  abbrev pub on : HalfwordAddress → List ℕ
  on a = items_from es image (halfwords image - a.0) a

  pub on_end : (a : HalfwordAddress) → halfwords image ≤ a.0 → on a ≡ []
  unfolding items_from
  on_end a h = fuel_same (halfwords image - a.0) 0 a (le_refl _) (omega arith)

  from_item : (f : ℕ) (a : HalfwordAddress) → a.0 < halfwords image → items_from es image (suc f) a ≡ (item_at es image a).word ∷ items_from es image f (item_at es image a).next
  unfolding items_from
  from_item f a h = rw (lt-ltb a.0 (halfwords image) h) refl

  pub on_item : (a : HalfwordAddress) → a.0 < halfwords image → on a ≡ (item_at es image a).word ∷ on (item_at es image a).next
  on_item a h =
      let m : a.0 < (item_at es image a).next.0 = (leads a h).more in
      fuel_same (halfwords image - a.0) (suc (halfwords image - a.0)) a (omega arith) (omega arith)
      ∙ from_item (halfwords image - a.0) a h
      ∙ ap (λ (r : List ℕ). (item_at es image a).word ∷ r) (fuel_same (halfwords image - a.0) (halfwords image - (item_at es image a).next.0) (item_at es image a).next (omega arith) (le_refl _))

  pub items_on : items es image ≡ on (record { 0 = 0 })
  unfolding items
  items_on = ap (λ (f : ℕ). items_from es image f (record { 0 = 0 })) (omega arith)
