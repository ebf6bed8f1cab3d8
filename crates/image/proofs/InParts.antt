-- An image that is listed in parts, as docs/TABLES.md says of 16, over the definition that `image::list` cites. Assumes nothing.
--     in_parts     every item of a part but the last is the whole image's, and from that one's address on the rest is listed by itself
use mathlib.Core.Path.{◌≡◌, refl, sym, ap, ◌∙◌}
use mathlib.Core.List.{List, [], ◌∷◌, ◌++◌, map}
use Prim.Native.Nat.{ℕ, zero, suc, ◌+◌, ◌*◌, ◌^◌, ◌≤◌, ◌<◌}
use native.Mathlib.Omega.{arith}
use borrow.Author.Tests.{lt-ltb, le-ltb, ltb-true, ltb-false}
use lib.Dec.{eqb, ltb}
use lib.ListN.{length, drop, length-append, length-drop, get_or-append}
use lib.Seq.{get_or-drop}
use Rattle.words.specs.Words.{bits}
use Rattle.words.proofs.Logic.{cases}
use Rattle.table.specs.Table.{Entry, entry_number}
use Rattle.choice.specs.Rule.{Choice, names, nothing, ambiguous}
use Rattle.selection.specs.Selection.{select}
use Rattle.image.specs.declared.HalfwordAddress.{HalfwordAddress}
use Rattle.image.specs.declared.Item.{Item}
use Rattle.image.specs.declared.Picked.{Picked}
use Rattle.image.specs.declared.Picked.TheVariants.{Short, Long, Nothing, Cut}
use Rattle.image.specs.Address.{after, halfword_at, word_at, halfwords}
use Rattle.image.specs.Items.{picked_by, picked, picked_at, found_word, nothing_word, cut_word, item_of, item_at, items}
use Rattle.image.proofs.Leading.{leads, item_full, on, on_end, on_item, items_on}

-- ---- a full word of a part is the whole image's

module _ (es : List Entry) (part rest : List ℕ) where
  abbrev whole : List ℕ
  whole = part ++ rest

  abbrev longer : length whole ≡ length part + length rest
  longer = length-append part rest

  half_same : (a : HalfwordAddress) → a.0 < halfwords part → halfword_at whole a ≡ halfword_at part a
  unfolding halfword_at
  half_same a h = rw (get_or-append part rest 0 (2 * a.0) (omega arith), get_or-append part rest 0 (2 * a.0 + 1) (omega arith)) refl

  word_same : (a : HalfwordAddress) → a.0 + 1 < halfwords part → word_at whole a ≡ word_at part a
  unfolding word_at
  word_same a h = rw (half_same a (omega arith), half_same (after a 1) h) refl

  -- where the image ends matters for what is cut alone
  end_free : (c : Choice) (a : HalfwordAddress) (m n : ℕ) → item_of (picked_by es c) a m ≡ item_of (picked_by es c) a n
  unfolding picked_by item_of
  end_free (names e) a m n = cases (eqb (entry_number es e).size 16) (λ t. rw t refl) (λ t. rw t refl)
  end_free nothing a m n = refl
  end_free ambiguous a m n = refl

  item_same : (a : HalfwordAddress) → a.0 + 1 < halfwords part → item_at es whole a ≡ item_at es part a
  unfolding picked
  item_same a h =
      item_full es whole a (omega (arith, longer))
      ∙ ap (λ (w : ℕ). item_of (picked es w) a (halfwords whole)) (word_same a h)
      ∙ end_free (select es (word_at part a)) a (halfwords whole) (halfwords part)
      ∙ sym (item_full es part a h)

  -- ---- all items of the part but the last, from an address on

  record Sure (sure : List ℕ) (last : ℕ) (a : HalfwordAddress) : Type 0 where
    pub at : HalfwordAddress
    pub within : at.0 < halfwords part
    pub item : last ≡ (item_at es part at).word
    pub goes : on es whole a ≡ sure ++ on es whole at

  some_left : (sure : List ℕ) (last : ℕ) (a : HalfwordAddress) → on es part a ≡ sure ++ (last ∷ []) → a.0 < halfwords part
  some_left sure last a e =
      cases (ltb a.0 (halfwords part))
      (ltb-true a.0 (halfwords part))
      (λ t.
      let none : length (sure ++ (last ∷ [])) ≡ 0 = ap length (sym e ∙ on_end es part a (ltb-false a.0 (halfwords part) t)) in
      absurd (omega (arith, none, length-append sure (last ∷ []))))

  sure_on : (sure : List ℕ) (last : ℕ) (a : HalfwordAddress) → on es part a ≡ sure ++ (last ∷ []) → Sure sure last a
  sure_on [] last a e =
      let h : a.0 < halfwords part = some_left [] last a e in
      let q : (item_at es part a).word ∷ on es part (item_at es part a).next ≡ last ∷ [] = sym (on_item es part a h) ∙ e in
      record { at = a; within = h; item = cc; goes = refl }
  sure_on (x ∷ sure) last a e =
      let h : a.0 < halfwords part = some_left (x ∷ sure) last a e in
      let i : Item = item_at es part a in
      let q : i.word ∷ on es part i.next ≡ x ∷ (sure ++ (last ∷ [])) = sym (on_item es part a h) ∙ e in
      let w : i.word ≡ x = cc in
      let n : on es part i.next ≡ sure ++ (last ∷ []) = cc in
      let more : i.next.0 < halfwords part = some_left sure last i.next n in
      let m : a.0 < i.next.0 = (leads es part a h).more in
      let r : Sure sure last i.next = sure_on sure last i.next n in
      record {
        at = r.at;
        within = r.within;
        item = r.item;
        goes = on_item es whole a (omega (arith, longer))
            ∙ ap (λ (j : Item). j.word ∷ on es whole j.next) (item_same a (omega arith))
            ∙ ap (λ (y : ℕ). y ∷ on es whole i.next) w
            ∙ ap (λ (ys : List ℕ). x ∷ ys) r.goes;
      }

-- ---- from an address on, the image is listed as what is left of it by itself

module _ (es : List Entry) (image : List ℕ) (b : ℕ) (inside : b ≤ halfwords image) where
  abbrev left : List ℕ
  left = drop (2 * b) image

  left_halves : halfwords left + b ≡ halfwords image
  left_halves = omega (arith, length-drop (2 * b) image)

  half_moved : (a : HalfwordAddress) → halfword_at left a ≡ halfword_at image (after a b)
  unfolding halfword_at
  half_moved a =
      let low : 2 * b + 2 * a.0 ≡ 2 * (a.0 + b) = omega arith in
      let high : 2 * b + (2 * a.0 + 1) ≡ 2 * (a.0 + b) + 1 = omega arith in
      rw (get_or-drop (2 * b) image (2 * a.0) 0, get_or-drop (2 * b) image (2 * a.0 + 1) 0, low, high) refl

  picked_moved : (a : HalfwordAddress) → picked_at es image (after a b) ≡ picked_at es left a
  unfolding picked_at word_at
  picked_moved a =
      cases (ltb (a.0 + 1) (halfwords left))
      (λ t.
      let l : a.0 + 1 < halfwords left = ltb-true (a.0 + 1) (halfwords left) t in
      rw (t, lt-ltb (a.0 + b + 1) (halfwords image) (omega (arith, left_halves)), half_moved a, half_moved (after a 1))
      (ap (λ (n : ℕ). picked es (2 ^ 16 * halfword_at image (after a b) + halfword_at image (record { 0 = n }))) (omega arith)))
      (λ t.
      let l : halfwords left ≤ a.0 + 1 = ltb-false (a.0 + 1) (halfwords left) t in
      rw (t, le-ltb (a.0 + b + 1) (halfwords image) (omega (arith, left_halves)), half_moved a) refl)

  record Moved (i j : Item) : Type 0 where
    pub word : i.word ≡ j.word + b
    pub next : i.next.0 ≡ j.next.0 + b

  of_moved : (p : Picked) (a : HalfwordAddress) (n : ℕ) → Moved (item_of p (after a b) (n + b)) (item_of p a n)
  unfolding item_of found_word nothing_word cut_word
  of_moved (Short e) a n = record { word = omega arith; next = omega arith }
  of_moved (Long e) a n = record { word = omega arith; next = omega arith }
  of_moved Nothing a n = record { word = omega arith; next = omega arith }
  of_moved Cut a n = record { word = omega arith; next = refl }

  item_moved : (a : HalfwordAddress) → Moved (item_at es image (after a b)) (item_at es left a)
  unfolding item_at
  item_moved a = rw (picked_moved a, sym left_halves) (of_moved (picked_at es left a) a (halfwords left))

  on_moved : (f : ℕ) (a : HalfwordAddress) → halfwords left ≤ a.0 + f → on es image (after a b) ≡ map (λ (w : ℕ). w + b) (on es left a)
  on_moved zero a h = on_end es image (after a b) (omega (arith, left_halves)) ∙ ap (map (λ (w : ℕ). w + b)) (sym (on_end es left a (omega arith)))
  on_moved (suc f) a h =
      cases (ltb a.0 (halfwords left))
      (λ t.
      let l : a.0 < halfwords left = ltb-true a.0 (halfwords left) t in
      let m : Moved (item_at es image (after a b)) (item_at es left a) = item_moved a in
      let more : a.0 < (item_at es left a).next.0 = (leads es left a l).more in
      on_item es image (after a b) (omega (arith, left_halves))
      ∙ ap (λ (w : ℕ). w ∷ on es image (item_at es image (after a b)).next) m.word
      ∙ ap (λ (n : ℕ). ((item_at es left a).word + b) ∷ on es image (record { 0 = n })) m.next
      ∙ ap (λ (ys : List ℕ). ((item_at es left a).word + b) ∷ ys) (on_moved f (item_at es left a).next (omega arith))
      ∙ ap (map (λ (w : ℕ). w + b)) (sym (on_item es left a l)))
      (λ t.
      let l : halfwords left ≤ a.0 = ltb-false a.0 (halfwords left) t in
      on_end es image (after a b) (omega (arith, left_halves)) ∙ ap (map (λ (w : ℕ). w + b)) (sym (on_end es left a l)))

  left_items : on es image (record { 0 = b }) ≡ map (λ (w : ℕ). w + b) (items es left)
  left_items =
      ap (λ (n : ℕ). on es image (record { 0 = n })) (omega arith)
      ∙ on_moved (halfwords left) (record { 0 = 0 }) (omega arith)
      ∙ ap (map (λ (w : ℕ). w + b)) (sym (items_on es left))

-- ---- "Of each part but the final one drop the last item .. and begin the next part at that item's address": the items of the whole image are
-- those of the part but the last, then those of the image from that one's address on, listed by itself, with this address added

pub in_parts : (es : List Entry) (part rest : List ℕ) → halfwords part ≤ 2 ^ 20 → (sure : List ℕ) (last : ℕ) → items es part ≡ sure ++ (last ∷ [])
    → items es (part ++ rest) ≡ sure ++ map (λ (w : ℕ). w + bits 19 0 last) (items es (drop (2 * bits 19 0 last) (part ++ rest)))
in_parts es part rest short sure last e =
    let image : List ℕ = part ++ rest in
    let r : Sure es part rest sure last (record { 0 = 0 }) = sure_on es part rest sure last (record { 0 = 0 }) (sym (items_on es part) ∙ e) in
    let address : bits 19 0 last ≡ r.at.0 = ap (bits 19 0) r.item ∙ (leads es part r.at r.within).place (omega (arith, r.within)) in
    items_on es image
    ∙ r.goes
    ∙ ap (λ (ys : List ℕ). sure ++ ys) (left_items es image r.at.0 (omega (arith, r.within, length-append part rest)))
    ∙ ap (λ (b : ℕ). sure ++ map (λ (w : ℕ). w + b) (items es (drop (2 * b) image))) (sym address)
