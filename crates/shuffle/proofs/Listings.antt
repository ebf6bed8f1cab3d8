-- The check, a listing, a step, cycles and the count of a withdrawal in two tables, the entries of the one in the other's order. Assumes nothing.
use Prim.Native.Nat.{ℕ, zero, suc, ◌^◌, ◌≤◌, ◌<◌}
use native.Mathlib.Omega.{arith}
use mathlib.Core.Path.{◌≡◌, refl, sym, ap, ap₂, ◌∙◌}
use mathlib.Core.Bool.{Bool, true, false, not, cond}
use mathlib.Core.List.{List, [], ◌∷◌, ◌++◌, map, append-nil}
use mathlib.Core.Option.{some}
use lib.Dec.{eqb, ltb, leb}
use lib.ListN.{length, take, drop, length-map, length-take, drop_of_length-le, get_or-map}
use lib.Seq.{take_at, drop_at, take_all}
use borrow.Author.Tests.{lt-ltb, leb-true, leb-false}
use Rattle.words.specs.Tests.{◌or◌, first}
use Rattle.words.specs.Words.{word, part, bits}
use Rattle.words.specs.Outcome.{result, refused}
use Rattle.words.proofs.Logic.{cases, and_r, options, how_many_same, first_same, first_none}
use Rattle.table.specs.Table.{Table}
use Rattle.choice.specs.Rule.{Choice, names, nothing, ambiguous, moved_choice, is_ambiguous}
use Rattle.selection.specs.Selection.{select}
use Rattle.checker.specs.Checker.{accepts, check_of}
use Rattle.cost.specs.Cost.{cycles_of}
use Rattle.withdrawal.specs.Counted.{unfit, unfit_at, counted_in, changed_of}
use Rattle.withdrawal.proofs.Counting.{fit_changes}
use Rattle.image.specs.declared.HalfwordAddress.{HalfwordAddress}
use Rattle.image.specs.Address.{word_at, halfwords}
use Rattle.image.specs.Items.{items}
use Rattle.image.specs.Listing.{image_size, image_table, image_good, refuse_unless, admitted, counted, filled_with, list_from, list_of, buffer_from, buffer_of, handed_on, step_from, step_of}
use Rattle.shuffle.specs.Shuffled.{Shuffled}
use Rattle.shuffle.specs.Moved.{moved_words, NamesOnly, moved_item, moved_items, items_left, moved_stepped}
use Rattle.shuffle.proofs.Shuffling.{select_shuffled, selects_shuffled}
use Rattle.shuffle.proofs.Renumbering.{accepts_renamed, mask_renamed}
use Rattle.shuffle.proofs.Items.{address_stays, all_same_lem, word_moved, next_same, items_moved}

-- ---- the items that are counted, and those that are written

module _ (to : ℕ → ℕ) (is : List ℕ) where
  counted_moved : (room : ℕ) → counted (map (moved_item to) is) room ≡ counted is room
  unfolding counted moved_item part
  counted_moved room =
      rw (length-map is (moved_item to)) (ap (λ (n : ℕ). cond (leb (length is) room) (result (length is)) (refused 17 n 0)) there)
    where
      there : bits 19 0 (word (map (moved_item to) is) room) ≡ bits 19 0 (word is room)
      there = ap (bits 19 0) (get_or-map (moved_item to) is room 0) ∙ address_stays to (word is room)

map_take : (f : ℕ → ℕ) (n : ℕ) (l : List ℕ) → take n (map f l) ≡ map f (take n l)
map_take f zero l = refl
map_take f (suc n) [] = refl
map_take f (suc n) (x ∷ l) = ap (λ (r : List ℕ). f x ∷ r) (map_take f n l)

module _ (to : ℕ → ℕ) (is out : List ℕ) where
  filled_moved : filled_with (map (moved_item to) is) out ≡ moved_items to (items_left (counted is (length out)) (length out)) (filled_with is out)
  unfolding filled_with counted
  filled_moved =
      cases (leb (length is) (length out))
      (λ t. rw (length-map is (moved_item to), t) (sym (ap₂ (λ (a b : List ℕ). map (moved_item to) a ++ b) (take_at is (drop (length is) out) (length is) refl) (drop_at is (drop (length is) out) (length is) refl))))
      (λ t.
      let over = leb-false (length is) (length out) t in
      let full : length (take (length out) is) ≡ length out = simp length-take (omega arith) in
      rw (length-map is (moved_item to), t)
      (map_take (moved_item to) (length out) is
      ∙ sym (append-nil _)
      ∙ sym (ap₂ (λ (a b : List ℕ). map (moved_item to) a ++ b) (take_all (length out) (take (length out) is) (omega arith)) (drop_of_length-le (take (length out) is) {i = length out} (omega arith)))))

-- ---- the calls, on two tables that read

module _ (t u : Table) (wide : u.width ≡ t.width) (s : Shuffled t.entries u.entries) (few : length t.entries ≤ 256) where
  module _ (tree : List ℕ) (only : NamesOnly t.entries tree) where
    abbrev renamed : List ℕ
    renamed = moved_words s.to tree

    pub check_shuffled : check_of (result u) renamed ≡ check_of (result t) tree
    unfolding check_of
    check_shuffled = rw (wide, accepts_renamed t.entries u.entries s few tree only t.width)

    module _ (image : List ℕ) where
      table_same : image_table u ≡ image_table t
      unfolding image_table
      table_same = rw (wide, all_same_lem t.entries u.entries s few image_size)

      -- admitted both, or refused alike
      admits : {G : Type 0} → (image_good image ≡ true → admitted (result t) tree image ≡ result t.entries → admitted (result u) renamed image ≡ result u.entries → G)
          → ((n : ℕ) → eqb n 17 ≡ false → admitted (result t) tree image ≡ refused n 0 0 → admitted (result u) renamed image ≡ refused n 0 0 → G) → G
      unfolding admitted refuse_unless
      admits f g =
          let same-tree : accepts u.entries u.width renamed ≡ accepts t.entries t.width tree
          = ap (λ (x : ℕ). accepts u.entries x renamed) wide ∙ accepts_renamed t.entries u.entries s few tree only t.width in
          cases (image_table t)
          (λ a. cases (image_good image)
          (λ b. cases (accepts t.entries t.width tree)
          (λ c. f b (rw (a, b, c)) (rw (table_same, a, b, same-tree, c)))
          (λ c. g 14 refl (rw (a, b, c)) (rw (table_same, a, b, same-tree, c))))
          (λ b. g 16 refl (rw (a, b)) (rw (table_same, a, b))))
          (λ a. g 15 refl (rw a) (rw (table_same, a)))

      short : image_good image ≡ true → halfwords image ≤ 2 ^ 20
      unfolding image_good
      short b = let h = leb-true (length image) 2097152 (and_r _ b) in omega arith

      pub list_shuffled : (room : ℕ) → list_of (result u) renamed image room ≡ list_of (result t) tree image room
      unfolding list_of list_from
      list_shuffled room =
          admits
          (λ b p q. rw (p, q, items_moved t.entries u.entries s few image (short b)) (counted_moved s.to (items t.entries image) room))
          (λ n d p q. rw (p, q))

      pub buffer_shuffled : (out : List ℕ)
          → buffer_of (result u) renamed image out ≡ moved_items s.to (items_left (list_of (result t) tree image (length out)) (length out)) (buffer_of (result t) tree image out)
      unfolding list_of list_from buffer_of buffer_from
      buffer_shuffled out =
          admits
          (λ b p q. rw (p, q, items_moved t.entries u.entries s few image (short b)) (filled_moved s.to (items t.entries image) out))
          (λ n d p q. rw (p, q, d))

      pub step_shuffled : (a : HalfwordAddress) → step_of (result u) renamed image a ≡ moved_stepped s.to (step_of (result t) tree image a)
      unfolding step_of step_from handed_on
      step_shuffled a =
          admits
          (λ b p q. rw (p, q) (cases (leb (halfwords image) a.0)
          (λ k. rw k)
          (λ k.
          let near : a.0 < 2 ^ 20 = omega (arith, short b, leb-false (halfwords image) a.0 k) in
          let x = word_moved t.entries u.entries s few image a near in
          let y = next_same t.entries u.entries s few image a near in
          let z = mask_renamed t.entries u.entries s few tree only (word_at image a) in
          rw k (λ i. result (some (record { item = record { word = x i; next = y i }; mask = z i }))))))
          (λ n d p q. rw (p, q))

  -- ---- cycles, and the count of a withdrawal

  module _ (e : ℕ) (h : e < length t.entries) where
    pub cycles_shuffled : cycles_of (result u) (s.to e) ≡ cycles_of (result t) e
    unfolding cycles_of
    cycles_shuffled = rw (lt-ltb _ _ h, lt-ltb _ _ (s.to_inside e h), s.each e h)

    unfit_same : (w : ℕ) → unfit u w ≡ unfit t w
    unfolding unfit is_ambiguous
    unfit_same w = rw (wide, select_shuffled t.entries u.entries s w) (ap (λ (b : Bool). not (ltb w (2 ^ t.width)) or b) (same_ambiguity (select t.entries w)))
      where
        same_ambiguity : (a : Choice) → is_ambiguous (moved_choice s.to a) ≡ is_ambiguous a
        same_ambiguity (names i) = refl
        same_ambiguity nothing = refl
        same_ambiguity ambiguous = refl

    pub count_shuffled : (list : List ℕ) → changed_of (result u) (s.to e) list ≡ changed_of (result t) e list
    unfolding changed_of counted_in unfit_at
    count_shuffled list =
        rw (lt-ltb _ _ h, lt-ltb _ _ (s.to_inside e h), first_same (λ i. unfit u (word list i)) (λ i. unfit t (word list i)) (length list) (λ i l. unfit_same (word list i)))
        (options (first (λ i. unfit t (word list i)) (length list))
        (λ q. rw q (ap result (how_many_same _ _ (length list) (λ i l.
        let fit : unfit t (word list i) ≡ false = first_none (λ i. unfit t (word list i)) (length list) q i l in
        fit_changes u (s.to e) (s.to_inside e h) (word list i) (unfit_same (word list i) ∙ fit)
        ∙ selects_shuffled t.entries u.entries s (word list i) e h
        ∙ sym (fit_changes t e h (word list i) fit)))))
        (λ i q. rw (q, wide)))
