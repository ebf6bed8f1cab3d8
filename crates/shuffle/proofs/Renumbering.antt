-- A tree in any words whose leaves are renumbered: its nodes, what the checker says of it, and its walks. Assumes nothing.
use Prim.Native.Nat.{ℕ, zero, suc, ◌+◌, ◌^◌, ◌≤◌, ◌<◌}
use native.Mathlib.Omega.{arith}
use mathlib.Core.Path.{◌≡◌, refl, sym, ap, ◌∙◌}
use mathlib.Core.Bool.{Bool, true, false, cond}
use mathlib.Core.List.{List}
use mathlib.Core.Option.{map}
use lib.Dec.{eqb, ltb, leb}
use lib.ListN.{length, length-map, get_or-map}
use borrow.Author.Tests.{eqb-true, eqb-false, eq-eqb}
use Rattle.words.specs.Tests.{◌and◌}
use Rattle.words.specs.Words.{word, part, bit, bits}
use Rattle.words.specs.Outcome.{refused}
use Rattle.words.proofs.Logic.{cases, same}
use Rattle.table.specs.Table.{Entry, kind_of}
use Rattle.choice.specs.Rule.{Choice, names, nothing, ambiguous, moved_choice, selects}
use Rattle.choice.proofs.Judging.{judge_lt}
use Rattle.flat.specs.Nodes.{good, header_of, test_node, names_node, nothing_node, node_of}
use Rattle.std.specs.Prelude.{Option, Some, None}
use Rattle.flat.specs.declared.Node.{Node}
use Rattle.flat.specs.declared.Node.TheVariants.{Asks, Names, Nothing}
use Rattle.flat.proofs.Reading.{header-cases, header_nodes, header_number, node-cases, Says, node_says}
use Rattle.flat.specs.Walk.{Ending, arrives, breaks, after, path, ended, enters, walk_of, mask_or_zero}
use Rattle.cell.specs.Cell.{Cell, start, zero_side, one_side, live, sure}
use Rattle.tree.specs.Written.{leaf_word}
use Rattle.tree.proofs.Paths.{node_names}
use Rattle.checker.specs.Checker.{settled, is_step_two, check_from, check_below, accepts_by, accepts}
use Rattle.shuffle.specs.Shuffled.{Shuffled}
use Rattle.shuffle.specs.Moved.{moved_word, moved_words, NamesEntry, NamesOnly}
use Rattle.shuffle.proofs.Moving.{stays, damaged_stays, leaf_is}
use Rattle.shuffle.proofs.Shuffling.{judge_shuffled, as_many}

abbrev moved_node : (ℕ → ℕ) → Option Node → Option Node
moved_node to None = None
moved_node to (Some (Asks b k)) = Some (Asks b k)
moved_node to (Some (Names e)) = Some (Names (to e))
moved_node to (Some Nothing) = Some Nothing

-- a node that names an entry is of kind 9, has no spare bit, and names it in bits 7–0
names_leaf : (width n i x e : ℕ) → node_of width n i x ≡ Some (Names e) → (kind_of x ≡ 9) × (bits 27 8 x ≡ 0) × (bits 7 0 x ≡ e)
unfolding node_of test_node names_node nothing_node
names_leaf width n i x e h =
    cases (eqb (kind_of x) 8)
    (λ k. absurd (not_test (eqb (bits 22 16 x) 0 and ltb (bits 27 23 x) width and leb (i + 2) (bits 15 0 x) and leb (bits 15 0 x) n) (rw k at h)))
    (λ k. cases (eqb (kind_of x) 9)
    (λ t. cases (eqb (bits 27 8 x) 0)
    (λ s. let q : Some (Names (bits 7 0 x)) ≡ Some (Names e) = rw (k, t, s) at h in let z : bits 7 0 x ≡ e = cc in (eqb-true _ _ t, eqb-true _ _ s, z))
    (λ s. absurd (damaged (rw (k, t, s) at h))))
    (λ t. absurd (cases (eqb (kind_of x) 10) (λ m. not_nothing (eqb (bits 27 0 x) 0) (rw (k, t, m) at h)) (λ m. damaged (rw (k, t, m) at h)))))
  where
    not_test : (b : Bool) → cond b (Some (Asks (bits 27 23 x) (bits 15 0 x))) None ≡ Some (Names e) → ⊥
    not_test true q = let z : ◌≡◌ {A = ℕ} 0 1 = cc in omega arith
    not_test false q = let z : ◌≡◌ {A = ℕ} 0 1 = cc in omega arith

    not_nothing : (b : Bool) → cond b (Some Nothing) None ≡ Some (Names e) → ⊥
    not_nothing true q = let z : ◌≡◌ {A = ℕ} 0 1 = cc in omega arith
    not_nothing false q = let z : ◌≡◌ {A = ℕ} 0 1 = cc in omega arith

    damaged : None ≡ Some (Names e) → ⊥
    damaged q = let z : ◌≡◌ {A = ℕ} 0 1 = cc in omega arith

node_leaf : (width n i x : ℕ) → kind_of x ≡ 9 → bits 27 8 x ≡ 0 → node_of width n i x ≡ Some (Names (bits 7 0 x))
unfolding node_of names_node
node_leaf width n i x k s = rw (k, s)

-- a word of kind 9 is no header
leaf_kind : (e : ℕ) → e < 256 → kind_of (leaf_word (names e)) ≡ 9
unfolding leaf_word part
leaf_kind e h = omega arith

bad_header : (x words : ℕ) → kind_of x ≡ 9 → header_of x words ≡ None
unfolding header_of ◌and◌
bad_header x words k = rw k

not_named : (to : ℕ → ℕ) (y : Option Node) → ((e : ℕ) → y ≡ Some (Names e) → ⊥) → moved_node to y ≡ y
not_named to None h = refl
not_named to (Some (Asks b k)) h = refl
not_named to (Some (Names e)) h = absurd (h e refl)
not_named to (Some Nothing) h = refl

-- how a path ends, its entry moved
abbrev moved_ending : (ℕ → ℕ) → Ending → Ending
moved_ending to (arrives e bs) = arrives (map to e) bs
moved_ending to (breaks number place) = breaks number place

after_moved : (to : ℕ → ℕ) (b : ℕ) (p : Ending) → after b (moved_ending to p) ≡ moved_ending to (after b p)
after_moved to b (arrives e bs) = refl
after_moved to b (breaks number place) = refl

module _ (es fs : List Entry) (s : Shuffled es fs) (few : length es ≤ 256) where
  to_few : (e : ℕ) → e < length es → s.to e < 256
  to_few e h = omega (arith, s.to_inside e h, as_many es fs s)

  -- entries of the table are told apart by their new numbers
  pub to_once : (d e : ℕ) → d < length es → e < length es → eqb (s.to d) (s.to e) ≡ eqb d e
  to_once d e h k =
      same
      (λ t. eq-eqb d e (sym (s.from_to d h) ∙ ap s.from (eqb-true _ _ t) ∙ s.from_to e k))
      (λ t. eq-eqb _ _ (ap s.to (eqb-true d e t)))

  -- ---- a node
  module _ (x : ℕ) (entry : NamesEntry es x) (width n i : ℕ) where
    node_moved : node_of width n i (moved_word s.to x) ≡ moved_node s.to (node_of width n i x)
    node_moved =
        cases (eqb (kind_of x) 9)
        (λ t. let k = eqb-true _ _ t in cases (eqb (bits 27 8 x) 0)
        (λ u. let z = eqb-true _ _ u in
        rw (leaf_is s.to x k z, node_leaf width n i x k z, node_names width n i (s.to (bits 7 0 x)) (to_few (bits 7 0 x) (entry k z))))
        (λ u. let d = eqb-false _ _ u in rw (damaged_stays s.to x d) (sym (not_named s.to _ (λ e q. d (names_leaf width n i x e q).1)))))
        (λ t. let d = eqb-false _ _ t in rw (stays s.to x d) (sym (not_named s.to _ (λ e q. d (names_leaf width n i x e q).0))))

    named_lt : (e : ℕ) → node_of width n i x ≡ Some (Names e) → e < length es
    named_lt e d = let (k, z, q) = names_leaf width n i x e d in rw q at (entry k z)

  -- ---- a choice
  selects_moved : (a : Choice) (e : ℕ) → ((j : ℕ) → a ≡ names j → j < length es) → e < length es → selects (moved_choice s.to a) (s.to e) ≡ selects a e
  unfolding selects
  selects_moved (names j) e l h = to_once j e (l j refl) h
  selects_moved nothing e l h = refl
  selects_moved ambiguous e l h = refl

  nothing_moved : (a : Choice) → is_step_two (moved_choice s.to a) ≡ is_step_two a
  unfolding is_step_two
  nothing_moved (names j) = refl
  nothing_moved nothing = refl
  nothing_moved ambiguous = refl

  -- ---- the tree
  module _ (words : List ℕ) (width n : ℕ) (only : (i : ℕ) → i ≤ n → NamesEntry es (word words i)) where
    abbrev renamed : List ℕ
    renamed = moved_words s.to words

    word_at : (i : ℕ) → word renamed i ≡ moved_word s.to (word words i)
    unfolding moved_word part ◌and◌
    word_at i = get_or-map (moved_word s.to) words i 0

    node_at : (i : ℕ) → i ≤ n → node_of width n i (word renamed i) ≡ moved_node s.to (node_of width n i (word words i))
    node_at i l = ap (node_of width n i) (word_at i) ∙ node_moved (word words i) (only i l) width n i

    settles : (c : Cell) (j : ℕ) → settled es c ≡ names j → j < length es
    settles c j q = judge_lt es (sure c) (live c) j q

    check_renamed : (fuel : ℕ) (c : Cell) (i : ℕ) → i ≤ n → check_from fuel fs renamed width n c i ≡ check_from fuel es words width n c i
    unfolding check_from Says
    check_renamed zero c i l =
        rw (node_at i l, judge_shuffled es fs s c)
        (node-cases (node_of width n i (word words i))
        (λ d. rw d)
        (λ b k d. rw d)
        (λ e d. rw (d, selects_moved (settled es c) e (settles c) (named_lt (word words i) (only i l) width n i e d)))
        (λ d. rw (d, nothing_moved (settled es c))))
    check_renamed (suc fuel) c i l =
        rw (node_at i l, judge_shuffled es fs s c)
        (node-cases (node_of width n i (word words i))
        (λ d. rw d)
        (λ b k d.
        let t : Says width n i (Some (Asks b k)) = rw d at (node_says width n i (word words i)) in
        rw (d, check_renamed fuel (zero_side c b) (i + 1) (omega (arith, t.2, t.3)), check_renamed fuel (one_side c b) k t.3))
        (λ e d. rw (d, selects_moved (settled es c) e (settles c) (named_lt (word words i) (only i l) width n i e d)))
        (λ d. rw (d, nothing_moved (settled es c))))

    -- ---- a path

    path_renamed : (fuel w i : ℕ) → i ≤ n → path fuel renamed width n w i ≡ moved_ending s.to (path fuel words width n w i)
    unfolding path Says
    path_renamed zero w i l = refl
    path_renamed (suc fuel) w i l =
        rw (node_at i l)
        (node-cases (node_of width n i (word words i))
        (λ d. rw d)
        (λ b k d.
        let t : Says width n i (Some (Asks b k)) = rw d at (node_says width n i (word words i)) in
        let on : cond (bit w b) k (i + 1) ≤ n = cases (bit w b) (λ q. rw q t.3) (λ q. rw q (omega (arith, t.2, t.3))) in
        rw d (ap (after b) (path_renamed fuel w (cond (bit w b) k (i + 1)) on) ∙ after_moved s.to b (path fuel words width n w (cond (bit w b) k (i + 1)))))
        (λ e d. rw d)
        (λ d. rw d))

  -- ---- the whole

  module _ (words : List ℕ) (only : NamesOnly es words) where
    header_renamed : header_of (word (moved_words s.to words) 0) (length (moved_words s.to words)) ≡ header_of (word words 0) (length words)
    header_renamed =
        rw (word_at words 0 0 (λ i h. only i (omega arith)) 0, length-map words (moved_word s.to))
        (cases (eqb (kind_of (word words 0)) 9)
        (λ t. let k = eqb-true _ _ t in cases (eqb (bits 27 8 (word words 0)) 0)
        (λ u. let z = eqb-true _ _ u in
        let few-to = to_few (bits 7 0 (word words 0)) (only 0 (omega arith) k z) in
        bad_header (moved_word s.to (word words 0)) (length words) (rw (leaf_is s.to (word words 0) k z) (leaf_kind (s.to (bits 7 0 (word words 0))) few-to))
        ∙ sym (bad_header (word words 0) (length words) k))
        (λ u. rw (damaged_stays s.to (word words 0) (eqb-false _ _ u))))
        (λ t. rw (stays s.to (word words 0) (eqb-false _ _ t))))

    nodes_only : (v n : ℕ) → header_of (word words 0) (length words) ≡ good v n → (i : ℕ) → i ≤ n → NamesEntry es (word words i)
    nodes_only v n d i h = only i (omega (arith, header_number (word words 0) (length words) v n d))

    pub accepts_renamed : (width : ℕ) → accepts fs width (moved_words s.to words) ≡ accepts es width words
    unfolding accepts accepts_by check_below
    accepts_renamed width =
        rw header_renamed
        (header-cases (header_of (word words 0) (length words))
        (λ d. rw d)
        (λ v n d. rw (d, check_renamed words width n (nodes_only v n d) _ start 1 (header_nodes (word words 0) (length words) v n d))))

    pub mask_renamed : (w : ℕ) → mask_or_zero (walk_of (moved_words s.to words) w) ≡ mask_or_zero (walk_of words w)
    unfolding walk_of enters
    mask_renamed w =
        rw header_renamed
        (header-cases (header_of (word words 0) (length words))
        (λ d. rw d)
        (λ v n d. rw (d, path_renamed words v n (nodes_only v n d) n w 1 (header_nodes (word words 0) (length words) v n d)) (masks (ltb w (2 ^ v)) (path n words v n w 1))))
      where
        masks : (b : Bool) (p : Ending) → mask_or_zero (cond b (ended (moved_ending s.to p)) (refused 7 0 0)) ≡ mask_or_zero (cond b (ended p) (refused 7 0 0))
        masks true (arrives e bs) = refl
        masks true (breaks number place) = refl
        masks false p = refl
