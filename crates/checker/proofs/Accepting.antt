-- What the checker accepts is right, and every generated tree is accepted. Assumes nothing.
--     Agrees     a tree that is right in a cell, by the rule's parts on leaves and tested bits
--     Stands     a tree that the words hold from an index on
--     sound_from, complete     the rule says yes exactly where such a tree stands
--     accepted_right     an accepted tree walks every word of the width to what it selects
--     generated_accepted     every tree that generating writes is accepted, whatever words follow it
--     unreached_accepted     and the tree of a table that is refused with 19
use Prim.Native.Nat.{ℕ, zero, suc, ◌+◌, ◌^◌, ◌≤◌, ◌<◌, zero-le, suc-le-suc}
use native.Mathlib.Nat.{le_refl, le_trans, le_of_eq}
use native.Mathlib.Omega.{arith}
use mathlib.Core.Path.{◌≡◌, refl, sym, ap, ◌∙◌, subst}
use mathlib.Core.Bool.{Bool, true, false, not, false≢true}
use mathlib.Core.List.{List, [], ◌∷◌, ◌++◌, append_assoc}
use mathlib.Core.Option as maybe
use mathlib.Core.Option.{none, some, or_else}
use lib.Bits.{and_zero_r}
use lib.Dec.{eqb}
use lib.ListN.{length, length-append, take}
use lib.Seq.{get_or_at}
use borrow.Author.Tests.{eq-eqb, eqb-true, leb-true, lt-ltb}
use Rattle.words.specs.Tests.{◌and◌}
use Rattle.words.specs.Words.{word, bit}
use Rattle.words.proofs.Logic.{cases, and_i, and_l, and_r, not_t, how_many_le}
use Rattle.table.specs.Lawful.{good_table}
use Rattle.table.specs.Table.{Entry, Table}
use Rattle.table.specs.Check.{read_table}
use Rattle.words.specs.Outcome.{result, refused}
use Rattle.words.proofs.Outcomes.{not_refused}
use Rattle.choice.specs.Rule.{Choice, names, nothing, ambiguous, selects, judge}
use Rattle.selection.specs.Selection.{claims, select}
use Rattle.choice.proofs.Judging.{answers, selects_names, names_selects, judge_names, judge_nothing}
use Rattle.flat.specs.Nodes.{good, header_of, node_of}
use Rattle.flat.specs.declared.Node.{Node}
use Rattle.flat.specs.declared.Node.TheVariants.{Asks, Names, Nothing}
use Rattle.cell.specs.Cell.{Cell, start, zero_side, one_side, live, sure}
use Rattle.cell.specs.Step.{free}
use Rattle.tree.specs.Tree.{Tree, leaf, test, below, tree, size, answer, asked, conflict, if_conflict, named}
use Rattle.tree.specs.Written.{test_word, leaf_word, header_word, nodes, written}
use Rattle.std.specs.Prelude.{Option, Some, None}
use Rattle.flat.proofs.Reading.{header-cases, node-cases, Says, node_says}
use Rattle.flat.specs.Walk.{arrives, after, path, enters, walk_of}
use Rattle.checker.specs.Checker.{settled, is_step_two, provided, meeting, check_from, check_below, ends_at, accepts_by, accepts, check_of}
use Rattle.tree.specs.Generate.{fits, generate_of, buffer_of}
use Rattle.cell.proofs.Cells.{In, step_end, sure_claims, claims_live, in_zero, in_one, free_less}
use Rattle.tree.proofs.Theorem.{Fresh, fresh_none, fresh_more, induct}
use Rattle.tree.proofs.Sizes.{length_nodes, size_pos}
use Rattle.tree.proofs.Demand.{Right, right_walks, read_sane, judgement, nineteen_judged, buffer_is, words_are}
use Rattle.tree.proofs.Paths.{Sound, sound_tree, node_test, node_names, node_nothing, header_good}

-- ---- a tree that is right in a cell

unfoldable pub Agrees : List Entry → Cell → Tree → Type 0
Agrees es c (leaf a) = (a ≡ settled es c) × (a ≡ ambiguous → ⊥)
Agrees es c (test i l r) = (bit c.fixed i ≡ false) × Agrees es (zero_side c i) l × Agrees es (one_side c i) r

module _ (es : List Entry) where
  -- it answers every word of the cell as it is selected
  pub agrees_right : (t : Tree) (c : Cell) → Agrees es c t → (w : ℕ) → In c w → answer t w ≡ select es w
  unfolding Agrees answer select
  agrees_right (leaf a) c g w h =
      g.0
      ∙ answers (judge es (sure c) (live c))
      (λ i k. k ∙ sym (judge_names es (sure c) (live c) (claims w) (sure_claims c w h) (claims_live c w h) i k))
      (λ k. k ∙ sym (judge_nothing es (sure c) (live c) (claims w) (sure_claims c w h) (claims_live c w h) k))
      (λ k. absurd (g.1 (g.0 ∙ k)))
  agrees_right (test i l r) c g w h =
      cases (bit w i) (λ t. rw t (agrees_right r (one_side c i) g.2 w (in_one c i w h t))) (λ t. rw t (agrees_right l (zero_side c i) g.1 w (in_zero c i w h t)))

  -- no leaf of it is a conflict
  pub agrees_clear : (t : Tree) (c : Cell) → Agrees es c t → (w : ℕ) → answer t w ≡ ambiguous → ⊥
  unfolding Agrees answer
  agrees_clear (leaf a) c g w e = g.1 e
  agrees_clear (test i l r) c g w e =
      cases (bit w i) (λ t. agrees_clear r (one_side c i) g.2 w (rw t at e)) (λ t. agrees_clear l (zero_side c i) g.1 w (rw t at e))

  -- a path tests no fixed bit, and none twice
  pub agrees_fresh : (width : ℕ) (t : Tree) (c : Cell) → Agrees es c t → Sound width t → (w : ℕ) → Fresh width c.fixed (asked t w)
  unfolding Agrees Sound asked
  agrees_fresh width (leaf a) c g s w = fresh_none width c.fixed
  agrees_fresh width (test i l r) c g s w =
      cases (bit w i)
      (λ t. rw t (fresh_more width c.fixed i _ s.0 g.0 (agrees_fresh width r (one_side c i) g.2 s.2 w)))
      (λ t. rw t (fresh_more width c.fixed i _ s.0 g.0 (agrees_fresh width l (zero_side c i) g.1 s.1 w)))

  -- and so at most the unfixed bits
  pub agrees_short : (width : ℕ) (t : Tree) (c : Cell) → Agrees es c t → Sound width t → (w : ℕ) → length (asked t w) ≤ free width c.fixed
  unfolding Agrees Sound asked
  agrees_short width (leaf a) c g s w = zero-le
  agrees_short width (test i l r) c g s w =
      let k = free_less c i width s.0 g.0 in
      cases (bit w i)
      (λ t. rw t (le_trans (suc-le-suc (agrees_short width r (one_side c i) g.2 s.2 w)) (le_of_eq k)))
      (λ t. rw t (le_trans (suc-le-suc (agrees_short width l (zero_side c i) g.1 s.1 w)) (le_of_eq k)))

-- ---- a tree that the words hold from index i on

module _ (ws : List ℕ) (width n : ℕ) where
  unfoldable pub Stands : ℕ → Tree → Type 0
  Stands i (leaf (names e)) = node_of width n i (word ws i) ≡ Some (Names e)
  Stands i (leaf nothing) = node_of width n i (word ws i) ≡ Some Nothing
  Stands i (leaf ambiguous) = ⊥
  Stands i (test b l r) = (node_of width n i (word ws i) ≡ Some (Asks b (i + 1 + size l))) × Stands (i + 1) l × Stands (i + 1 + size l) r

  -- the path of a word is the tree's own
  pub stands_path : (w : ℕ) (t : Tree) (fuel i : ℕ) → Stands i t → size t ≤ fuel → path fuel ws width n w i ≡ arrives (named (answer t w)) (asked t w)
  unfolding Stands size path answer asked
  stands_path w (leaf (names e)) zero i s k = absurd (omega arith)
  stands_path w (leaf nothing) zero i s k = absurd (omega arith)
  stands_path w (leaf ambiguous) fuel i s k = absurd s
  stands_path w (leaf (names e)) (suc fuel) i s k = rw s
  stands_path w (leaf nothing) (suc fuel) i s k = rw s
  stands_path w (test b l r) zero i s k = absurd (omega arith)
  stands_path w (test b l r) (suc fuel) i s k =
      rw s.0
      (cases (bit w b)
      (λ t. rw t (ap (after b) (stands_path w r fuel (i + 1 + size l) s.2 (omega arith))))
      (λ t. rw t (ap (after b) (stands_path w l fuel (i + 1) s.1 (omega arith)))))

-- ---- yes: such a tree stands in the words

provided_at : (b : Bool) (r : Option ℕ) (e : ℕ) → provided b r ≡ Some e → (b ≡ true) × (r ≡ Some e)
provided_at true r e h = (refl, h)
provided_at false r e h = (cc, cc)

meeting_at : (o : Option ℕ) (k : ℕ) (r : Option ℕ) (e : ℕ) → meeting o k r ≡ Some e → (o ≡ Some k) × (r ≡ Some e)
meeting_at None k r e h = (cc, cc)
meeting_at (Some m) k r e h = let s = provided_at (eqb m k) r e h in (ap Some (eqb-true m k s.0), s.1)

step_two : (a : Choice) → is_step_two a ≡ true → nothing ≡ a
unfolding is_step_two
step_two (names i) h = absurd (false≢true h)
step_two nothing h = refl
step_two ambiguous h = absurd (false≢true h)

no_index : (e : ℕ) → None ≡ Some e → ⊥
no_index e h = let z : ◌≡◌ {A = ℕ} 0 1 = cc in omega arith

pub not_conflict : (e : ℕ) → names e ≡ ambiguous → ⊥
not_conflict e h = let z : ◌≡◌ {A = ℕ} 0 1 = cc in omega arith

pub nothing_clear : nothing ≡ ambiguous → ⊥
nothing_clear h = let z : ◌≡◌ {A = ℕ} 0 1 = cc in omega arith

same_index : (i e : ℕ) → Some i ≡ Some e → i ≡ e
same_index i e h = cc

module _ (es : List Entry) (ws : List ℕ) (width n : ℕ) where
  -- a tree that is right in the cell stands in the words from i to before e
  pub record Held (c : Cell) (i e : ℕ) : Type 0 where
    pub held : Tree
    pub right : Agrees es c held
    pub sound : Sound width held
    pub stands : Stands ws width n i held
    pub ends : i + size held ≡ e

  held_names : (c : Cell) (i e x : ℕ) → node_of width n i (word ws i) ≡ Some (Names x) → provided (selects (settled es c) x) (Some (i + 1)) ≡ Some e → Held c i e
  unfolding Agrees Sound Stands size Says
  held_names c i e x d h =
      let s = provided_at (selects (settled es c) x) (Some (i + 1)) e h in
      let w : Says width n i (Some (Names x)) = rw d at (node_says width n i (word ws i)) in
      record {
        held = leaf (names x);
        right = (sym (selects_names (settled es c) x s.0), not_conflict x);
        sound = λ y q. let z : x ≡ y = cc in rw (← z) w;
        stands = d;
        ends = same_index (i + 1) e s.1;
      }

  held_nothing : (c : Cell) (i e : ℕ) → node_of width n i (word ws i) ≡ Some Nothing → provided (is_step_two (settled es c)) (Some (i + 1)) ≡ Some e → Held c i e
  unfolding Agrees Sound Stands size
  held_nothing c i e d h =
      let s = provided_at (is_step_two (settled es c)) (Some (i + 1)) e h in
      record {
        held = leaf nothing;
        right = (step_two (settled es c) s.0, nothing_clear);
        sound = λ y q. absurd (let z : ◌≡◌ {A = ℕ} 0 1 = cc in omega arith);
        stands = d;
        ends = same_index (i + 1) e s.1;
      }

  held_test : (c : Cell) (i e b k : ℕ) → node_of width n i (word ws i) ≡ Some (Asks b k) → bit c.fixed b ≡ false
      → Held (zero_side c b) (i + 1) k → Held (one_side c b) k e → Held c i e
  unfolding Agrees Sound Stands size Says
  held_test c i e b k d f zs os =
      let w : Says width n i (Some (Asks b k)) = rw d at (node_says width n i (word ws i)) in
      let q : i + 1 + size zs.held ≡ k = zs.ends in
      record {
        held = test b zs.held os.held;
        right = (f, zs.right, os.right);
        sound = (w.0, zs.sound, os.sound);
        stands = rw q (d, zs.stands, os.stands);
        ends = omega (arith, os.ends);
      }

  pub sound_from : (fuel : ℕ) (c : Cell) (i e : ℕ) → check_from fuel es ws width n c i ≡ Some e → Held c i e
  unfolding check_from
  sound_from zero c i e h =
      node-cases (node_of width n i (word ws i))
      (λ d. absurd (no_index e (rw d at h)))
      (λ b k d. absurd (no_index e (provided_at (not (bit c.fixed b)) None e (rw d at h)).1))
      (λ x d. held_names c i e x d (rw d at h))
      (λ d. held_nothing c i e d (rw d at h))
  sound_from (suc fuel) c i e h =
      node-cases (node_of width n i (word ws i))
      (λ d. absurd (no_index e (rw d at h)))
      (λ b k d.
      let s = provided_at (not (bit c.fixed b)) _ e (rw d at h) in
      let m = meeting_at _ k _ e s.1 in
      held_test c i e b k d (not_t s.0) (sound_from fuel (zero_side c b) (i + 1) k m.0) (sound_from fuel (one_side c b) k e m.1))
      (λ x d. held_names c i e x d (rw d at h))
      (λ d. held_nothing c i e d (rw d at h))

  -- ---- where such a tree stands: yes
  two_step : (c : Cell) → nothing ≡ settled es c → is_step_two (settled es c) ≡ true
  unfolding is_step_two
  two_step c q = rw (← q)

  pub complete : (t : Tree) (fuel : ℕ) (c : Cell) (i : ℕ) → Agrees es c t → Sound width t → Stands ws width n i t → free width c.fixed ≤ fuel
      → check_from fuel es ws width n c i ≡ Some (i + size t)
  unfolding Agrees Sound Stands size check_from
  complete (leaf (names x)) zero c i g o s k = rw (s, names_selects (settled es c) x (sym g.0))
  complete (leaf (names x)) (suc fuel) c i g o s k = rw (s, names_selects (settled es c) x (sym g.0))
  complete (leaf nothing) zero c i g o s k = rw (s, two_step c g.0)
  complete (leaf nothing) (suc fuel) c i g o s k = rw (s, two_step c g.0)
  complete (leaf ambiguous) fuel c i g o s k = absurd s
  complete (test b l r) zero c i g o s k = absurd (let z = free_less c b width o.0 g.0 in omega arith)
  complete (test b l r) (suc fuel) c i g o s k =
      let z = free_less c b width o.0 g.0 in
      rw (
        s.0,
        g.0,
        complete l fuel (zero_side c b) (i + 1) g.1 o.1 s.1 (omega arith),
        eq-eqb (i + 1 + size l) (i + 1 + size l) refl,
        complete r fuel (one_side c b) (i + 1 + size l) g.2 o.2 s.2 (omega arith),
      )
      (ap Some (omega arith))

-- ---- a tree that the checker accepts

ends_there : (o : Option ℕ) (k : ℕ) → ends_at o k ≡ true → o ≡ Some k
ends_there None k e = absurd (false≢true e)
ends_there (Some m) k e = ap Some (eqb-true m k e)

module _ (es : List Entry) (width : ℕ) (ws : List ℕ) where
  -- its header is good, and its nodes are a tree that is right for the entries
  pub record Accepted : Type 0 where
    pub number : ℕ
    pub header : header_of (word ws 0) (length ws) ≡ good width number
    pub whole : Held es ws width number start 1 (number + 1)

  pub accepted : accepts es width ws ≡ true → Accepted
  unfolding accepts accepts_by check_below
  accepted e =
      header-cases (header_of (word ws 0) (length ws))
      (λ d. absurd (false≢true (rw d at e)))
      (λ v n d.
      let s : eqb v width and ends_at (check_from (free width 0) es ws width n start 1) (n + 1) ≡ true = rw d at e in
      let q : v ≡ width = eqb-true v width (and_l _ s) in
      record {
        number = n;
        header = d ∙ ap (λ (x : ℕ). good x n) q;
        whole = sound_from es ws width n (free width 0) start 1 (n + 1) (ends_there _ (n + 1) (and_r _ s));
      })

  -- "an accepted tree answers every word of the width as selection does": each walk of it is right
  module _ (yes : accepts es width ws ≡ true) where
    abbrev nodes_of : ℕ
    nodes_of = (accepted yes).number

    abbrev held_tree : Tree
    held_tree = (accepted yes).whole.held

    answer_is : (w : ℕ) → answer held_tree w ≡ select es w
    answer_is w = agrees_right es held_tree start (accepted yes).whole.right w (and_zero_r w)

    walked : (w : ℕ) → path nodes_of ws width nodes_of w 1 ≡ arrives (named (select es w)) (asked held_tree w)
    walked w = rw (← (answer_is w)) (stands_path ws width nodes_of w held_tree nodes_of 1 (accepted yes).whole.stands (omega (arith, (accepted yes).whole.ends)))

    pub accepted_right : (w : ℕ) → w < 2 ^ width → Right es width nodes_of ws w
    unfolding walk_of enters free
    accepted_right w h =
        let a = (accepted yes).whole in
        right_walks es width nodes_of ws w (asked held_tree w)
        (λ k. agrees_clear es held_tree start a.right w (answer_is w ∙ k))
        (accepted yes).header
        (walked w)
        (rw ((accepted yes).header, lt-ltb w (2 ^ width) h, walked w))
        (agrees_fresh es width held_tree start a.right a.sound w).once
        (le_trans (agrees_short es width held_tree start a.right a.sound w) (how_many_le (λ i. not (bit 0 i)) width))

-- what the call says yes of, the rule accepts
pub check_accepts : (t : Table) (words : List ℕ) → check_of (result t) words ≡ result tt → accepts t.entries t.width words ≡ true
unfolding check_of
check_accepts t words e = cases (accepts t.entries t.width words) (λ y. y) (λ n. absurd (not_refused (sym (rw n at e))))

-- ---- the written form of a tree that is right

module _ (es : List Entry) (width n : ℕ) (narrow : width ≤ 32) (few : n < 65536) where
  -- the node that stands after `pre`
  node_after : (pre rest : List ℕ) (i x : ℕ) (found : Option Node) → length pre ≡ i → node_of width n i x ≡ found → node_of width n i (word (pre ++ (x ∷ rest)) i) ≡ found
  node_after pre rest i x found l e = rw (get_or_at pre x rest 0 i l, e)

  stands_written : (t : Tree) (c : Cell) (i : ℕ) (pre post : List ℕ) → Agrees es c t → Sound width t → length pre ≡ i → i + size t ≤ n + 1
      → Stands (pre ++ (nodes i t ++ post)) width n i t
  unfolding Agrees Sound Stands size nodes
  stands_written (leaf (names e)) c i pre post g o l k = node_after pre post i (leaf_word (names e)) (Some (Names e)) l (node_names width n i e (o e refl))
  stands_written (leaf nothing) c i pre post g o l k = node_after pre post i (leaf_word nothing) (Some Nothing) l (node_nothing width n i)
  stands_written (leaf ambiguous) c i pre post g o l k = absurd (g.1 refl)
  stands_written (test b z r) c i pre post g o l k =
      let one : ℕ = i + 1 + size z in
      let x : ℕ = test_word b one in
      let zs : List ℕ = nodes (i + 1) z in
      let os : List ℕ = nodes one r in
      let whole : List ℕ = pre ++ (x ∷ ((zs ++ os) ++ post)) in
      let left : whole ≡ (pre ++ (x ∷ [])) ++ (zs ++ (os ++ post)) = simp append_assoc in
      let right : whole ≡ (pre ++ (x ∷ zs)) ++ (os ++ post) = simp append_assoc in (
        node_after pre ((zs ++ os) ++ post) i x (Some (Asks b one)) l
            (node_test width n i b one narrow few o.0 (omega (arith, size_pos z)) (omega (arith, size_pos r))),
        subst (λ (k : List ℕ). Stands k width n (i + 1) z) (sym left) (stands_written z (zero_side c b) (i + 1) (pre ++ (x ∷ [])) (os ++ post) g.1 o.1 (simp length-append (omega arith)) (omega arith)),
        subst (λ (k : List ℕ). Stands k width n one r) (sym right) (stands_written r (one_side c b) one (pre ++ (x ∷ zs)) post g.2 o.2 (simp length-append (omega (arith, length_nodes z (i + 1)))) (omega arith)),
      )

module _ (es : List Entry) (width : ℕ) (some-width : 1 ≤ width) (narrow : width ≤ 32) where
  -- it is accepted, whatever words follow it
  pub written_accepted : (t : Tree) → Agrees es start t → Sound width t → size t < 65536 → (post : List ℕ) → accepts es width (written width t ++ post) ≡ true
  unfolding accepts accepts_by check_below written
  written_accepted t g o few post =
      rw (
        header_good width (size t) (length (header_word width (size t) ∷ (nodes 1 t ++ post))) some-width narrow (size_pos t) few (simp length-append (omega (arith, length_nodes t 1))),
        complete es (header_word width (size t) ∷ (nodes 1 t ++ post)) width (size t) t (free width 0) start 1 g o
            (stands_written es width (size t) narrow few t start 1 (header_word width (size t) ∷ []) post g o refl (omega arith))
            (le_refl _),
      )
      (and_i (eq-eqb width width refl) (eq-eqb (1 + size t) (size t + 1) (omega arith)))

-- ---- the tree of a table

or_none : (x y : maybe.Option ℕ) → or_else x y ≡ none → (x ≡ none) × (y ≡ none)
unfolding or_else
or_none none y e = (refl, e)
or_none (some w) y e = (cc, cc)

conflict_none : (a : Choice) (w : ℕ) → if_conflict a w ≡ none → a ≡ ambiguous → ⊥
conflict_none a w e q = let r : if_conflict ambiguous w ≡ none = rw q at e in let z : ◌≡◌ {A = ℕ} 0 1 = cc in omega arith

-- without a conflict it is right
pub tree_agrees : (es : List Entry) (width : ℕ) → good_table width es ≡ true → conflict start (tree es width) ≡ none → Agrees es start (tree es width)
unfolding Agrees conflict tree below
tree_agrees es width good =
    induct es width good (λ c t. conflict c t ≡ none → Agrees es c t)
    (λ c a e k. (
      sym (step_end es width c a e).0,
      conflict_none a c.bits k,
    ))
    (λ c i l r e b f zs os k. let s = or_none _ _ k in (f, zs s.0, os s.1))
    (free width 0) start (le_refl _)

-- ---- "every tree that generating writes is accepted": in the whole buffer, and in the n words that were answered

-- the tree of a table that fits within the limit and has no conflict
module _ (ws : List ℕ) (t : Table) (reads : read_table ws ≡ result t) (room : ℕ) (fit : fits (tree t.entries t.width) room ≡ true)
    (clean : conflict start (tree t.entries t.width) ≡ none) where
  own_accepted : (rest : List ℕ) → check_of (read_table ws) (written t.width (tree t.entries t.width) ++ rest) ≡ result tt
  unfolding check_of fits
  own_accepted rest =
      let s = read_sane ws t reads in
      let yes : accepts t.entries t.width (written t.width (tree t.entries t.width) ++ rest) ≡ true
      = written_accepted t.entries t.width s.wide s.narrow (tree t.entries t.width)
      (tree_agrees t.entries t.width s.good clean)
      (sound_tree t.entries t.width s.good s.short)
      (omega (arith, leb-true (size (tree t.entries t.width) + 1) 16384 (and_r _ fit)))
      rest in
      rw (reads, yes)

module _ (ws out : List ℕ) (t : Table) (reads : read_table ws ≡ result t) (n : ℕ) (generated : generate_of (read_table ws) (length out) ≡ result n) where
  pub generated_accepted : (check_of (read_table ws) (buffer_of (read_table ws) out) ≡ result tt) × (check_of (read_table ws) (take n (buffer_of (read_table ws) out)) ≡ result tt)
  generated_accepted =
      let j = (judgement ws out t reads n generated).0 in
      let own = own_accepted ws t reads (length out) j.fits j.clean in
      (rw (buffer_is ws out t reads n generated) (own _), rw (words_are ws out t reads n generated) (own []))

-- a table that generating refuses with 19 still has its tree for the checker, whoever made it
pub unreached_accepted : (ws : List ℕ) (t : Table) → read_table ws ≡ result t → (room e : ℕ) → generate_of (read_table ws) room ≡ refused 19 e 0
    → (rest : List ℕ) → check_of (read_table ws) (written t.width (tree t.entries t.width) ++ rest) ≡ result tt
unreached_accepted ws t reads room e lost = let (fit, clean, lowest) = nineteen_judged ws t reads room e lost in own_accepted ws t reads room fit clean
