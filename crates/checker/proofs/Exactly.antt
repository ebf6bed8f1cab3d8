-- The checker's rule, clause by clause: a tree is accepted if and only if each of them holds. Assumes nothing.
--     Ends, Met     where a subtree ends; in which cell a node is met
--     StepOne, StepTwo     what steps 1 and 2 ask in a cell
--     Clauses     the rule, in the paper's order
--     accepts_exactly     the rule says yes exactly when the clauses hold
--     faulty_first, yes_exactly, no_exactly     so it is with the call, on a table that reads
use Prim.Native.Nat.{ℕ, zero, suc, ◌+◌, ◌≤◌, ◌<◌}
use native.Mathlib.Nat.{le_refl}
use native.Mathlib.Omega.{arith}
use mathlib.Core.Path.{◌≡◌, refl, sym, ap, ◌∙◌}
use mathlib.Core.Bool.{Bool, true, false}
use mathlib.Core.List.{List}
use mathlib.Core.Logic.{◌↔◌}
use lib.Dec.{eqb, ltb}
use lib.ListN.{length}
use borrow.Author.Tests.{eq-eqb, eqb-true, eqb-false, ltb-true, ltb-false}
use Rattle.words.specs.Tests.{◌and◌, first}
use Rattle.words.specs.Words.{word, bit}
use Rattle.words.specs.Outcome.{Outcome, result, faulty, refused}
use Rattle.words.proofs.Logic.{cases, clash, is_false, and_i, and_l, and_r, exists_none, exists_no, first_some, first_only, first_no}
use Rattle.words.proofs.Outcomes.{not_refused, not_faulty, refused_not_faulty, faults_passed}
use Rattle.table.specs.Table.{Entry, Table, entry_number}
use Rattle.table.specs.Check.{read_table}
use Rattle.choice.specs.Rule.{names, nothing, ambiguous, more_specific, beats, judge, judge_at}
use Rattle.choice.proofs.Judging.{names_selects, choice_names, choice_nothing, over, overs_beat, wins_one}
use Rattle.flat.specs.Nodes.{good, header_of, node_of}
use Rattle.flat.specs.declared.Node.{Node}
use Rattle.flat.specs.declared.Node.TheVariants.{Asks, Names, Nothing}
use Rattle.std.specs.Prelude.{Option, Some, None}
use Rattle.flat.proofs.Reading.{header_nodes, node-cases, Says, node_says}
use Rattle.cell.specs.Cell.{Cell, start, zero_side, one_side, live, sure}
use Rattle.cell.specs.Step.{free}
use Rattle.cell.proofs.Cells.{free_less}
use Rattle.tree.specs.Tree.{Tree, leaf, test, size}
use Rattle.checker.specs.Checker.{settled, is_step_two, check_from, check_below, accepts_by, accepts, check_of}
use Rattle.checker.proofs.Accepting.{Agrees, Stands, Held, accepted}

-- ---- steps 1 and 2 in a cell

-- "A sure entry more specific than every other live one"
pub record StepOne (es : List Entry) (c : Cell) (e : ℕ) : Type 0 where
  pub entry : e < length es
  pub here : sure c (entry_number es e) ≡ true
  pub over : (j : ℕ) → j < length es → (j ≡ e → ⊥) → live c (entry_number es j) ≡ true → more_specific (entry_number es e) (entry_number es j) ≡ true

-- "No live entry"
abbrev pub StepTwo : List Entry → Cell → Type 0
StepTwo es c = (j : ℕ) → j < length es → live c (entry_number es j) ≡ false

module _ (es : List Entry) (c : Cell) where
  abbrev wins : ℕ → Bool
  wins i = sure c (entry_number es i) and beats es (live c) i

  sure_live : (e : Entry) → sure c e ≡ true → live c e ≡ true
  unfolding sure
  sure_live e h = and_l _ h

  pub one_exactly : (e : ℕ) → (settled es c ≡ names e) ↔ StepOne es c e
  unfolding judge judge_at
  one_exactly e = (
    λ q. let f = first_some wins (length es) e (choice_names _ _ e q) in
        record { entry = f.0; here = and_l _ f.1; over = λ j h d l. over (entry_number es) (λ i. live c (entry_number es i)) (length es) e j (and_r _ f.1) h d l },
    λ s. let t : wins e ≡ true = and_i s.here (overs_beat (entry_number es) (λ i. live c (entry_number es i)) (length es) e s.over) in
        rw (first_only wins (length es) e s.entry t (λ j h k. wins_one es (sure c) (live c) sure_live e j s.entry h t k)),
  )

  pub two_exactly : (settled es c ≡ nothing) ↔ StepTwo es c
  unfolding judge judge_at
  two_exactly = (
    λ q. exists_none (λ i. live c (entry_number es i)) (length es) (choice_nothing (first wins (length es)) _ q),
    λ n. rw (first_no wins (length es) (λ j h. is_false (λ t. clash (sure_live _ (and_l _ t)) (n j h))), exists_no (λ i. live c (entry_number es i)) (length es) n),
  )

-- ---- the nodes of a tree, in any words

module _ (ws : List ℕ) (width n : ℕ) where
  abbrev node : ℕ → Option Node
  node i = node_of width n i (word ws i)

  -- the subtree whose first node is at i ends before e: a leaf is one node, and a test ends where its one side does
  pub data Ends : ℕ → ℕ → Type 0 where
    after_entry : {i e : ℕ} (x : ℕ) → node i ≡ Some (Names x) → i + 1 ≡ e → Ends i e
    after_nothing : {i e : ℕ} → node i ≡ Some Nothing → i + 1 ≡ e → Ends i e
    after_test : {i e : ℕ} (b k m : ℕ) → node i ≡ Some (Asks b k) → Ends (i + 1) m → Ends k e → Ends i e

  -- the node at i is met in the cell c: the first with no bit fixed, and the sides of a test with its bit fixed as well
  pub data Met : ℕ → Cell → Type 0 where
    at_first : {i : ℕ} {c : Cell} → 1 ≡ i → start ≡ c → Met i c
    zero_met : {j : ℕ} {d : Cell} (i : ℕ) (c : Cell) (b k : ℕ) → Met i c → node i ≡ Some (Asks b k) → i + 1 ≡ j → zero_side c b ≡ d → Met j d
    one_met : {j : ℕ} {d : Cell} (i : ℕ) (c : Cell) (b k : ℕ) → Met i c → node i ≡ Some (Asks b k) → k ≡ j → one_side c b ≡ d → Met j d

-- "After 1–4 it says yes exactly when:"
pub record Clauses (es : List Entry) (width : ℕ) (ws : List ℕ) : Type 0 where
  pub said : ℕ
  pub number : ℕ
  -- "header good": it says a width, and a number of nodes
  pub header : header_of (word ws 0) (length ws) ≡ good said number
  -- "widths equal"
  pub widths : said ≡ width
  -- "no node damaged"
  pub whole : (i : ℕ) → 1 ≤ i → i ≤ number → node_of width number i (word ws i) ≡ None → ⊥
  -- "each one side begins where the zero side ends"
  pub sides : (i b k : ℕ) → 1 ≤ i → i ≤ number → node_of width number i (word ws i) ≡ Some (Asks b k) → Ends ws width number (i + 1) k
  -- "all nodes are used"
  pub used : (i : ℕ) → 1 ≤ i → i ≤ number → (c : Cell) × Met ws width number i c
  -- "no path tests a bit twice"
  pub once : (i : ℕ) (c : Cell) (b k : ℕ) → Met ws width number i c → node_of width number i (word ws i) ≡ Some (Asks b k) → bit c.fixed b ≡ false
  -- "each named entry is the one of step 1 in its cell"
  pub named : (i : ℕ) (c : Cell) (e : ℕ) → Met ws width number i c → node_of width number i (word ws i) ≡ Some (Names e) → StepOne es c e
  -- "each nothing has step 2"
  pub nothings : (i : ℕ) (c : Cell) → Met ws width number i c → node_of width number i (word ws i) ≡ Some Nothing → StepTwo es c

-- ---- accepted: the clauses hold

module _ (es : List Entry) (ws : List ℕ) (width n : ℕ) where
  -- a tree that stands ends after its nodes
  stands_ends : (t : Tree) (i : ℕ) → Stands ws width n i t → Ends ws width n i (i + size t)
  unfolding Stands size
  stands_ends (leaf (names e)) i s = after_entry e s refl
  stands_ends (leaf nothing) i s = after_nothing s refl
  stands_ends (leaf ambiguous) i s = absurd s
  stands_ends (test b l r) i s =
      let q : i + 1 + size l + size r ≡ i + (size l + size r + 1) = omega arith in
      after_test b (i + 1 + size l) (i + 1 + size l) s.0 (stands_ends l (i + 1) s.1) (rw q at (stands_ends r (i + 1 + size l) s.2))

  -- each of them is met
  stands_met : (t : Tree) (i : ℕ) (c : Cell) → Stands ws width n i t → Met ws width n i c → (j : ℕ) → i ≤ j → j < i + size t → (d : Cell) × Met ws width n j d
  unfolding Stands size
  stands_met (leaf a) i c s m j h l = let q : i ≡ j = omega arith in (c, rw q at m)
  stands_met (test b l r) i c s m j h k =
      cases (eqb i j)
      (λ t. let q : i ≡ j = eqb-true i j t in (c, rw q at m))
      (λ t. let q = eqb-false i j t in cases (ltb j (i + 1 + size l))
      (λ u. stands_met l (i + 1) (zero_side c b) s.1 (zero_met i c b (i + 1 + size l) m s.0 refl refl) j (omega arith) (ltb-true _ _ u))
      (λ u. stands_met r (i + 1 + size l) (one_side c b) s.2 (one_met i c b (i + 1 + size l) m s.0 refl refl) j (ltb-false _ _ u) (omega arith)))

  -- what stands, right, from a node on
  record Part (i : ℕ) (c : Cell) : Type 0 where
    held : Tree
    right : Agrees es c held
    stands : Stands ws width n i held

  -- the sides of a test
  record Sides (i : ℕ) (c : Cell) (b k : ℕ) : Type 0 where
    fresh : bit c.fixed b ≡ false
    zeros : Part (i + 1) (zero_side c b)
    ones : Part k (one_side c b)
    ends : i + 1 + size zeros.held ≡ k

  tested : (i : ℕ) (c : Cell) (b k : ℕ) → Part i c → node_of width n i (word ws i) ≡ Some (Asks b k) → Sides i c b k
  unfolding Agrees Stands
  tested i c b k p d = go p.held p.right p.stands
    where
      go : (t : Tree) → Agrees es c t → Stands ws width n i t → Sides i c b k
      go (leaf (names e)) g s = absurd (let z : ◌≡◌ {A = ℕ} 0 1 = cc in omega arith)
      go (leaf nothing) g s = absurd (let z : ◌≡◌ {A = ℕ} 0 1 = cc in omega arith)
      go (leaf ambiguous) g s = absurd s
      go (test a l r) g s =
          let e : node_of width n i (word ws i) ≡ Some (Asks a (i + 1 + size l)) = s.0 in
          let q : a ≡ b = cc in
          let m : i + 1 + size l ≡ k = cc in
          record {
            fresh = rw q at g.0;
            zeros = record { held = l; right = rw q at g.1; stands = s.1 };
            ones = record { held = r; right = rw q at g.2; stands = rw m at s.2 };
            ends = m;
          }

  -- from where a node is met, in a tree that stands as a whole
  met_part : Part 1 start → (i : ℕ) (c : Cell) → Met ws width n i c → Part i c
  met_part p i c (at_first q r) = rw (q, r) at p
  met_part p i c (zero_met j d b k m e q r) = rw (q, r) at (tested j d b k (met_part p j d m) e).zeros
  met_part p i c (one_met j d b k m e q r) = rw (q, r) at (tested j d b k (met_part p j d m) e).ones

  leaf_entry : (i : ℕ) (c : Cell) (e : ℕ) → Part i c → node_of width n i (word ws i) ≡ Some (Names e) → settled es c ≡ names e
  unfolding Agrees Stands
  leaf_entry i c e p d = go p.held p.right p.stands
    where
      go : (t : Tree) → Agrees es c t → Stands ws width n i t → settled es c ≡ names e
      go (leaf (names x)) g s = let q : x ≡ e = cc in sym g.0 ∙ ap names q
      go (leaf nothing) g s = absurd (let z : ◌≡◌ {A = ℕ} 0 1 = cc in omega arith)
      go (leaf ambiguous) g s = absurd s
      go (test a l r) g s = absurd (let f = s.0 in let z : ◌≡◌ {A = ℕ} 0 1 = cc in omega arith)

  leaf_nothing : (i : ℕ) (c : Cell) → Part i c → node_of width n i (word ws i) ≡ Some Nothing → settled es c ≡ nothing
  unfolding Agrees Stands
  leaf_nothing i c p d = go p.held p.right p.stands
    where
      go : (t : Tree) → Agrees es c t → Stands ws width n i t → settled es c ≡ nothing
      go (leaf (names x)) g s = absurd (let z : ◌≡◌ {A = ℕ} 0 1 = cc in omega arith)
      go (leaf nothing) g s = sym g.0
      go (leaf ambiguous) g s = absurd s
      go (test a l r) g s = absurd (let f = s.0 in let z : ◌≡◌ {A = ℕ} 0 1 = cc in omega arith)

  not_damaged : (i : ℕ) (t : Tree) → Stands ws width n i t → node_of width n i (word ws i) ≡ None → ⊥
  unfolding Stands
  not_damaged i (leaf (names x)) s d = let z : ◌≡◌ {A = ℕ} 0 1 = cc in omega arith
  not_damaged i (leaf nothing) s d = let z : ◌≡◌ {A = ℕ} 0 1 = cc in omega arith
  not_damaged i (leaf ambiguous) s d = s
  not_damaged i (test a l r) s d = let f = s.0 in let z : ◌≡◌ {A = ℕ} 0 1 = cc in omega arith

  -- ---- the clauses hold: accepted

  -- a subtree ends further on, no further than after the last node, and in one place
  ends_lt : {i e : ℕ} → Ends ws width n i e → i < e
  unfolding Says
  ends_lt (after_entry x d q) = omega arith
  ends_lt (after_nothing d q) = omega arith
  ends_lt {i = i} (after_test b k m d z o) =
      let s : Says width n i (Some (Asks b k)) = rw d at (node_says width n i (word ws i)) in
      omega (arith, ends_lt o, s.2)

  ends_most : {i e : ℕ} → i ≤ n → Ends ws width n i e → e ≤ n + 1
  unfolding Says
  ends_most h (after_entry x d q) = omega arith
  ends_most h (after_nothing d q) = omega arith
  ends_most {i = i} h (after_test b k m d z o) =
      let s : Says width n i (Some (Asks b k)) = rw d at (node_says width n i (word ws i)) in
      ends_most s.3 o

  ends_one : {i e f : ℕ} → Ends ws width n i e → Ends ws width n i f → e ≡ f
  ends_one (after_entry x d q) (after_entry y c r) = sym q ∙ r
  ends_one (after_entry x d q) (after_nothing c r) = sym q ∙ r
  ends_one (after_entry x d q) (after_test b k m c z o) = absurd (let y : ◌≡◌ {A = ℕ} 0 1 = cc in omega arith)
  ends_one (after_nothing d q) (after_entry y c r) = sym q ∙ r
  ends_one (after_nothing d q) (after_nothing c r) = sym q ∙ r
  ends_one (after_nothing d q) (after_test b k m c z o) = absurd (let y : ◌≡◌ {A = ℕ} 0 1 = cc in omega arith)
  ends_one (after_test b k m d z o) (after_entry y c r) = absurd (let y : ◌≡◌ {A = ℕ} 0 1 = cc in omega arith)
  ends_one (after_test b k m d z o) (after_nothing c r) = absurd (let y : ◌≡◌ {A = ℕ} 0 1 = cc in omega arith)
  ends_one (after_test b k m d z o) (after_test a j l c y p) = let q : k ≡ j = cc in ends_one (rw q at o) p

  -- the side of a test that ends where the whole does
  one_ends : {i e : ℕ} (b k : ℕ) → node_of width n i (word ws i) ≡ Some (Asks b k) → Ends ws width n i e → Ends ws width n k e
  one_ends b k d (after_entry x c q) = absurd (let y : ◌≡◌ {A = ℕ} 0 1 = cc in omega arith)
  one_ends b k d (after_nothing c q) = absurd (let y : ◌≡◌ {A = ℕ} 0 1 = cc in omega arith)
  one_ends b k d (after_test a j m c z o) = let q : j ≡ k = cc in rw q at o

module _ (es : List Entry) (width : ℕ) (ws : List ℕ) (cl : Clauses es width ws) where
  abbrev n : ℕ
  n = cl.number

  some_node : 1 ≤ n
  some_node = header_nodes (word ws 0) (length ws) cl.said n cl.header

  -- a node that is met is one of the nodes
  met_within : {i : ℕ} {c : Cell} → Met ws width n i c → (1 ≤ i) × (i ≤ n)
  unfolding Says
  met_within (at_first q r) = (omega arith, omega (arith, some_node))
  met_within (zero_met i c b k m d q r) =
      let s : Says width n i (Some (Asks b k)) = rw d at (node_says width n i (word ws i)) in
      (omega arith, omega (arith, s.2, s.3))
  met_within (one_met i c b k m d q r) =
      let s : Says width n i (Some (Asks b k)) = rw d at (node_says width n i (word ws i)) in
      (omega (arith, s.2), omega (arith, s.3))

  entry_here : (fuel i : ℕ) (c : Cell) → Met ws width n i c → (e : ℕ) → node_of width n i (word ws i) ≡ Some (Names e)
      → (x : ℕ) × (check_from fuel es ws width n c i ≡ Some x) × Ends ws width n i x
  unfolding check_from
  entry_here zero i c m e d =
      (i + 1, rw (d, names_selects (settled es c) e ((one_exactly es c e).1 (cl.named i c e m d))), after_entry e d refl)
  entry_here (suc fuel) i c m e d =
      (i + 1, rw (d, names_selects (settled es c) e ((one_exactly es c e).1 (cl.named i c e m d))), after_entry e d refl)

  nothing_here : (fuel i : ℕ) (c : Cell) → Met ws width n i c → node_of width n i (word ws i) ≡ Some Nothing
      → (x : ℕ) × (check_from fuel es ws width n c i ≡ Some x) × Ends ws width n i x
  unfolding check_from is_step_two
  nothing_here zero i c m d = (i + 1, rw (d, (two_exactly es c).1 (cl.nothings i c m d)), after_nothing d refl)
  nothing_here (suc fuel) i c m d = (i + 1, rw (d, (two_exactly es c).1 (cl.nothings i c m d)), after_nothing d refl)

  -- the rule says yes from every node that is met
  says_yes : (fuel i : ℕ) (c : Cell) → Met ws width n i c → free width c.fixed ≤ fuel
      → (x : ℕ) × (check_from fuel es ws width n c i ≡ Some x) × Ends ws width n i x
  unfolding check_from Says
  says_yes zero i c m f =
      let w = met_within m in
      node-cases (node_of width n i (word ws i))
      (λ d. absurd (cl.whole i w.0 w.1 d))
      (λ b k d.
      let s : Says width n i (Some (Asks b k)) = rw d at (node_says width n i (word ws i)) in
      absurd (omega (arith, free_less c b width s.0 (cl.once i c b k m d))))
      (λ e d. entry_here zero i c m e d)
      (λ d. nothing_here zero i c m d)
  says_yes (suc fuel) i c m f =
      let w = met_within m in
      node-cases (node_of width n i (word ws i))
      (λ d. absurd (cl.whole i w.0 w.1 d))
      (λ b k d.
      let s : Says width n i (Some (Asks b k)) = rw d at (node_says width n i (word ws i)) in
      let fresh = cl.once i c b k m d in
      let less = free_less c b width s.0 fresh in
      let zs = says_yes fuel (i + 1) (zero_side c b) (zero_met i c b k m d refl refl) (omega arith) in
      let os = says_yes fuel k (one_side c b) (one_met i c b k m d refl refl) (omega arith) in
      let q : zs.0 ≡ k = ends_one es ws width n zs.2 (cl.sides i b k w.0 w.1 d) in
      (os.0, rw (d, fresh, zs.1, eq-eqb zs.0 k q, os.1), after_test b k zs.0 d zs.2 os.2))
      (λ e d. entry_here (suc fuel) i c m e d)
      (λ d. nothing_here (suc fuel) i c m d)

  -- and where the whole ends, no node that is met is left over
  met_before : (e : ℕ) → Ends ws width n 1 e → {i : ℕ} {c : Cell} → Met ws width n i c → (m : ℕ) × Ends ws width n i m × (m ≤ e)
  met_before e t (at_first q r) = (e, rw q at t, le_refl e)
  met_before e t (zero_met i c b k m d q r) =
      let p = met_before e t m in
      let w = met_within m in
      let o = ends_lt es ws width n (one_ends es ws width n b k d p.1) in
      (k, rw q at (cl.sides i b k w.0 w.1 d), omega (arith, p.2))
  met_before e t (one_met i c b k m d q r) =
      let p = met_before e t m in
      (p.0, rw q at (one_ends es ws width n b k d p.1), p.2)

  ends_all : (e : ℕ) → Ends ws width n 1 e → e ≡ n + 1
  ends_all e t =
      let p = met_before e t (cl.used n some_node (le_refl n)).1 in
      omega (arith, p.2, ends_lt es ws width n p.1, ends_most es ws width n some_node t)

  clauses_accept : accepts es width ws ≡ true
  unfolding accepts accepts_by check_below free
  clauses_accept =
      let y = says_yes (free width 0) 1 start (at_first refl refl) (le_refl _) in
      rw (cl.header, y.1) (and_i (eq-eqb cl.said width cl.widths) (eq-eqb y.0 (n + 1) (ends_all y.0 y.2)))

-- ---- both ways

module _ (es : List Entry) (width : ℕ) (ws : List ℕ) where
  accept_clauses : accepts es width ws ≡ true → Clauses es width ws
  accept_clauses y =
      let a = accepted es width ws y in
      let n : ℕ = a.number in
      let held : Held es ws width n start 1 (n + 1) = a.whole in
      let whole : Part es ws width n 1 start = record { held = held.held; right = held.right; stands = held.stands } in
      let used : (i : ℕ) → 1 ≤ i → i ≤ n → (c : Cell) × Met ws width n i c
      = λ i h k. stands_met es ws width n held.held 1 start held.stands (at_first refl refl) i h (omega (arith, held.ends)) in
      let at : (i : ℕ) (c : Cell) → Met ws width n i c → Part es ws width n i c = λ i c m. met_part es ws width n whole i c m in
      record {
        said = width;
        number = n;
        header = a.header;
        widths = refl;
        whole = λ i h k d. let u = used i h k in let p = at i u.0 u.1 in not_damaged es ws width n i p.held p.stands d;
        sides = λ i b k h l d.
            let u = used i h l in
            let s = tested es ws width n i u.0 b k (at i u.0 u.1) d in
            rw s.ends at (stands_ends es ws width n s.zeros.held (i + 1) s.zeros.stands);
        used = used;
        once = λ i c b k m d. (tested es ws width n i c b k (at i c m) d).fresh;
        named = λ i c e m d. (one_exactly es c e).0 (leaf_entry es ws width n i c e (at i c m) d);
        nothings = λ i c m d. (two_exactly es c).0 (leaf_nothing es ws width n i c (at i c m) d);
      }

  pub accepts_exactly : (accepts es width ws ≡ true) ↔ Clauses es width ws
  accepts_exactly = (accept_clauses, clauses_accept es width ws)

-- "After 1–4": a table's fault exactly where reading has it
pub faulty_first : (ws words : List ℕ) (n p : ℕ) → (check_of (read_table ws) words ≡ faulty n p) ↔ (read_table ws ≡ faulty n p)
unfolding check_of
faulty_first ws words n p =
    faults_passed (λ (o : Outcome Table). check_of o words) (λ a b. refl) (λ a b x. refl)
    (λ t a b q. cases (accepts t.entries t.width words) (λ y. not_faulty (rw y at q)) (λ y. refused_not_faulty (rw y at q)))
    (read_table ws) n p

-- "After 1–4 it says yes exactly when .. otherwise its answer is 14": the call, on a table that reads
module _ (ws words : List ℕ) (t : Table) (reads : read_table ws ≡ result t) where
  pub yes_exactly : (check_of (read_table ws) words ≡ result tt) ↔ Clauses t.entries t.width words
  unfolding check_of
  yes_exactly = (
    λ e. cases (accepts t.entries t.width words)
        (λ y. (accepts_exactly t.entries t.width words).0 y)
        (λ y. absurd (not_refused (sym (rw (reads, y) at e)))),
    λ c. rw (reads, (accepts_exactly t.entries t.width words).1 c),
  )

  pub no_exactly : (check_of (read_table ws) words ≡ refused 14 0 0) ↔ (Clauses t.entries t.width words → ⊥)
  unfolding check_of
  no_exactly = (
    λ e c. not_refused (sym (yes_exactly.1 c) ∙ e),
    λ c. rw (reads, is_false {b = accepts t.entries t.width words} (λ y. c ((accepts_exactly t.entries t.width words).0 y))),
  )
