-- What generating and sizing answer, and what generating leaves, from what the maker says of the whole tree. Assumes nothing.
use mathlib.Core.Path.{◌≡◌, refl, sym, ap, ap₂, ◌∙◌}
use mathlib.Core.Bool.{Bool, true, false, not}
use mathlib.Core.List.{List, ◌∷◌, ◌++◌}
use mathlib.Core.Option as maybe
use Prim.Native.Nat.{ℕ, suc, ◌+◌, ◌-◌, ◌≤◌, ◌<◌, min}
use native.Mathlib.Nat.{zero-add}
use native.Mathlib.Omega.{arith}
use lib.ListN.{length, set, take, drop, replicate}
use lib.Seq.{sets-eq}
use borrow.Author.Tests.{leb-true, le-leb}
use Rattle.std.specs.Prelude.{Option, None, Some, Result, Ok, Err, ok_or, position}
use Rattle.words.proofs.Logic.{and_i, and_l, and_r, is_false, options}
use Rattle.words.proofs.Lists.{set_sets}
use Rattle.words.specs.Outcome.{Outcome, result, faulty, refused, refused_as}
use Rattle.words.specs.declared.Refusal.{Refusal}
use Rattle.words.specs.declared.Refusal.TheVariants as refusal
use Rattle.words.specs.declared.Refusal.TheVariants.{NoFit, Ambiguous, Unreached}
use Rattle.words.proofs.Outcomes.{refused_no_result}
use Rattle.table.specs.Lawful.{good_table}
use Rattle.table.specs.Table.{Entry, Table, entries_at}
use Rattle.table.specs.Check.{read_table}
use Rattle.table.specs.Answer.{Reads}
use Rattle.table.specs.Ready.{Ready}
use Rattle.table.proofs.Laws.{length_entries}
use Rattle.table.proofs.Views.{ready_few, ready_read, read_refused}
use Rattle.cell.proofs.Deciding.{ready_good}
use Rattle.cell.specs.Cell.{start}
use Rattle.tree.specs.Tree.{Tree, tree, below, size, depth, conflict}
use Rattle.tree.specs.Written.{header_word, nodes, written}
use Rattle.tree.specs.Generate.{table_with, fits, judged, generate_of, left_by, buffer_of, survey_of, measure_of}
use Rattle.tree.specs.Reach.{lowest_unreached}
use Rattle.tree.proofs.Sizes.{length_nodes}
use Rattle.tree.proofs.Sizing.{counted, survey_generates}
use Rattle.maker.specs.Answers.{Generates}
use Rattle.maker.specs.Parts.{WritesTree, first_of, Making, lowest_unmarked, judged_made, judged_by, said_judged, Judging}
use Rattle.maker.specs.declared.Made.{Made}
use Rattle.maker.specs.declared.Writer.{Writer}
use Rattle.maker.proofs.Marking.{lowest_marked, lowest_taken, position_lowest}

-- the first conflict, back from the code's answer
first_clean : (o : maybe.Option ℕ) → None ≡ first_of o → o ≡ maybe.none
first_clean maybe.none e = refl
first_clean (maybe.some w) e = cc

first_clash : (o : maybe.Option ℕ) (w : ℕ) → Some w ≡ first_of o → o ≡ maybe.some w
first_clash maybe.none w e = cc
first_clash (maybe.some v) w e = let q : v ≡ w = cc in ap maybe.some q

-- ---- what is judged of the whole tree

module _ (es : List Entry) (width room : ℕ) (good : good_table width es ≡ true) (few : length es ≤ 256) {limit : ℕ} (is : limit ≡ min room 16384) where
  abbrev whole : Tree
  whole = tree es width

  no_fit : limit < 1 + size whole → fits whole room ≡ false
  unfolding fits
  no_fit h = is_false (λ t. let a = leb-true (size whole + 1) room (and_l _ t) in let b = leb-true (size whole + 1) 16384 (and_r _ t) in omega arith)

  does_fit : 1 + size whole ≤ limit → fits whole room ≡ true
  unfolding fits
  does_fit h =
      let a : size whole + 1 ≤ room = omega arith in
      let b : size whole + 1 ≤ 16384 = omega arith in
      and_i (le-leb _ _ a) (le-leb _ _ b)

  -- what is judged of a tree that fits, by its first conflict
  made_judged : (m : Made) (f : Option ℕ) → f ≡ first_of (conflict start whole) → 1 + size whole ≤ limit → m.next ≡ 1 + size whole → m.tests ≡ depth whole
      → said_judged (judged_made f (lowest_unreached es width) m) ≡ survey_of (result (table_with es width)) room
  unfolding survey_of judged judged_made
  made_judged m (Some x) ef h next tests = rw (does_fit h, first_clash (conflict start whole) x ef)
  made_judged m None ef h next tests =
      let nodes : m.next - 1 ≡ size whole = omega (arith, next) in
      rw (does_fit h, first_clean (conflict start whole) ef)
      (options (lowest_unreached es width)
      (λ q. rw q (ap₂ (λ (x y : ℕ). result (record { nodes = x; tests = y })) nodes tests))
      (λ e q. rw q))

  whole_judged : (r : Option Made) {v w : Writer} → v.marks ≡ replicate 256 false → v.limit ≡ limit → Making r v w whole start 1
      → said_judged (judged_by r (lowest_unmarked w.marks (length es))) ≡ survey_of (result (table_with es width)) room
  unfolding survey_of judged judged_by
  whole_judged None em el m = rw (no_fit (rw el at (m.full refl)))
  whole_judged (Some n) em el m =
      let x = m.wrote n refl in
      rw (lowest_marked es width good few (rw em at x.marks_are)) (made_judged n n.first x.first_is (rw el at x.room) x.next_is x.depth_is)

-- a tree that stands was made
stands_made : (r : Option Made) (o : maybe.Option ℕ) (m : Made) → judged_by r o ≡ Ok m → r ≡ Some m
unfolding judged_by judged_made
stands_made None o m e = cc
stands_made (Some n) o m e = by_first n.first o e
  where
    by_first : (f : Option ℕ) (o : maybe.Option ℕ) → judged_made f o n ≡ Ok m → Some n ≡ Some m
    by_first (Some w) o e = cc
    by_first None (maybe.some i) e = cc
    by_first None maybe.none e = cc

-- what the judge's calls say
pub full_judged : (made : Option Made) (o : maybe.Option ℕ) {r : Refusal} → ok_or made NoFit ≡ Err r → Err r ≡ judged_by made o
unfolding judged_by
full_judged None o e = sym e
full_judged (Some m) o e = cc

pub fits_judged : (made : Option Made) {m : Made} → ok_or made NoFit ≡ Ok m → made ≡ Some m
fits_judged None e = cc
fits_judged (Some n) e = cc

module _ {made : Option Made} {m : Made} (e : made ≡ Some m) where
  pub clash_judged : {w : ℕ} (o : maybe.Option ℕ) → m.first ≡ Some w → Err (Ambiguous w) ≡ judged_by made o
  unfolding judged_by judged_made
  clash_judged o f = rw (e, f)

  module _ (marks : List Bool) (f : m.first ≡ None) where
    pub unreached_judged : {i : ℕ} → position not marks ≡ Some i → Err (Unreached i) ≡ judged_by made (lowest_unmarked marks (length marks))
    unfolding judged_by judged_made
    unreached_judged {i} q = rw (e, f, first_clash (lowest_unmarked marks (length marks)) i (sym q ∙ position_lowest marks))

    pub stands_judged : position not marks ≡ None → Ok m ≡ judged_by made (lowest_unmarked marks (length marks))
    unfolding judged_by judged_made
    stands_judged q = rw (e, f, first_clean (lowest_unmarked marks (length marks)) (sym q ∙ position_lowest marks))

-- of a table without fault, from what the calls say: no entry has a mark at first, and j is judged of what the maker wrote
module _ (ws places : List ℕ) (width n : ℕ) (ready : Ready ws places width n) {limit : ℕ} {r : Option Made} {v w : Writer}
    (em : v.marks ≡ replicate 256 false) (el : v.limit ≡ limit) (made : Making r v w (below (entries_at ws n 1) width start) start 1)
    {j : Result Made Refusal} (all : n ≤ length w.marks) (taken : j ≡ judged_by r (lowest_unmarked (take n w.marks) (length (take n w.marks)))) where
  abbrev es : List Entry
  es = entries_at ws n 1

  judges : j ≡ judged_by r (lowest_unmarked w.marks n)
  judges = taken ∙ ap (judged_by r) (lowest_taken w.marks n all)

  whole_made : Making r v w (tree es width) start 1
  unfolding tree
  whole_made = made

  pub made_judging : Judging j v.out.now w.out.now es width limit
  made_judging =
      record {
        said = λ room is.
            let l : length es ≡ n = length_entries ws n 1 in
            ap said_judged (judges ∙ ap (λ (k : ℕ). judged_by r (lowest_unmarked w.marks k)) (sym l))
            ∙ whole_judged es width room (ready_good ws places width n ready) (rw l (ready_few ws places width n ready)) is r em el whole_made;
        stands = λ m q.
            let x = whole_made.wrote m (stands_made r _ m (sym judges ∙ q)) in
            (x.next_is, rw el at x.within.1, x.words);
      }

pub measure_read : (ws places : List ℕ) (width n : ℕ) → Ready ws places width n → measure_of (read_table ws) ≡ survey_of (result (table_with (entries_at ws n 1) width)) 16384
unfolding measure_of
measure_read ws places width n ready = rw (ready_read ws places width n ready)

-- a table's fault is measuring's
pub measure_faulty : (ws : List ℕ) (r : Refusal) → Reads ws (Err r) → refused_as r ≡ measure_of (read_table ws)
unfolding measure_of survey_of
measure_faulty ws r reads = read_refused ws r reads measure_of (λ n p. refl)

-- ---- generating

-- a refusal says the same of a call that passes refusals on
passed_on : {A B : Type 0} (f : Outcome A → Outcome B) → ((n p : ℕ) → f (faulty n p) ≡ faulty n p) → ((n p w : ℕ) → f (refused n p w) ≡ refused n p w)
    → (r : Refusal) → f (refused_as r) ≡ refused_as r
passed_on f a b (refusal.Faulty n p) = a _ p
passed_on f a b refusal.NoFit = b 5 0 0
passed_on f a b (refusal.Ambiguous w) = b 6 0 w
passed_on f a b refusal.TooWide = b 7 0 0
passed_on f a b refusal.BadHeader = b 8 0 0
passed_on f a b (refusal.Damaged i) = b 9 i 0
passed_on f a b refusal.ShortBuffer = b 10 0 0
passed_on f a b refusal.NoEntry = b 11 0 0
passed_on f a b (refusal.Misfit i) = b 12 i 0
passed_on f a b (refusal.NotSelected w) = b 13 0 w
passed_on f a b refusal.BadTree = b 14 0 0
passed_on f a b refusal.BadTable = b 15 0 0
passed_on f a b refusal.BadImage = b 16 0 0
passed_on f a b (refusal.Full i) = b 17 i 0
passed_on f a b refusal.NoRoom = b 18 0 0
passed_on f a b (refusal.Unreached e) = b 19 e 0

-- what generating leaves where it answers no result
left_zero : (t : Table) (out : List ℕ) (o : Outcome ℕ) → ((n : ℕ) → o ≡ result n → ⊥) → replicate (length out) 0 ≡ left_by t o out
unfolding left_by
left_zero t out (result n) d = absurd (d n refl)
left_zero t out (faulty n p) d = refl
left_zero t out (refused n p w) d = refl

kept : (out : List ℕ) (o : Outcome Table) → ((t : Table) → o ≡ result t → ⊥) → out ≡ buffer_of o out
unfolding buffer_of
kept out (result t) d = absurd (d t refl)
kept out (faulty n p) d = refl
kept out (refused n p w) d = refl

pub generate_faulty : (ws out : List ℕ) (r : Refusal) → Reads ws (Err r) → Generates ws out out (Err r)
unfolding generate_of
generate_faulty ws out r reads =
    record {
      answer = read_refused ws r reads (λ o. generate_of o (length out)) (λ n p. refl);
      buffer = kept out (read_table ws) (λ t e. refused_no_result r t (read_refused ws r reads (λ o. o) (λ n p. refl) ∙ e));
    }

module _ (es : List Entry) (width : ℕ) (out : List ℕ) {limit : ℕ} (is : limit ≡ min (length out) 16384) {j : Result Made Refusal} {last : List ℕ}
    (judging : Judging j out last es width limit) where
  -- it answers what is judged
  answers : counted (said_judged j) ≡ generate_of (result (table_with es width)) (length out)
  answers = ap counted (judging.said (length out) is) ∙ sym (survey_generates (result (table_with es width)) (length out))

  -- a refusal leaves the buffer all zero
  pub cleared : {r : Refusal} → j ≡ Err r → WritesTree es width out (replicate (length out) 0) (Err r)
  unfolding buffer_of
  cleared {r} q =
      let e : refused_as r ≡ generate_of (result (table_with es width)) (length out)
      = sym (passed_on counted (λ n p. refl) (λ n p w. refl) r) ∙ ap (λ (x : Result Made Refusal). counted (said_judged x)) (sym q) ∙ answers in
      record { answer = e; buffer = left_zero (table_with es width) out _ (λ n g. refused_no_result r n (e ∙ g)) }

  -- where the tree stands, the header is set in what was written
  module _ {m : Made} (q : j ≡ Ok m) where
    header_set : (x : ℕ) → x ≡ header_word width (m.next - 1) → set last 0 x ≡ written width (tree es width) ++ drop (length (written width (tree es width))) out
    unfolding written
    header_set x ex =
        let g : Tree = tree es width in
        let (next_is, room, words) = judging.stands m q in
        ap (λ (l : List ℕ). set l 0 x) words
        ∙ set_sets (nodes 1 g) out 1 0 x (omega arith)
        ∙ sets-eq (x ∷ nodes 1 g) out 0 (omega (arith, is, room, next_is, length_nodes g 1))
        ∙ rw (zero-add (suc (length (nodes 1 g))), ex, next_is)
        (ap (λ (k : ℕ). header_word width k ∷ (nodes 1 g ++ drop (suc (length (nodes 1 g))) out)) (omega arith))

    pub stands_writes : (x : ℕ) → x ≡ header_word width (m.next - 1) → WritesTree es width out (set last 0 x) (Ok m.next)
    unfolding buffer_of left_by
    stands_writes x ex =
        let back : m.next - 1 + 1 ≡ m.next = omega (arith, (judging.stands m q).0) in
        let e : result m.next ≡ generate_of (result (table_with es width)) (length out) = ap result (sym back) ∙ sym (ap (λ (z : Result Made Refusal). counted (said_judged z)) q) ∙ answers in
        record { answer = e; buffer = rw (sym e) (header_set x ex) }

pub generate_read : (ws places before after : List ℕ) (width n : ℕ) (r : Result ℕ Refusal) → Ready ws places width n → WritesTree (entries_at ws n 1) width before after r
    → Generates ws before after r
generate_read ws places before after width n r ready w =
    record {
      answer = rw (ready_read ws places width n ready) w.answer;
      buffer = rw (ready_read ws places width n ready) w.buffer;
    }
