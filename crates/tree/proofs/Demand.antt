-- Demand 3, over the definitions that the calls' contracts cite. Assumes nothing.
--   `maker::generate` answers `generate_of (read_table ws) (length out)` and leaves `buffer_of (read_table ws) out` in the buffer,
--   for all lists of words ws and out; `walker::walk` answers `walk_of words w`, and `walker::walk_bytes` the same of the words of its bytes.
--     Right     what a walk is when it is right
--     right_walks     a walk is right whose header reads, and whose path names what the word selects and tests no bit twice
--     buffer_is, word_is, after_is, refused_zero, faulty_left     the buffer afterwards
--     faulty_first, five_exactly     what comes before ambiguity
--     refused_exactly, refused_word     ambiguity
--     clear_generated, neither_generated     when a tree is generated: it is refused neither by 6 nor by 19
--     walk_right     the walks of the tree that was written
use mathlib.Core.Path.{◌≡◌, refl, sym, ap, ◌∙◌, subst}
use mathlib.Core.Bool.{Bool, true, false}
use mathlib.Core.Logic.{◌↔◌}
use mathlib.Core.List.{List, [], ◌++◌, append-nil}
use mathlib.Core.Option.{Option, none, some}
use Prim.Native.Nat.{ℕ, ◌+◌, ◌^◌, ◌≤◌, ◌<◌}
use native.Mathlib.Omega.{arith}
use borrow.Author.Tests.{leb-true, le-leb}
use lib.Dec.{leb}
use lib.ListN.{length, take, drop, replicate, get_or-append}
use lib.Seq.{take_at, drop_at}
use Rattle.words.specs.Tests.{◌and◌, distinct}
use Rattle.words.specs.Words.{word}
use Rattle.words.proofs.Logic.{clash, is_false, and_l, and_r, and_i, options}
use Rattle.words.proofs.Outcomes.{not_refused, not_faulty, refused_not_faulty, other_number, faults_passed}
use Rattle.words.specs.Outcome.{Outcome, result, faulty, refused}
use Rattle.table.specs.Table.{Entry, Table, count_of, table_of}
use Rattle.table.specs.Check.{fine, table_check, read_table}
use Rattle.table.specs.Lawful.{good_table}
use Rattle.table.proofs.Laws.{then_l, first_count, first_wide, first_width, length_entries}
use Rattle.table.proofs.Views.{read_is}
use Rattle.table.proofs.Good.{table_good}
use Rattle.choice.specs.Rule.{Choice, names, nothing, ambiguous}
use Rattle.selection.specs.Selection.{select}
use Rattle.selection.proofs.Formula.{Selects, Unclaimed, Contested, names_exactly, nothing_exactly, ambiguous_exactly}
use Rattle.cell.specs.Cell.{start}
use Rattle.tree.specs.Tree.{Tree, tree, size, asked, named, conflict}
use Rattle.tree.specs.Written.{written}
use Rattle.tree.specs.Reach.{lowest_unreached}
use Rattle.tree.specs.Generate.{fits, judged, judged_in, generate_of, left_by, buffer_of}
use Rattle.flat.specs.Nodes.{good, header_of}
use Rattle.flat.specs.Walk.{arrives, path, mask_of, walk_of}
use Rattle.tree.proofs.Theorem.{tree_right, tree_short, tree_once, tree_conflict, tree_sound, conflict_found}
use Rattle.tree.proofs.Sizes.{length_nodes}
use Rattle.tree.proofs.Reach.{Reached, none_exactly}
use Rattle.tree.proofs.Paths.{sound_tree, header_whole, path_whole, walk_written}

-- a walk by w of these words, a tree of n nodes, is right
pub record Right (es : List Entry) (width n : ℕ) (words : List ℕ) (w : ℕ) : Type 0 where
  -- the word is not ambiguous: it selects an entry or nothing
  pub clear : select es w ≡ ambiguous → ⊥
  -- the words are those of a tree of the width with n nodes, so that the path is the walk's own
  pub header : header_of (word words 0) (length words) ≡ good width n
  -- the bits that w's path tests, in order, and what the path names
  pub tests : List ℕ
  pub walks : path n words width n w 1 ≡ arrives (named (select es w)) tests
  -- "the walk ends without a refusal"; "The count it reports equals the number of tests on that path"
  pub answers : walk_of words w ≡ result (record { entry = named (select es w); count = length tests; mask = mask_of tests })
  -- "It names an entry exactly when that entry is the selected one,": it claims the word and is more specific than every other that does
  pub selected : (e : ℕ) → (named (select es w) ≡ some e) ↔ Selects es w e
  -- "and names nothing exactly when no entry claims the word."
  pub unclaimed : (named (select es w) ≡ none) ↔ Unclaimed es w
  -- "Its path tests no bit twice."
  pub once : distinct tests ≡ true
  -- "and is at most the width."
  pub few : length tests ≤ width

-- ---- what a choice names

named_entry : (a : Choice) (e : ℕ) → named a ≡ some e → a ≡ names e
named_entry (names i) e q = let z : i ≡ e = cc in ap names z
named_entry nothing e q = absurd (let z : ◌≡◌ {A = ℕ} 0 1 = cc in omega arith)
named_entry ambiguous e q = absurd (let z : ◌≡◌ {A = ℕ} 0 1 = cc in omega arith)

named_nothing : (a : Choice) → (a ≡ ambiguous → ⊥) → named a ≡ none → a ≡ nothing
named_nothing (names i) h q = absurd (let z : ◌≡◌ {A = ℕ} 0 1 = cc in omega arith)
named_nothing nothing h q = refl
named_nothing ambiguous h q = absurd (h refl)

-- a path of these tests, and the walk that answers so
pub right_walks : (es : List Entry) (width n : ℕ) (words : List ℕ) (w : ℕ) (tests : List ℕ) → (select es w ≡ ambiguous → ⊥)
    → header_of (word words 0) (length words) ≡ good width n
    → path n words width n w 1 ≡ arrives (named (select es w)) tests
    → walk_of words w ≡ result (record { entry = named (select es w); count = length tests; mask = mask_of tests })
    → distinct tests ≡ true → length tests ≤ width → Right es width n words w
right_walks es width n words w tests clear header walks answers once few =
    let selects = names_exactly es w in
    let claimless = nothing_exactly es w in
    record {
      clear = clear;
      header = header;
      tests = tests;
      walks = walks;
      answers = answers;
      selected = λ (e : ℕ). (λ q. (selects e).0 (named_entry _ e q), λ q. ap named ((selects e).1 q));
      unclaimed = (λ q. claimless.0 (named_nothing _ clear q), λ q. ap named (claimless.1 q));
      once = once;
      few = few;
    }

-- ---- a table that was read

-- what reading has found of it
pub record Sane (t : Table) : Type 0 where
  pub good : good_table t.width t.entries ≡ true
  pub wide : 1 ≤ t.width
  pub narrow : t.width ≤ 32
  pub short : length t.entries ≤ 256

fine_sane : (ws : List ℕ) → table_check ws ≡ fine → Sane (table_of ws)
unfolding table_check
fine_sane ws e =
    let first = then_l _ _ e in
    record {
      good = table_good ws e;
      wide = first_wide ws first;
      narrow = first_width ws first;
      short = omega (arith, length_entries ws (count_of (word ws 0)) 1, first_count ws first);
    }

pub read_sane : (ws : List ℕ) (t : Table) → read_table ws ≡ result t → Sane t
read_sane ws t e = let r = read_is ws t e in subst Sane r.1 (fine_sane ws r.0)

-- ---- what an answer of generating tells of the tree

-- it fits, has no conflict, and every entry is reached
pub record Clear (fit : Bool) (clash lost : Option ℕ) : Type 0 where
  pub fits : fit ≡ true
  pub clean : clash ≡ none
  pub all : lost ≡ none

module _ {A : Type 0} where
  -- "Fit is decided before ambiguity."
  judged_five : (b : Bool) (o u : Option ℕ) (a : A) → (judged b o u a ≡ refused 5 0 0) ↔ (b ≡ false)
  unfolding judged
  judged_five false (some w) u a = (λ e. refl, λ e. refl)
  judged_five false none u a = (λ e. refl, λ e. refl)
  judged_five true (some w) (some i) a = (λ e. absurd (other_number e (λ z. omega arith)), λ e. clash refl e)
  judged_five true (some w) none a = (λ e. absurd (other_number e (λ z. omega arith)), λ e. clash refl e)
  judged_five true none (some i) a = (λ e. absurd (other_number e (λ z. omega arith)), λ e. clash refl e)
  judged_five true none none a = (λ e. absurd (not_refused e), λ e. clash refl e)

  judged_own : (b : Bool) (o u : Option ℕ) (a : A) (n p : ℕ) → judged b o u a ≡ faulty n p → ⊥
  unfolding judged
  judged_own false (some w) u a n p e = refused_not_faulty e
  judged_own false none u a n p e = refused_not_faulty e
  judged_own true (some w) (some i) a n p e = refused_not_faulty e
  judged_own true (some w) none a n p e = refused_not_faulty e
  judged_own true none (some i) a n p e = refused_not_faulty e
  judged_own true none none a n p e = not_faulty e

  pub judged_result : (b : Bool) (o u : Option ℕ) (a x : A) → judged b o u a ≡ result x → Clear b o u × (a ≡ x)
  unfolding judged
  judged_result false o u a x e = absurd (not_refused (sym e))
  judged_result true (some w) (some i) a x e = absurd (not_refused (sym e))
  judged_result true (some w) none a x e = absurd (not_refused (sym e))
  judged_result true none (some i) a x e = absurd (not_refused (sym e))
  judged_result true none none a x e = (record { fits = refl; clean = refl; all = refl }, cc)

  judged_clash : (b : Bool) (o u : Option ℕ) (a : A) (w : ℕ) → judged b o u a ≡ refused 6 0 w → o ≡ some w
  unfolding judged
  judged_clash false o u a w e = absurd (let z : ◌≡◌ {A = ℕ} 5 6 = cc in omega arith)
  judged_clash true (some v) (some i) a w e = let z : v ≡ w = cc in ap some z
  judged_clash true (some v) none a w e = let z : v ≡ w = cc in ap some z
  judged_clash true none (some i) a w e = absurd (let z : ◌≡◌ {A = ℕ} 19 6 = cc in omega arith)
  judged_clash true none none a w e = absurd (not_refused e)

  judged_lost : (b : Bool) (o u : Option ℕ) (a : A) (i : ℕ) → judged b o u a ≡ refused 19 i 0 → (b ≡ true) × (o ≡ none) × (u ≡ some i)
  unfolding judged
  judged_lost false o u a i e = absurd (let z : ◌≡◌ {A = ℕ} 5 19 = cc in omega arith)
  judged_lost true (some v) (some j) a i e = absurd (let z : ◌≡◌ {A = ℕ} 6 19 = cc in omega arith)
  judged_lost true (some v) none a i e = absurd (let z : ◌≡◌ {A = ℕ} 6 19 = cc in omega arith)
  judged_lost true none (some j) a i e = let z : j ≡ i = cc in (refl, refl, ap some z)
  judged_lost true none none a i e = absurd (not_refused e)

-- "Numbers 1–4 come from the first faulty place .. Then: generating 5, 6": a table's fault exactly where reading has it
pub faulty_first : (ws : List ℕ) (room n p : ℕ) → (generate_of (read_table ws) room ≡ faulty n p) ↔ (read_table ws ≡ faulty n p)
unfolding generate_of
faulty_first ws room n p =
    faults_passed (λ (o : Outcome Table). generate_of o room) (λ a b. refl) (λ a b x. refl) (λ t a b e. judged_own _ _ _ _ a b e) (read_table ws) n p

-- 1 to 4 leave "all" unchanged
pub faulty_left : (ws out : List ℕ) (n p : ℕ) → read_table ws ≡ faulty n p → buffer_of (read_table ws) out ≡ out
unfolding buffer_of
faulty_left ws out n p e = rw e

-- ---- the tree of a table that reads, in a room of so many words

module _ (ws : List ℕ) (t : Table) (reads : read_table ws ≡ result t) (room : ℕ) where
  -- the answer is what is judged of the tree
  answered : generate_of (read_table ws) room ≡ judged_in t room (size (tree t.entries t.width) + 1)
  unfolding generate_of
  answered = rw reads

  -- 5 exactly when it does not fit: "A tree fits when nodes + 1 is at most the buffer's length and at most 16,384; conflict leaves count."
  pub five_exactly : (generate_of (read_table ws) room ≡ refused 5 0 0)
      ↔ ((size (tree t.entries t.width) + 1 ≤ room) × (size (tree t.entries t.width) + 1 ≤ 16384) → ⊥)
  unfolding fits
  five_exactly =
      let n : ℕ = size (tree t.entries t.width) + 1 in
      let five = judged_five (leb n room and leb n 16384) (conflict start (tree t.entries t.width)) (lowest_unreached t.entries t.width) n in (
        λ e h. clash (and_i (le-leb n room h.0) (le-leb n 16384 h.1)) (five.0 (sym answered ∙ e)),
        λ h. answered ∙ five.1 (is_false (λ b. h (leb-true n room (and_l _ b), leb-true n 16384 (and_r _ b)))),
      )

  -- 19 tells that it fits, has no conflict, and that the entry is the lowest that no word selects;
  pub nineteen_judged : (e : ℕ) → generate_of (read_table ws) room ≡ refused 19 e 0
      → (fits (tree t.entries t.width) room ≡ true) × (conflict start (tree t.entries t.width) ≡ none) × (lowest_unreached t.entries t.width ≡ some e)
  nineteen_judged e q = judged_lost _ _ _ _ e (sym answered ∙ q)

  -- and where it fits and no word is ambiguous, this is all that is left to judge
  pub clear_judged : fits (tree t.entries t.width) room ≡ true → ((w : ℕ) → w < 2 ^ t.width → Contested t.entries w → ⊥)
      → {o : Option ℕ} → lowest_unreached t.entries t.width ≡ o → generate_of (read_table ws) room ≡ judged true none o (size (tree t.entries t.width) + 1)
  clear_judged f clear q =
      let clean : conflict start (tree t.entries t.width) ≡ none
      = options (conflict start (tree t.entries t.width))
      (λ c. c)
      (λ v c. let r = tree_conflict t.entries t.width (read_sane ws t reads).good v c in absurd (clear v r.1 ((ambiguous_exactly t.entries v).0 r.0))) in
      answered ∙ rw (f, clean, q)

module _ (ws out : List ℕ) (t : Table) (reads : read_table ws ≡ result t) where
  abbrev grown : Tree
  grown = tree t.entries t.width

  abbrev flat : List ℕ
  flat = written t.width grown

  sane : Sane t
  sane = read_sane ws t reads

  -- with no conflict its words walk right, whatever words follow them
  walks_right : conflict start grown ≡ none → size grown < 65536 → (rest : List ℕ) (w : ℕ) → w < 2 ^ t.width
      → Right t.entries t.width (size grown) (flat ++ rest) w
  walks_right clean small rest w h =
      let good = sane.good in
      let sound = sound_tree t.entries t.width good sane.short in
      right_walks t.entries t.width (size grown) (flat ++ rest) w (asked grown w)
      (tree_sound t.entries t.width good clean w)
      (header_whole t.width grown rest w sane.wide sane.narrow small sound)
      (rw (← (tree_right t.entries t.width good w)) (path_whole t.width grown rest w sane.wide sane.narrow small sound))
      (rw (← (tree_right t.entries t.width good w)) (walk_written t.width grown rest w sane.wide sane.narrow small sound h))
      (tree_once t.entries t.width good w)
      (tree_short t.entries t.width good w)

  module _ (n : ℕ) (generated : generate_of (read_table ws) (length out) ≡ result n) where
    pub judgement : Clear (fits grown (length out)) (conflict start grown) (lowest_unreached t.entries t.width) × (size grown + 1 ≡ n)
    judgement = judged_result _ _ _ (size grown + 1) n (sym (answered ws t reads (length out)) ∙ generated)

    -- it has as many words as were answered, and fits in 16 bits
    pub flat_length : length flat ≡ n
    unfolding written
    flat_length = omega (arith, length_nodes grown 1, judgement.1)

    pub flat_small : size grown + 1 < 65536
    unfolding fits
    flat_small = omega (arith, leb-true (size grown + 1) 16384 (and_r _ judgement.0.fits))

    -- "the tree written, which is that tree": document 01's, then the words that stood there; "The tree written is as many words, from the
    -- buffer's start, as generating returns"
    pub buffer_is : buffer_of (read_table ws) out ≡ flat ++ drop (length flat) out
    unfolding buffer_of left_by
    buffer_is = let g : generate_of (result t) (length out) ≡ result n = rw reads at generated in rw (reads, g)

    pub words_are : take n (buffer_of (read_table ws) out) ≡ flat ++ []
    words_are = ap (take n) buffer_is ∙ take_at flat (drop (length flat) out) n flat_length ∙ sym (append-nil flat)

    pub word_is : (i : ℕ) → i < n → word (buffer_of (read_table ws) out) i ≡ word flat i
    word_is i h = ap (λ (x : List ℕ). word x i) buffer_is ∙ get_or-append flat (drop (length flat) out) 0 i (rw flat_length h)

    -- "words after the tree are unchanged"
    pub after_is : drop n (buffer_of (read_table ws) out) ≡ drop n out
    after_is = ap (drop n) buffer_is ∙ drop_at flat (drop (length flat) out) n flat_length ∙ ap (λ (k : ℕ). drop k out) flat_length

    written_right : (rest : List ℕ) (w : ℕ) → w < 2 ^ t.width → Right t.entries t.width (size grown) (flat ++ rest) w
    written_right = walks_right judgement.0.clean (omega (arith, flat_small))

  -- a refusal leaves the "tree buffer all zero"
  left_zero : (r : Outcome ℕ) → ((n : ℕ) → r ≡ result n → ⊥) → left_by t r out ≡ replicate (length out) 0
  unfolding left_by
  left_zero (result n) h = absurd (h n refl)
  left_zero (faulty n p) h = refl
  left_zero (refused n p w) h = refl

  pub refused_zero : ((n : ℕ) → generate_of (read_table ws) (length out) ≡ result n → ⊥) → buffer_of (read_table ws) out ≡ replicate (length out) 0
  unfolding buffer_of
  refused_zero h = rw reads (left_zero (generate_of (result t) (length out)) (λ n q. h n (rw reads q)))

-- ---- demand 3: "Take any table that reads without fault and whose tree, as document 01 makes it, fits the lent buffer within the size limit."

module _ (ws out : List ℕ) (t : Table) (reads : read_table ws ≡ result t) where
  -- a conflict of the tree is a word of the width that is ambiguous, and there is one where such a word is
  conflict_word : (w : ℕ) → generate_of (read_table ws) (length out) ≡ refused 6 0 w → (w < 2 ^ t.width) × (select t.entries w ≡ ambiguous)
  conflict_word w e =
      let r = tree_conflict t.entries t.width (sane ws out t reads).good w (judged_clash _ _ _ _ w (sym (answered ws t reads (length out)) ∙ e)) in
      (r.1, r.0)

  word_conflict : fits (tree t.entries t.width) (length out) ≡ true → (w : ℕ) → select t.entries w ≡ ambiguous
      → (v : ℕ) × (generate_of (read_table ws) (length out) ≡ refused 6 0 v)
  unfolding judged
  word_conflict f w a =
      let c = conflict_found (tree t.entries t.width) start w (tree_right t.entries t.width (sane ws out t reads).good w ∙ a) in
      (c.0, answered ws t reads (length out) ∙ rw (c.1, f))

  -- "Generating is refused as ambiguous exactly when some word of the width is ambiguous: at least one entry claims it, and none of those that
  -- claim it is more specific than all the others."
  pub refused_exactly : fits (tree t.entries t.width) (length out) ≡ true
      → ((w : ℕ) × (generate_of (read_table ws) (length out) ≡ refused 6 0 w)) ↔ ((w : ℕ) × (w < 2 ^ t.width) × Contested t.entries w)
  refused_exactly f = (
    λ r. let c = conflict_word r.0 r.1 in (r.0, c.0, (ambiguous_exactly t.entries r.0).0 c.1),
    λ r. word_conflict f r.0 ((ambiguous_exactly t.entries r.0).1 r.2),
  )

  -- "The word returned is then such a word."
  pub refused_word : (w : ℕ) → generate_of (read_table ws) (length out) ≡ refused 6 0 w → (w < 2 ^ t.width) × Contested t.entries w
  refused_word w e = let c = conflict_word w e in (c.0, (ambiguous_exactly t.entries w).0 c.1)

  -- where there is none, and each entry is selected by some word of the width, the tree is generated, if it fits
  pub clear_generated : fits (tree t.entries t.width) (length out) ≡ true → ((w : ℕ) → w < 2 ^ t.width → Contested t.entries w → ⊥)
      → ((e : ℕ) → e < length t.entries → Reached t.entries t.width e)
      → generate_of (read_table ws) (length out) ≡ result (size (tree t.entries t.width) + 1)
  unfolding judged
  clear_generated f clear all = clear_judged ws t reads (length out) f clear ((none_exactly t.entries t.width).1 all)

  -- "every table that is refused neither by 6 nor by 19" has a tree, if that fits
  pub neither_generated : fits (tree t.entries t.width) (length out) ≡ true
      → ((w : ℕ) → generate_of (read_table ws) (length out) ≡ refused 6 0 w → ⊥) → ((e : ℕ) → generate_of (read_table ws) (length out) ≡ refused 19 e 0 → ⊥)
      → generate_of (read_table ws) (length out) ≡ result (size (tree t.entries t.width) + 1)
  unfolding judged
  neither_generated f six nineteen =
      let clear : (w : ℕ) → w < 2 ^ t.width → Contested t.entries w → ⊥ = λ w h c. let r = (refused_exactly f).1 (w, h, c) in six r.0 r.1 in
      options (lowest_unreached t.entries t.width)
      (λ q. clear_judged ws t reads (length out) f clear q)
      (λ e q. absurd (nineteen e (clear_judged ws t reads (length out) f clear q)))

  -- "Otherwise, whatever word of the width is walked through the tree written, which is that tree, the walk ends without a refusal." (that tree: `buffer_is`)
  -- in the whole buffer, and in the n words that were answered ("words lent after them change no walk")
  pub walk_right : (n : ℕ) → generate_of (read_table ws) (length out) ≡ result n → (w : ℕ) → w < 2 ^ t.width
      → Right t.entries t.width (size (tree t.entries t.width)) (buffer_of (read_table ws) out) w
      × Right t.entries t.width (size (tree t.entries t.width)) (take n (buffer_of (read_table ws) out)) w
  walk_right n e w h = (
    rw (buffer_is ws out t reads n e) (written_right ws out t reads n e _ w h),
    rw (words_are ws out t reads n e) (written_right ws out t reads n e [] w h),
  )
