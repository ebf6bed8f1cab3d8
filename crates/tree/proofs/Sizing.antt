-- Document 02, No. 2, sentence by sentence, over the definitions that the calls' contracts cite. Assumes nothing.
--   `maker::measure` answers `measure_of (read_table ws)`; `maker::generate` answers `generate_of (read_table ws) (length out)` and leaves
--   `buffer_of (read_table ws) out`; `walker::walk` answers `walk_of words w`.
--     sized_as_generated, refused_alike, sized_five, faulty_alike     sizing says what generating within the tree limit says
--     generated_sized     every table that generates into some buffer has a size
--     lend_exactly     the words to lend
--     none_deeper, some_deepest     the greatest number of tests
--     small     both numbers have room in 16 bits
use Prim.Native.Nat.{ℕ, ◌+◌, ◌^◌, ◌≤◌, ◌<◌}
use native.Mathlib.Nat.{lt_of_not-le}
use native.Mathlib.Omega.{arith}
use mathlib.Core.Path.{◌≡◌, refl, sym, ap, ◌∙◌}
use mathlib.Core.Bool.{Bool, true, false}
use mathlib.Core.Logic.{◌↔◌}
use mathlib.Core.List.{List, [], ◌++◌}
use mathlib.Core.Option.{Option, none, some}
use lib.ListN.{length, take}
use lib.Dec.{leb}
use borrow.Author.Tests.{leb-true, le-leb}
use Rattle.words.specs.Tests.{◌and◌}
use Rattle.words.specs.Outcome.{Outcome, result, faulty, refused}
use Rattle.words.proofs.Logic.{and_i, and_l, and_r, is_false}
use Rattle.table.specs.Table.{Table}
use Rattle.table.specs.Check.{read_table}
use Rattle.cell.specs.Cell.{start}
use Rattle.flat.specs.Walk.{Walk, walk_of}
use Rattle.tree.specs.Tree.{Tree, tree, size, depth, conflict}
use Rattle.tree.specs.Written.{written}
use Rattle.tree.specs.Reach.{lowest_unreached}
use Rattle.tree.specs.Generate.{fits, judged, generate_of, buffer_of, Measure, measured, survey_of, measure_of}
use Rattle.tree.proofs.Depth.{asked_few, tree_deepest, depth_few}
use Rattle.tree.proofs.Paths.{sound_tree, walk_written, walk_counts}
use Rattle.tree.proofs.Demand.{Clear, read_sane, judged_result, five_exactly, buffer_is, words_are}

-- ---- "The tree limit applies: over it the answer is 5, then 6 as in generating"

-- what generating says where sizing says this
abbrev pub counted : Outcome Measure → Outcome ℕ
counted (result m) = result (m.nodes + 1)
counted (faulty n p) = faulty n p
counted (refused n p w) = refused n p w

judged_counted : (g : Tree) (b : Bool) (o u : Option ℕ) → judged b o u (size g + 1) ≡ counted (judged b o u (measured g))
unfolding judged
judged_counted g false o u = refl
judged_counted g true (some w) u = refl
judged_counted g true none (some e) = refl
judged_counted g true none none = refl

-- sizing within a room says what generating into as many words says
pub survey_generates : (r : Outcome Table) (room : ℕ) → generate_of r room ≡ counted (survey_of r room)
unfolding generate_of survey_of
survey_generates (faulty n p) room = refl
survey_generates (refused n p w) room = refl
survey_generates (result t) room = let g : Tree = tree t.entries t.width in judged_counted g (fits g room) (conflict start g) _

-- the same of the tree limit: it answers where generating into 16,384 words does, and is refused exactly as that is, with the same word
pub sized_as_generated : (ws : List ℕ) → generate_of (read_table ws) 16384 ≡ counted (measure_of (read_table ws))
unfolding measure_of
sized_as_generated ws = survey_generates (read_table ws) 16384

counted_refused : (r : Outcome Measure) (n p w : ℕ) → counted r ≡ refused n p w → r ≡ refused n p w
counted_refused (result m) n p w e = cc
counted_refused (faulty a b) n p w e = cc
counted_refused (refused a b c) n p w e = cc

counted_faulty : (r : Outcome Measure) (n p : ℕ) → counted r ≡ faulty n p → r ≡ faulty n p
counted_faulty (result m) n p e = cc
counted_faulty (faulty a b) n p e = cc
counted_faulty (refused a b c) n p e = cc

pub refused_alike : (ws : List ℕ) (n p w : ℕ) → (measure_of (read_table ws) ≡ refused n p w) ↔ (generate_of (read_table ws) 16384 ≡ refused n p w)
refused_alike ws n p w = (λ e. sized_as_generated ws ∙ ap counted e, λ e. counted_refused _ n p w (sym (sized_as_generated ws) ∙ e))

-- "over it the answer is 5"
pub sized_five : (ws : List ℕ) (t : Table) → read_table ws ≡ result t
    → (measure_of (read_table ws) ≡ refused 5 0 0) ↔ (16384 < size (tree t.entries t.width) + 1)
sized_five ws t reads =
    let five = five_exactly ws t reads 16384 in (
      λ e. lt_of_not-le (λ h. five.0 ((refused_alike ws 5 0 0).0 e) (h, h)),
      λ h. (refused_alike ws 5 0 0).1 (five.1 (λ k. omega (arith, k.0))),
    )

pub faulty_alike : (ws : List ℕ) (n p : ℕ) → (measure_of (read_table ws) ≡ faulty n p) ↔ (generate_of (read_table ws) 16384 ≡ faulty n p)
faulty_alike ws n p = (λ e. sized_as_generated ws ∙ ap counted e, λ e. counted_faulty _ n p (sym (sized_as_generated ws) ∙ e))

-- what generates into a buffer of any length has a size, and that number of nodes: with `lend_exactly`, sizing answers exactly where
-- generating into some buffer succeeds
pub generated_sized : (ws : List ℕ) (t : Table) → read_table ws ≡ result t → (room n : ℕ) → generate_of (read_table ws) room ≡ result n
    → (m : Measure) × (measure_of (read_table ws) ≡ result m) × (m.nodes + 1 ≡ n)
unfolding generate_of measure_of survey_of judged fits
generated_sized ws t reads room n e =
    let g : Tree = tree t.entries t.width in
    let j = judged_result (leb (size g + 1) room and leb (size g + 1) 16384) _ _ (size g + 1) n (rw reads at e) in
    let within : leb (size g + 1) 16384 and leb (size g + 1) 16384 ≡ true = and_i (and_r _ j.0.fits) (and_r _ j.0.fits) in
    (measured g, rw (reads, within, j.0.clean, j.0.all), j.1)

-- ---- a table that is sized

module _ (ws : List ℕ) (t : Table) (reads : read_table ws ≡ result t) (m : Measure) (sized : measure_of (read_table ws) ≡ result m) where
  abbrev grown : Tree
  grown = tree t.entries t.width

  -- it fits within the limit, has no conflict and reaches every entry, and the two numbers are its own
  of_tree : Clear (fits grown 16384) (conflict start grown) (lowest_unreached t.entries t.width) × (measured grown ≡ m)
  unfolding measure_of survey_of
  of_tree = judged_result _ _ _ (measured grown) m (rw reads at sized)

  nodes_are : size grown ≡ m.nodes
  nodes_are = ap (λ (x : Measure). x.nodes) of_tree.1

  tests_are : depth grown ≡ m.tests
  tests_are = ap (λ (x : Measure). x.tests) of_tree.1

  within : size grown + 1 ≤ 16384
  unfolding fits
  within = leb-true (size grown + 1) 16384 (and_r _ of_tree.0.fits)

  roomy : (room : ℕ) → m.nodes + 1 ≤ room → fits grown room ≡ true
  unfolding fits
  roomy room h = let a : size grown + 1 ≤ room = omega (arith, nodes_are) in and_i (le-leb _ _ a) (le-leb _ _ within)

  tight : (room : ℕ) → room ≤ m.nodes → fits grown room ≡ false
  unfolding fits
  tight room h = is_false (λ e. let a = leb-true (size grown + 1) room (and_l _ e) in omega (arith, nodes_are))

  -- "the number of nodes that generating writes", so that boards "lend exactly what is needed": into nodes + 1 words or more generating
  -- succeeds and returns nodes + 1, into fewer it is 5
  pub lend_exactly : (room : ℕ)
      → (m.nodes + 1 ≤ room → generate_of (read_table ws) room ≡ result (m.nodes + 1)) × (room ≤ m.nodes → generate_of (read_table ws) room ≡ refused 5 0 0)
  unfolding generate_of judged
  lend_exactly room = (λ h. rw (reads, roomy room h, of_tree.0.clean, of_tree.0.all, nodes_are), λ h. rw (reads, tight room h))

  -- each has its place in 64 bits
  pub small : (m.nodes < 16384) × (m.tests ≤ 32)
  small =
      let s = read_sane ws t reads in
      (omega (arith, within, nodes_are), omega (arith, s.narrow, tests_are, depth_few t.entries t.width s.good))

  -- ---- "the greatest number of tests on a path to any leaf"

  abbrev flat : List ℕ
  flat = written t.width grown

  few : (rest : List ℕ) (w : ℕ) (a : Walk) → walk_of (flat ++ rest) w ≡ result a → a.count ≤ m.tests
  few rest w a e =
      let s = read_sane ws t reads in
      let counts = walk_counts t.width grown rest w s.wide s.narrow (omega (arith, within)) (sound_tree t.entries t.width s.good s.short) a e in
      omega (arith, counts, asked_few grown w, tests_are)

  longest : (w : ℕ) × (w < 2 ^ t.width) × (a : Walk) × ((rest : List ℕ) → walk_of (flat ++ rest) w ≡ result a) × (a.count ≡ m.tests)
  longest =
      let s = read_sane ws t reads in
      let (w, h, d) = tree_deepest t.entries t.width s.good in
      let sound = sound_tree t.entries t.width s.good s.short in
      (w, h, _, λ rest. walk_written t.width grown rest w s.wide s.narrow (omega (arith, within)) sound h, d ∙ tests_are)

  -- of the tree that generating writes into a buffer that is long enough: in the whole buffer, and in the nodes + 1 words that were answered
  module _ (out : List ℕ) (room : m.nodes + 1 ≤ length out) where
    abbrev buffer : List ℕ
    buffer = buffer_of (read_table ws) out

    abbrev own : List ℕ
    own = take (m.nodes + 1) buffer

    generated : generate_of (read_table ws) (length out) ≡ result (m.nodes + 1)
    generated = (lend_exactly (length out)).0 room

    -- "No walk tests more than the greatest number"
    pub none_deeper : (w : ℕ) (a : Walk) → (walk_of buffer w ≡ result a → a.count ≤ m.tests) × (walk_of own w ≡ result a → a.count ≤ m.tests)
    none_deeper w a = (
      λ e. few _ w a (rw (buffer_is ws out t reads _ generated) at e),
      λ e. few [] w a (rw (words_are ws out t reads _ generated) at e),
    )

    -- "and some word of the width tests that many"
    pub some_deepest : (w : ℕ) × (w < 2 ^ t.width) × (a : Walk) × (walk_of buffer w ≡ result a) × (walk_of own w ≡ result a) × (a.count ≡ m.tests)
    some_deepest =
        let (w, h, a, walks, deep) = longest in
        (w, h, a, rw (buffer_is ws out t reads _ generated) (walks _), rw (words_are ws out t reads _ generated) (walks []), deep)
