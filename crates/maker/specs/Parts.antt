-- What the makers' parts say, for the proofs alone.
use Rattle.std.specs.Prelude.{ℕ, ◌+◌, ◌-◌, ◌≤◌, ◌<◌, min, max, ◌≡◌, Bool, true, false, not, List, length, get_or, set, Option, None, Some, Result, Ok, Err}
use Rattle.std.specs.Option.{option_or}
use Rattle.std.proofs.Math.Option as maybe
use Rattle.std.proofs.lemmas.List.Edits.{sets}
use Rattle.words.specs.Tests.{first as lowest}
use Rattle.words.specs.Outcome.{Outcome, result, said_as}
use Rattle.words.specs.declared.Refusal.{Refusal}
use Rattle.words.specs.declared.Refusal.TheVariants.{NoFit, Ambiguous, Unreached}
use Rattle.table.specs.Table.{Entry}
use Rattle.choice.specs.Rule.{Choice, names, nothing, ambiguous}
use Rattle.cell.specs.Cell.{Cell, zero_side, one_side}
use Rattle.tree.specs.Tree.{Tree, leaf, test, below, tree, size, depth, conflict}
use Rattle.tree.specs.Written.{nodes}
use Rattle.tree.specs.Generate.{table_with, generate_of, buffer_of, Measure, survey_of}
use Rattle.maker.specs.Answers.{said_generate}
use Rattle.maker.specs.declared.Made.{Made}
use Rattle.maker.specs.declared.Writer.{Writer}

-- generating, of the tree of entries that are read
pub record WritesTree (es : List Entry) (width : ℕ) (before after : List ℕ) (r : Result ℕ Refusal) : Type 0 where
  pub answer : said_generate r ≡ generate_of (result (table_with es width)) (length before)
  pub buffer : after ≡ buffer_of (result (table_with es width)) before

-- the tree of a cell in which bit b is tested
abbrev pub split_of : List Entry → ℕ → Cell → ℕ → Tree
split_of es width c b = test b (below es width (zero_side c b)) (below es width (one_side c b))

-- the first conflict, as the code has it
abbrev pub first_of : maybe.Option ℕ → Option ℕ
first_of maybe.none = None
first_of (maybe.some w) = Some w

-- a leaf, made at an index
abbrev pub made_leaf : ℕ → Option ℕ → Made
made_leaf at first = record { next = at + 1; first = first; tests = 0 }

-- a test, made of its sides
abbrev pub made_test : Made → Made → Made
made_test zero one = record { next = one.next; first = option_or zero.first one.first; tests = max zero.tests one.tests + 1 }

-- an entry that a leaf names is marked
abbrev pub marked : Choice → List Bool → List Bool
marked (names e) marks = set marks e true
marked nothing marks = marks
marked ambiguous marks = marks

-- the marks after a tree's leaves
unfoldable pub marks_of : Tree → List Bool → List Bool
marks_of (leaf a) marks = marked a marks
marks_of (test i l r) marks = marks_of r (marks_of l marks)

-- the tree t of the cell c was written from index `at` on, as far as the buffer reaches: the next index, the first conflict, the
-- greatest number of tests, the words, and the marks
pub record Written (before after : List ℕ) (unmarked marks : List Bool) (t : Tree) (c : Cell) (at limit : ℕ) (m : Made) : Type 0 where
  pub room : at + size t ≤ limit
  pub within : (at < m.next) × (m.next ≤ limit) × (m.tests < limit)
  pub next_is : m.next ≡ at + size t
  pub first_is : m.first ≡ first_of (conflict c t)
  pub depth_is : m.tests ≡ depth t
  pub words : after ≡ sets before at (nodes at t)
  pub marks_are : marks ≡ marks_of t unmarked

-- what a maker says of the tree t: written, or it does not fit; words that it wrote before it knew are of the buffer that is cleared
pub record Making (r : Option Made) (v w : Writer) (t : Tree) (c : Cell) (at : ℕ) : Type 0 where
  pub full : r ≡ None → v.limit < at + size t
  pub wrote : (m : Made) → r ≡ Some m → Written v.out.now w.out.now v.marks w.marks t c at v.limit m

-- a writer is left with its own buffer and limit, and with as many marks
pub record SameRoom (v w : Writer) : Type 0 where
  pub buffer : w.out.ghost_name ≡ v.out.ghost_name
  pub limit : w.limit ≡ v.limit
  pub marks : length w.marks ≡ length v.marks

-- ---- what is judged of a whole tree

-- the lowest of n entries that has no mark
abbrev pub lowest_unmarked : List Bool → ℕ → maybe.Option ℕ
lowest_unmarked marks n = lowest (λ e. not (get_or marks e false)) n

-- by the first conflict, then by the lowest entry without a mark
unfoldable pub judged_made : Option ℕ → maybe.Option ℕ → Made → Result Made Refusal
judged_made (Some w) o m = Err (Ambiguous w)
judged_made None (maybe.some e) m = Err (Unreached e)
judged_made None maybe.none m = Ok m

-- from what the maker answers, and the lowest entry without a mark
unfoldable pub judged_by : Option Made → maybe.Option ℕ → Result Made Refusal
judged_by None o = Err NoFit
judged_by (Some m) o = judged_made m.first o m

-- the size of what was made from index 1 on
abbrev pub size_by : Made → Measure
size_by m = record { nodes = m.next - 1; tests = m.tests }

-- what sizing says of it
abbrev pub said_judged : Result Made Refusal → Outcome Measure
said_judged r = said_as size_by r

-- the tree of entries was made below the limit, and is judged as sizing in such a room judges it; where it stands, it was written
pub record Judging (r : Result Made Refusal) (before after : List ℕ) (es : List Entry) (width limit : ℕ) : Type 0 where
  pub said : (room : ℕ) → limit ≡ min room 16384 → said_judged r ≡ survey_of (result (table_with es width)) room
  pub stands : (m : Made) → r ≡ Ok m
      → (m.next ≡ 1 + size (tree es width)) × (m.next ≤ limit) × (after ≡ sets before 1 (nodes 1 (tree es width)))
