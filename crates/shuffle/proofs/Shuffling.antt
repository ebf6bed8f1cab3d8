-- Two lists, the one in the other's order: what a word selects, who is reached, the tree. Assumes nothing.
--     select_shuffled, selects_shuffled     what a word selects is the moved entry
--     reached_moved, all_moved     an entry that some word selects; every entry is one
--     as_many     the two have as many entries
--     judge_shuffled     what is settled in a cell is the moved entry
--     tree_shuffled     the tree is the moved tree
use Prim.Native.Nat.{ℕ, zero, suc, ◌<◌}
use native.Mathlib.Nat.{le_antisymm}
use mathlib.Core.Path.{◌≡◌, refl, sym, ap, ap₂, ◌∙◌, fun_ext, subst}
use mathlib.Core.Bool.{Bool, true, false, cond}
use mathlib.Core.List.{List}
use mathlib.Core.Option.{none}
use lib.Dec.{eqb}
use lib.ListN.{length}
use Rattle.words.specs.Tests.{◌and◌, exists, how_many, best}
use Rattle.words.specs.Words.{bit}
use Rattle.words.proofs.Logic.{same, and_l}
use Rattle.table.specs.Table.{Entry, entry_number}
use Rattle.choice.specs.Rule.{Choice, names, nothing, ambiguous, moved_choice, selects, judge}
use Rattle.choice.proofs.Judging.{selects_names, names_selects}
use Rattle.choice.proofs.Within.{Within, Covers, some_moved, count_in, judge_moved}
use Rattle.selection.specs.Selection.{claims, select}
use Rattle.selection.proofs.Formula.{names_exactly}
use Rattle.selection.proofs.Within.{select_moved}
use Rattle.cell.specs.Cell.{Cell, start, zero_side, one_side, live, sure, open_entry}
use Rattle.cell.specs.Step.{Step, end, split, step_of, in_open, votes_at, wanted_at, tested_at, settled_at, step_at, step}
use Rattle.tree.specs.Tree.{Tree, leaf, test, grow, tree_of, below, tree}
use Rattle.tree.specs.Reach.{lowest_unreached}
use Rattle.tree.proofs.Reach.{Reached, none_exactly}
use Rattle.shuffle.specs.Shuffled.{Shuffled}
use Rattle.shuffle.specs.Moved.{moved_tree}
use Rattle.shuffle.proofs.Permutations.{turned}

-- each list lies within the other
pub within : (es fs : List Entry) (s : Shuffled es fs) → Within es fs s.to
within es fs s =
    record {
      inside = s.to_inside;
      once = λ d e h k q. sym (s.from_to d h) ∙ ap s.from q ∙ s.from_to e k;
      each = s.each;
    }

module _ (es fs : List Entry) (s : Shuffled es fs) where
  all_there : (q : Entry → Bool) → Covers es fs s.to q
  all_there q i h t = (s.from i, s.from_inside i h, s.to_from i h)

  -- ---- selection

  pub select_shuffled : (w : ℕ) → select fs w ≡ moved_choice s.to (select es w)
  select_shuffled w = select_moved es fs s.to (within es fs s) w (all_there (claims w))

  -- a word that selects an entry selects the moved one
  pub reached_moved : (width e : ℕ) → Reached es width e → Reached fs width (s.to e)
  reached_moved width e r =
      let (w, h, c) = r in
      (w, h, (names_exactly fs w (s.to e)).0 (select_shuffled w ∙ ap (moved_choice s.to) ((names_exactly es w e).1 c)))

  -- so every entry is reached in both
  pub all_moved : (width : ℕ) → lowest_unreached es width ≡ none → lowest_unreached fs width ≡ none
  all_moved width q =
      (none_exactly fs width).1
      (λ i h. subst (Reached fs width) (s.to_from i h) (reached_moved width (s.from i) ((none_exactly es width).0 q (s.from i) (s.from_inside i h))))

  -- ---- the bit to test: some entry passes in both, and as many do

  some_same : (q : Entry → Bool) → exists (λ j. q (entry_number fs j)) (length fs) ≡ exists (λ j. q (entry_number es j)) (length es)
  some_same q = some_moved es fs s.to (within es fs s) q (all_there q)

  count_same : (q : Entry → Bool) → how_many (λ j. q (entry_number fs j)) (length fs) ≡ how_many (λ j. q (entry_number es j)) (length es)
  count_same q = le_antisymm (count_in fs es s.from (within fs es (turned s)) q) (count_in es fs s.to (within es fs s) q)

  -- so there are as many entries
  all_pass : (n : ℕ) → how_many (λ i. true) n ≡ n
  unfolding how_many
  all_pass zero = refl
  all_pass (suc n) = ap suc (all_pass n)

  pub as_many : length fs ≡ length es
  as_many = sym (all_pass (length fs)) ∙ count_same (λ e. true) ∙ all_pass (length es)

  abbrev votes : List Entry → Cell → ℕ → ℕ
  votes l c = votes_at (entry_number l) (λ j. open_entry c (entry_number l j)) (length l) c.fixed

  abbrev wanted : List Entry → Cell → ℕ → ℕ
  wanted l c = wanted_at (entry_number l) (λ j. open_entry c (entry_number l j)) (length l) c

  votes_same : (c : Cell) (i : ℕ) → votes fs c i ≡ votes es c i
  unfolding votes_at
  votes_same c i = ap (λ (n : ℕ). cond (bit c.fixed i) 0 n) (count_same (λ e. open_entry c e and bit e.opcode.mask i))

  wanted_same : (c : Cell) (i : ℕ) → wanted fs c i ≡ wanted es c i
  unfolding wanted_at
  wanted_same c i = ap (λ (b : Bool). cond (bit c.fixed i) 0 (cond b 1 0)) (some_same (λ e. open_entry c e and in_open c i e))

  abbrev tested : List Entry → ℕ → Cell → ℕ
  tested l width c = tested_at (entry_number l) (λ j. open_entry c (entry_number l j)) (length l) width c

  tested_same : (width : ℕ) (c : Cell) → tested fs width c ≡ tested es width c
  unfolding tested_at
  tested_same width c =
      ap₂ (λ (v u : ℕ → ℕ). cond (eqb (v (best v width)) 0) (best u width) (best v width)) (fun_ext (votes_same c)) (fun_ext (wanted_same c))

  -- ---- the step

  pub judge_shuffled : (c : Cell) → judge fs (sure c) (live c) ≡ moved_choice s.to (judge es (sure c) (live c))
  unfolding sure
  judge_shuffled c = judge_moved es fs s.to (within es fs s) (sure c) (live c) (λ e t. and_l _ t) (all_there (live c))

  settled_moved : (c : Cell) → settled_at (entry_number fs) (length fs) c ≡ moved_choice s.to (settled_at (entry_number es) (length es) c)
  unfolding settled_at judge
  settled_moved = judge_shuffled

  abbrev moved_step : Step → Step
  moved_step (end a) = end (moved_choice s.to a)
  moved_step (split i) = split i

  step_of_moved : (a : Choice) (o : Bool) (i : ℕ) → step_of (moved_choice s.to a) o i ≡ moved_step (step_of a o i)
  step_of_moved (names e) o i = refl
  step_of_moved nothing o i = refl
  step_of_moved ambiguous true i = refl
  step_of_moved ambiguous false i = refl

  step_moved : (width : ℕ) (c : Cell) → step fs width c ≡ moved_step (step es width c)
  unfolding step step_at
  step_moved width c =
      rw (settled_moved c, some_same (open_entry c), tested_same width c)
      (step_of_moved (settled_at (entry_number es) (length es) c) (exists (λ j. open_entry c (entry_number es j)) (length es)) (tested es width c))

  -- ---- the tree

  grow_moved : (p : Step) (f g : Cell → Tree) (c : Cell) → ((d : Cell) → f d ≡ moved_tree s.to (g d))
      → grow (moved_step p) f c ≡ moved_tree s.to (grow p g c)
  unfolding moved_tree
  grow_moved (end a) f g c h = refl
  grow_moved (split i) f g c h = ap₂ (test i) (h (zero_side c i)) (h (one_side c i))

  below_moved : (width n : ℕ) (c : Cell) → tree_of fs width n c ≡ moved_tree s.to (tree_of es width n c)
  unfolding tree_of moved_tree
  below_moved width zero c = rw (step_moved width c) (grow_moved (step es width c) (λ d. leaf ambiguous) (λ d. leaf ambiguous) c (λ d. refl))
  below_moved width (suc n) c =
      rw (step_moved width c) (grow_moved (step es width c) (λ d. tree_of fs width n d) (λ d. tree_of es width n d) c (λ d. below_moved width n d))

  -- "the trees have the same tests and nothings", "and each leaf names the moved entry"
  pub tree_shuffled : (width : ℕ) → tree fs width ≡ moved_tree s.to (tree es width)
  unfolding tree below
  tree_shuffled width = below_moved width _ start

-- ---- an entry is selected exactly when the moved one is

pub selects_shuffled : (es fs : List Entry) (s : Shuffled es fs) (w e : ℕ) → e < length es → selects (select fs w) (s.to e) ≡ selects (select es w) e
selects_shuffled es fs s w e h =
    same
    (λ t. names_selects _ e (select_shuffled fs es (turned s) w ∙ ap (moved_choice s.from) (selects_names _ (s.to e) t) ∙ ap names (s.from_to e h)))
    (λ t. names_selects _ (s.to e) (select_shuffled es fs s w ∙ ap (moved_choice s.to) (selects_names _ e t)))
