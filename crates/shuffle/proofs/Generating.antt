-- Generating from two tables, the entries of the one in the other's order: the words of the trees, and what is judged of them. Assumes nothing.
use Prim.Native.Nat.{ℕ, ◌+◌, ◌^◌, ◌<◌}
use native.Mathlib.Omega.{arith}
use mathlib.Core.Path.{◌≡◌, refl, sym, ap, ◌∙◌}
use mathlib.Core.Logic.Iff
use mathlib.Core.Logic.{◌↔◌}
use mathlib.Core.Bool.{Bool, true, false}
use mathlib.Core.List.{List, ◌++◌, map}
use mathlib.Core.Option.{Option, none, some, none-ne-some}
use lib.ListN.{length}
use Rattle.words.specs.Words.{word}
use Rattle.words.specs.Outcome.{Outcome, result, refused}
use Rattle.words.proofs.Outcomes.{not_refused, other_number}
use Rattle.table.specs.Table.{Table, kind_of}
use Rattle.choice.specs.Rule.{names}
use Rattle.cell.specs.Cell.{start}
use Rattle.flat.specs.Walk.{Walk, mask_of, walk_of}
use Rattle.tree.specs.Tree.{Tree, tree, size, answer, named, asked}
use Rattle.tree.specs.Written.{leaf_word, written}
use Rattle.tree.specs.Generate.{fits, judged, judged_in}
use Rattle.tree.proofs.Demand.{Sane}
use Rattle.tree.proofs.Paths.{Sound, sound_tree, walk_written}
use Rattle.tree.proofs.Reach.{leaf_exactly}
use Rattle.shuffle.specs.Shuffled.{Shuffled}
use Rattle.shuffle.specs.Moved.{moved_tree, moved_word, moved_walk, Alike}
use Rattle.shuffle.proofs.Permutations.{turned}
use Rattle.shuffle.proofs.Moving.{size_moved, conflict_moved, asked_moved, answer_moved, named_moved, written_moved, written_named}
use Rattle.shuffle.proofs.Shuffling.{all_moved, tree_shuffled}

-- ---- the words

module _ (t : Table) (sane : Sane t) (small : size (tree t.entries t.width) + 1 < 65536) where
  sound : Sound t.width (tree t.entries t.width)
  sound = sound_tree t.entries t.width sane.good sane.short

  -- a word of kind 9 is that of an entry
  pub names_entry_lem : (i : ℕ) → i < size (tree t.entries t.width) + 1 → kind_of (word (written t.width (tree t.entries t.width)) i) ≡ 9
      → (e : ℕ) × (e < length t.entries) × (word (written t.width (tree t.entries t.width)) i ≡ leaf_word (names e))
  names_entry_lem i h k =
      let (e, named, q) = written_named t.width sane.narrow (tree t.entries t.width) sound small i h k in
      let (w, l, c) = (leaf_exactly t.entries t.width sane.good e).0 named in
      (e, c.entry, q)

module _ (t u : Table) (wide : u.width ≡ t.width) (s : Shuffled t.entries u.entries) (sane : Sane t)
    (small : size (tree t.entries t.width) + 1 < 65536) where
  pub written_shuffled : written u.width (tree u.entries u.width) ≡ map (moved_word s.to) (written t.width (tree t.entries t.width))
  written_shuffled =
      rw (wide, tree_shuffled t.entries u.entries s t.width) (written_moved s.to t.width sane.narrow (tree t.entries t.width) (sound t sane small) small)

  -- each word walks by the same tests to the moved entry, whatever words follow the trees
  pub walks_shuffled : Sane u → (rest more : List ℕ) (w : ℕ) → w < 2 ^ t.width
      → (a : Walk) × (walk_of (written t.width (tree t.entries t.width) ++ rest) w ≡ result a)
      × (walk_of (written u.width (tree u.entries u.width) ++ more) w ≡ result (moved_walk s.to a))
  walks_shuffled sane-u rest more w h =
      let g : Tree = tree t.entries t.width in
      let moved : tree u.entries u.width ≡ moved_tree s.to g = ap (tree u.entries) wide ∙ tree_shuffled t.entries u.entries s t.width in
      let sound-u = sound_tree u.entries u.width sane-u.good sane-u.short in (
        record { entry = named (answer g w); count = length (asked g w); mask = mask_of (asked g w) },
        walk_written t.width g rest w sane.wide sane.narrow (omega (arith, small)) (sound t sane small) h,
        walk_written u.width (tree u.entries u.width) more w sane-u.wide sane-u.narrow (rw (moved, size_moved s.to g) (omega (arith, small))) sound-u (rw wide h)
            ∙ rw (moved, answer_moved s.to g w, asked_moved s.to g w, named_moved s.to (answer g w)),
      )

-- ---- what is judged

neither : {P Q : Type 0} → (P → ⊥) → (Q → ⊥) → P ↔ Q
neither f g = (λ p. absurd (f p), λ q. absurd (g q))

module _ {A : Type 0} where
  alike_same : (x : Outcome A) → Alike x x
  alike_same x = record { five = Iff.rfl; six = λ w. Iff.rfl; nineteen = Iff.rfl; answer = λ a. Iff.rfl }

  -- 19, with any place
  alike_lost : (e f : ℕ) → Alike {A = A} (refused 19 e 0) (refused 19 f 0)
  alike_lost e f =
      record {
        five = neither (λ q. other_number q (λ n. omega arith)) (λ q. other_number q (λ n. omega arith));
        six = λ w. neither (λ q. other_number q (λ n. omega arith)) (λ q. other_number q (λ n. omega arith));
        nineteen = (λ r. (f, refl), λ r. (e, refl));
        answer = λ a. neither (λ q. not_refused (sym q)) (λ q. not_refused (sym q));
      }

  alike_judged : (b : Bool) (o l m : Option ℕ) (a : A) → (l ≡ none → m ≡ none) → (m ≡ none → l ≡ none) → Alike (judged b o l a) (judged b o m a)
  unfolding judged
  alike_judged false o l m a f g = alike_same _
  alike_judged true (some w) l m a f g = alike_same _
  alike_judged true none (some e) (some i) a f g = alike_lost e i
  alike_judged true none (some e) none a f g = absurd (none-ne-some e (sym (g refl)))
  alike_judged true none none (some i) a f g = absurd (none-ne-some i (sym (f refl)))
  alike_judged true none none none a f g = alike_same _

-- the tree of each table in a room of so many words, with an answer that is the same of the moved tree
pub judged_shuffled : (t u : Table) → u.width ≡ t.width → (s : Shuffled t.entries u.entries) → (room : ℕ) {A : Type 0} (answer : Tree → A)
    → ((g : Tree) → answer (moved_tree s.to g) ≡ answer g)
    → Alike (judged_in t room (answer (tree t.entries t.width))) (judged_in u room (answer (tree u.entries u.width)))
unfolding fits
judged_shuffled t u wide s room answer same =
    let g : Tree = tree t.entries t.width in
    rw (wide, tree_shuffled t.entries u.entries s t.width, same g, size_moved s.to g, conflict_moved s.to g start)
    (alike_judged _ _ _ _ _ (all_moved t.entries u.entries s t.width) (all_moved u.entries t.entries (turned s) t.width))
