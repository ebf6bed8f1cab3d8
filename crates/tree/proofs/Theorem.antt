-- The tree of a table decides every word as selection does.
use Prim.Native.Nat.{ℕ, zero, suc, ◌≤◌, ◌<◌, ◌^◌, zero-le, suc-le-suc}
use native.Mathlib.Nat.{le_refl, le_trans, le_of_eq}
use native.Mathlib.Omega.{arith}
use mathlib.Core.Path.{◌≡◌, refl, sym, ap, ap₂, ◌∙◌, subst}
use mathlib.Core.Bool.{true, false, not, false≢true}
use borrow.Author.Tests.{eqb-true}
use mathlib.Core.List.{List, [], ◌∷◌}
use mathlib.Core.Option.{Option, none, some, or_else}
use lib.Bits.{bit_or, and_comm, or_lt, and_zero_r, or_zero_r}
use lib.Dec.{eqb}
use lib.Pow.{pow-lt, pow_pos}
use lib.ListN.{length}
use Rattle.words.specs.Tests.{◌or◌, is_in, distinct}
use Rattle.words.specs.Words.{bit}
use Rattle.table.specs.Lawful.{good_table}
use Rattle.table.specs.Table.{Entry, entry_number}
use Rattle.choice.specs.Rule.{Choice, names, nothing, ambiguous, judge}
use Rattle.selection.specs.Selection.{claims, select}
use Rattle.cell.specs.Cell.{Cell, start, zero_side, one_side, live, sure, open_entry}
use Rattle.cell.specs.Step.{Step, end, split, free, step}
use Rattle.tree.specs.Tree.{Tree, leaf, test, tree_of, below, tree, answer, asked, conflict, if_conflict}
use Rattle.words.proofs.Bits.{bit_and_lem, bit_or_lem, bit_pow, and_or, and_pow}
use Rattle.words.proofs.Logic.{cases, options, clash, is_false, same, and_i, and_r, or_l, or_ir, or_e, not_it, exists_none, how_many_le}
use Rattle.choice.proofs.Judging.{answers, judge_names, judge_nothing, judge_same}
use Rattle.cell.proofs.Cells.{In, sure_claims, claims_live, closed_sure, step_end, split_right, in_zero, in_one, free_less}

-- by cases on a step
steps {ℓ} : {G : Type ℓ} (s : Step) → ((a : Choice) → s ≡ end a → G) → ((i : ℕ) → s ≡ split i → G) → G
steps (end a) f g = f a refl
steps (split i) f g = g i refl

-- the cell's own bits stay in it
pub own_zero : (c : Cell) (i : ℕ) → bit c.fixed i ≡ false → In c c.bits → In (zero_side c i) c.bits
own_zero c i f h =
    in_zero c i c.bits h (is_false (λ t. clash (and_r _ (sym (bit_and_lem c.bits c.fixed i) ∙ ap (λ (x : ℕ). bit x i) h ∙ t)) f))

-- and so with an unfixed bit more
pub own_in : (c : Cell) (i : ℕ) → bit c.fixed i ≡ false → In c c.bits → In c (bit_or c.bits (2 ^ i))
own_in c i f h =
    and_comm (bit_or c.bits (2 ^ i)) c.fixed ∙ and_or c.fixed c.bits (2 ^ i)
    ∙ ap₂ bit_or (and_comm c.fixed c.bits ∙ h) (and_pow c.fixed i ∙ rw f) ∙ or_zero_r c.bits

pub own_one : (c : Cell) (i : ℕ) → bit c.fixed i ≡ false → In c c.bits → In (one_side c i) (bit_or c.bits (2 ^ i))
own_one c i f h = in_one c i (bit_or c.bits (2 ^ i)) (own_in c i f h) (bit_or_lem c.bits (2 ^ i) i ∙ or_ir _ (bit_pow i))

-- ---- the bits that a path tests

-- bits below the width, none of them fixed, and none twice
pub record Fresh (width fixed : ℕ) (bs : List ℕ) : Type 0 where
  pub below : (i : ℕ) → is_in i bs ≡ true → i < width
  pub unfixed : (i : ℕ) → is_in i bs ≡ true → bit fixed i ≡ false
  pub once : distinct bs ≡ true

pub fresh_none : (width fixed : ℕ) → Fresh width fixed []
unfolding is_in distinct
fresh_none width fixed = record { below = λ i e. absurd (false≢true e); unfixed = λ i e. absurd (false≢true e); once = refl }

-- an unfixed bit i, then bits that are fresh where i is fixed too
pub fresh_more : (width fixed i : ℕ) (bs : List ℕ) → i < width → bit fixed i ≡ false → Fresh width (bit_or fixed (2 ^ i)) bs → Fresh width fixed (i ∷ bs)
unfolding is_in distinct
fresh_more width fixed i bs h f r =
    record {
      below = λ j e. here j e (λ q. rw q h) (r.below j);
      unfixed = λ j e. here j e (λ q. rw q f) (λ t. or_l _ (sym (bit_or_lem fixed (2 ^ i) j) ∙ r.unfixed j t));
      once = and_i (not_it (is_false (λ t. clash (or_ir _ (bit_pow i)) (sym (bit_or_lem fixed (2 ^ i) i) ∙ r.unfixed i t)))) r.once;
    }
  where
    here : {G : Type 0} (j : ℕ) → eqb j i or is_in j bs ≡ true → (j ≡ i → G) → (is_in j bs ≡ true → G) → G
    here j e p q = cases (eqb j i) (λ t. p (eqb-true j i t)) (λ t. q (or_e e t))

-- ---- what the tree below a cell answers

module _ (es : List Entry) (width : ℕ) (good : good_table width es ≡ true) where
  -- a leaf's answer is the selection of every word of its cell
  pub leaf_right : (c : Cell) (a : Choice) → step es width c ≡ end a → (w : ℕ) → In c w → select es w ≡ a
  unfolding select
  leaf_right c a e w h =
      let r = step_end es width c a e in
      answers (judge es (sure c) (live c))
      (λ i k. judge_names es (sure c) (live c) (claims w) (sure_claims c w h) (claims_live c w h) i k ∙ sym k ∙ r.0)
      (λ k. judge_nothing es (sure c) (live c) (claims w) (sure_claims c w h) (claims_live c w h) k ∙ sym k ∙ r.0)
      (λ k.
      let shut : (i : ℕ) → i < length es → open_entry c (entry_number es i) ≡ false = exists_none (λ j. open_entry c (entry_number es j)) (length es) (r.1 k) in
      sym (judge_same es (sure c) (live c) (claims w)
      (λ i l. same (sure_claims c w h (entry_number es i)) (λ t. closed_sure c (entry_number es i) (shut i l) (claims_live c w h (entry_number es i) t)))
      (λ i l. same (λ t. sure_claims c w h (entry_number es i) (closed_sure c (entry_number es i) (shut i l) t)) (claims_live c w h (entry_number es i))))
      ∙ r.0)

  -- what leaves have, and tests have of their sides, the tree has
  pub induct : (P : Cell → Tree → Type 0)
      → ((c : Cell) (a : Choice) → step es width c ≡ end a → P c (leaf a))
      → ((c : Cell) (i : ℕ) (l r : Tree) → step es width c ≡ split i → i < width → bit c.fixed i ≡ false → P (zero_side c i) l → P (one_side c i) r → P c (test i l r))
      → (n : ℕ) (c : Cell) → free width c.fixed ≤ n → P c (tree_of es width n c)
  unfolding tree_of
  induct P on_leaf on_test zero c h =
      steps (step es width c)
      (λ a e. rw e (on_leaf c a e))
      (λ i e. let s = split_right es width good c i e in absurd (let k = free_less c i width s.0 s.1 in omega arith))
  induct P on_leaf on_test (suc n) c h =
      steps (step es width c)
      (λ a e. rw e (on_leaf c a e))
      (λ i e. let s = split_right es width good c i e in
      let k : free width (bit_or c.fixed (2 ^ i)) ≤ n = let z = free_less c i width s.0 s.1 in omega arith in
      rw e (on_test c i _ _ e s.0 s.1 (induct P on_leaf on_test n (zero_side c i) k) (induct P on_leaf on_test n (one_side c i) k)))

  module _ (n : ℕ) (c : Cell) (fuel : free width c.fixed ≤ n) where
    -- every word of the cell is answered as it is selected
    pub right : (w : ℕ) → In c w → answer (tree_of es width n c) w ≡ select es w
    unfolding answer
    right =
        induct (λ c t. (w : ℕ) → In c w → answer t w ≡ select es w)
        (λ c a e w h. sym (leaf_right c a e w h))
        (λ c i l r e b f zs os w h. cases (bit w i) (λ t. rw t (os w (in_one c i w h t))) (λ t. rw t (zs w (in_zero c i w h t))))
        n c fuel

    -- in at most as many tests as there are unfixed bits
    pub short : (w : ℕ) → length (asked (tree_of es width n c) w) ≤ free width c.fixed
    unfolding asked
    short =
        induct (λ c t. (w : ℕ) → length (asked t w) ≤ free width c.fixed)
        (λ c a e w. zero-le)
        (λ c i l r e b f zs os w.
        let k = free_less c i width b f in
        cases (bit w i)
        (λ t. rw t (le_trans (suc-le-suc (os w)) (le_of_eq k)))
        (λ t. rw t (le_trans (suc-le-suc (zs w)) (le_of_eq k))))
        n c fuel

    -- of bits of the word, none of them fixed, and none twice
    pub no_twice : (w : ℕ) → Fresh width c.fixed (asked (tree_of es width n c) w)
    unfolding asked
    no_twice =
        induct (λ c t. (w : ℕ) → Fresh width c.fixed (asked t w))
        (λ c a e w. fresh_none width c.fixed)
        (λ c i l r e b f zs os w.
        cases (bit w i)
        (λ t. rw t (fresh_more width c.fixed i _ b f (os w)))
        (λ t. rw t (fresh_more width c.fixed i _ b f (zs w))))
        n c fuel

    -- the word of a first conflict is ambiguous, if the cell's own bits are in it
    pub conflict_right : In c c.bits → c.bits < 2 ^ width → (w : ℕ) → conflict c (tree_of es width n c) ≡ some w
        → (select es w ≡ ambiguous) × (w < 2 ^ width)
    unfolding conflict or_else
    conflict_right =
        induct (λ c t. In c c.bits → c.bits < 2 ^ width → (w : ℕ) → conflict c t ≡ some w → (select es w ≡ ambiguous) × (w < 2 ^ width))
        (λ c a e h b w k. on_leaf c a (leaf_right c a e c.bits h) b w k)
        (λ c i l r e b f zs os h lt w k.
        options (conflict (zero_side c i) l)
        (λ n. os (own_one c i f h) (or_lt width c.bits (2 ^ i) lt (pow-lt b)) w (subst (λ (o : Option ℕ). or_else o (conflict (one_side c i) r) ≡ some w) n k))
        (λ x n. zs (own_zero c i f h) lt w (n ∙ subst (λ (o : Option ℕ). or_else o (conflict (one_side c i) r) ≡ some w) n k)))
        n c fuel
      where
        on_leaf : (c : Cell) (a : Choice) → select es c.bits ≡ a → c.bits < 2 ^ width → (w : ℕ) → if_conflict a c.bits ≡ some w
            → (select es w ≡ ambiguous) × (w < 2 ^ width)
        on_leaf c (names i) e b w k = absurd (let z : ◌≡◌ {A = ℕ} 0 1 = cc in omega arith)
        on_leaf c nothing e b w k = absurd (let z : ◌≡◌ {A = ℕ} 0 1 = cc in omega arith)
        on_leaf c ambiguous e b w k = let q : c.bits ≡ w = cc in subst (λ (x : ℕ). (select es x ≡ ambiguous) × (x < 2 ^ width)) q (e, b)

-- a walk that ends in a conflict: the tree has a first conflict
pub conflict_found : (t : Tree) (c : Cell) (w : ℕ) → answer t w ≡ ambiguous → (x : ℕ) × (conflict c t ≡ some x)
unfolding answer conflict or_else
conflict_found (leaf a) c w e = (c.bits, rw e)
conflict_found (test i l r) c w e =
    options (conflict (zero_side c i) l)
    (λ n. cases (bit w i)
    (λ t. let s = conflict_found r (one_side c i) w (rw t at e) in (s.0, rw n s.1))
    (λ t. let s = conflict_found l (zero_side c i) w (rw t at e) in absurd (let z : ◌≡◌ {A = ℕ} 0 1 = cc in omega arith)))
    (λ x s. (x, rw s))

-- ---- the tree below a cell, by steps

module _ (es : List Entry) (width : ℕ) (good : good_table width es ≡ true) where
  tree_leaf : (n : ℕ) (c : Cell) (a : Choice) → step es width c ≡ end a → tree_of es width n c ≡ leaf a
  unfolding tree_of
  tree_leaf zero c a e = rw e
  tree_leaf (suc n) c a e = rw e

  pub below_end : (c : Cell) (a : Choice) → step es width c ≡ end a → below es width c ≡ leaf a
  unfolding below
  below_end c a e = tree_leaf (free width c.fixed) c a e

  tree_test : (n : ℕ) (c : Cell) (i : ℕ) → step es width c ≡ split i → tree_of es width (suc n) c ≡ test i (tree_of es width n (zero_side c i)) (tree_of es width n (one_side c i))
  unfolding tree_of
  tree_test n c i e = rw e

  pub below_split : (c : Cell) (i : ℕ) → step es width c ≡ split i → below es width c ≡ test i (below es width (zero_side c i)) (below es width (one_side c i))
  unfolding below
  below_split c i e =
      let s = split_right es width good c i e in
      ap (λ (n : ℕ). tree_of es width n c) (sym (free_less c i width s.0 s.1)) ∙ tree_test _ c i e

  -- more fuel changes nothing
  pub fuel_same : (n : ℕ) (c : Cell) → free width c.fixed ≤ n → tree_of es width n c ≡ below es width c
  fuel_same =
      induct es width good (λ c t. t ≡ below es width c)
      (λ c a e. sym (below_end c a e))
      (λ c i l r e b f zs os. ap₂ (test i) zs os ∙ sym (below_split c i e))

-- ---- the tree of a table

module _ (es : List Entry) (width : ℕ) (good : good_table width es ≡ true) where
  pub tree_right : (w : ℕ) → answer (tree es width) w ≡ select es w
  unfolding tree below
  tree_right w = right es width good (free width 0) start (le_refl _) w (and_zero_r w)

  pub tree_short : (w : ℕ) → length (asked (tree es width) w) ≤ width
  unfolding tree below free
  tree_short w = le_trans (short es width good (free width 0) start (le_refl _) w) (how_many_le (λ i. not (bit 0 i)) width)

  pub tree_fresh : (w : ℕ) → Fresh width 0 (asked (tree es width) w)
  unfolding tree below
  tree_fresh = no_twice es width good (free width 0) start (le_refl _)

  pub tree_once : (w : ℕ) → distinct (asked (tree es width) w) ≡ true
  tree_once w = (tree_fresh w).once

  pub tree_conflict : (w : ℕ) → conflict start (tree es width) ≡ some w → (select es w ≡ ambiguous) × (w < 2 ^ width)
  unfolding tree below
  tree_conflict w e = conflict_right es width good (free width 0) start (le_refl _) refl (pow_pos width) w e

  pub tree_sound : conflict start (tree es width) ≡ none → (w : ℕ) → select es w ≡ ambiguous → ⊥
  tree_sound e w s =
      let f = conflict_found (tree es width) start w (tree_right w ∙ s) in
      let z : ◌≡◌ {A = ℕ} 0 1 = cc in omega arith
