-- What the checker's functions answer, from what their calls answer. Assumes nothing.
use mathlib.Core.Path.{◌≡◌, refl, sym, ap, ◌∙◌}
use mathlib.Core.Bool.{Bool, true, false, not}
use mathlib.Core.List.{List}
use Prim.Native.Nat.{ℕ, zero, suc, ◌+◌, ◌^◌, ◌<◌}
use borrow.Author.Tests.{eq-eqb, ne_eqb}
use lib.Bits.{bit_or}
use lib.Dec.{eqb}
use lib.ListN.{length}
use Rattle.words.specs.Tests.{◌and◌}
use Rattle.words.specs.Words.{word, bit}
use Rattle.words.proofs.Logic.{cases}
use Rattle.table.specs.Check.{read_table}
use Rattle.words.specs.Outcome.{result, refused, refused_as}
use Rattle.words.specs.declared.Refusal.{Refusal}
use Rattle.table.specs.Answer.{Reads}
use Rattle.table.specs.Ready.{Ready}
use Rattle.table.specs.Table.{Entry, entries_at}
use Rattle.table.proofs.Views.{ready_read, read_refused}
use Rattle.choice.specs.Rule.{Choice, selects}
use Rattle.std.specs.Prelude.{Option, Some, None, Err}
use Rattle.std.specs.Bool.{then_some}
use Rattle.std.specs.Option.{option_eq}
use Rattle.flat.specs.Nodes.{header_of, node_of}
use Rattle.flat.specs.declared.Header.{Header}
use Rattle.flat.specs.declared.Node.TheVariants.{Asks, Names, Nothing}
use Rattle.cell.specs.Cell.{Cell, start, zero_side, one_side}
use Rattle.cell.specs.Step.{free}
use Rattle.checker.specs.Checker.{settled, is_step_two, provided, meeting, check_from, check_below, check_sides, ends_at, accepts_by, accepts, check_of}
use Rattle.cell.proofs.Cells.{free_less}

-- the index after a leaf that is right
then_provided : (b : Bool) (n : ℕ) → then_some b n ≡ provided b (Some n)
then_provided true n = refl
then_provided false n = refl

-- whether the subtree of the first node is right, and ends there
end_equal : (r : Option ℕ) (k : ℕ) → option_eq eqb r (Some k) ≡ ends_at r k
end_equal None k = refl
end_equal (Some m) k = refl

-- ---- a subtree, by its node
module _ (es : List Entry) (ws : List ℕ) (width n : ℕ) (c : Cell) (i : ℕ) where
  from_names : (f e : ℕ) → node_of width n i (word ws i) ≡ Some (Names e) → check_from f es ws width n c i ≡ provided (selects (settled es c) e) (Some (i + 1))
  unfolding check_from
  from_names zero e d = rw d
  from_names (suc f) e d = rw d

  from_nothing : (f : ℕ) → node_of width n i (word ws i) ≡ Some Nothing → check_from f es ws width n c i ≡ provided (is_step_two (settled es c)) (Some (i + 1))
  unfolding check_from
  from_nothing zero d = rw d
  from_nothing (suc f) d = rw d

  from_damaged : (f : ℕ) → node_of width n i (word ws i) ≡ None → check_from f es ws width n c i ≡ None
  unfolding check_from
  from_damaged zero d = rw d
  from_damaged (suc f) d = rw d

  from_fixed : (f b k : ℕ) → node_of width n i (word ws i) ≡ Some (Asks b k) → bit c.fixed b ≡ true → check_from f es ws width n c i ≡ None
  unfolding check_from
  from_fixed zero b k d h = rw (d, h)
  from_fixed (suc f) b k d h = rw (d, h)

  from_asks : (f b k : ℕ) → node_of width n i (word ws i) ≡ Some (Asks b k)
      → check_from (suc f) es ws width n c i
      ≡ provided (not (bit c.fixed b)) (meeting (check_from f es ws width n (zero_side c b) (i + 1)) k (check_from f es ws width n (one_side c b) k))
  unfolding check_from
  from_asks f b k d = rw d

  pub check_damaged : node_of width n i (word ws i) ≡ None → None ≡ check_below es ws width n c i
  unfolding check_below
  check_damaged d = sym (from_damaged (free width c.fixed) d)

  -- a leaf: a is what is settled of the cell, t what is asked of it, and r what is said
  pub check_names : (e : ℕ) (a : Choice) (t : Bool) (r : Option ℕ) → node_of width n i (word ws i) ≡ Some (Names e) → a ≡ settled es c → t ≡ selects (a) e
      → r ≡ then_some t (i + 1) → r ≡ check_below es ws width n c i
  unfolding check_below
  check_names e a t r d ea et er =
      er ∙ then_provided t _ ∙ ap (λ (b : Bool). provided b (Some (i + 1))) (et ∙ ap (λ (x : Choice). selects x e) ea) ∙ sym (from_names (free width c.fixed) e d)

  pub check_nothing : (a : Choice) (t : Bool) (r : Option ℕ) → node_of width n i (word ws i) ≡ Some Nothing → a ≡ settled es c → t ≡ is_step_two (a)
      → r ≡ then_some t (i + 1) → r ≡ check_below es ws width n c i
  unfolding check_below
  check_nothing a t r d ea et er =
      er ∙ then_provided t _ ∙ ap (λ (b : Bool). provided b (Some (i + 1))) (et ∙ ap is_step_two ea) ∙ sym (from_nothing (free width c.fixed) d)

  pub check_asks : (b k : ℕ) (r : Option ℕ) → b < width → node_of width n i (word ws i) ≡ Some (Asks b k) → r ≡ check_sides es ws width n c i b k → r ≡ check_below es ws width n c i
  unfolding check_below check_sides
  check_asks b k r h d e =
      e
      ∙ cases (bit c.fixed b)
      (λ t. rw t (sym (from_fixed (free width c.fixed) b k d t)))
      (λ t. sym (ap (λ (f : ℕ). check_from f es ws width n c i) (sym (free_less c b width h t)) ∙ from_asks (free width (bit_or c.fixed (2 ^ b))) b k d))

  pub sides_fixed : (b k : ℕ) → bit c.fixed b ≡ true → None ≡ check_sides es ws width n c i b k
  unfolding check_sides
  sides_fixed b k h = rw h

  -- a test of an unfixed bit: zc is the cell of the zero side, and r what is said of it
  module _ (b k : ℕ) (unfixed : bit c.fixed b ≡ false) {zc : Cell} (ez : zc ≡ zero_side c b) {r : Option ℕ}
      (zs : r ≡ check_below es ws width n zc (i + 1)) where
    after_zero : (x : Option ℕ) → r ≡ x → check_sides es ws width n c i b k ≡ meeting x k (check_below es ws width n (one_side c b) k)
    unfolding check_sides
    after_zero x e =
        let q : check_below es ws width n (zero_side c b) (i + 1) ≡ x = ap (λ (z : Cell). check_below es ws width n z (i + 1)) (sym ez) ∙ sym zs ∙ e in
        rw (unfixed, q)

    pub zero_no : r ≡ None → None ≡ check_sides es ws width n c i b k
    zero_no e = sym (after_zero None e)

    pub zero_elsewhere : {m : ℕ} → r ≡ Some m → (m ≡ k → ⊥) → None ≡ check_sides es ws width n c i b k
    zero_elsewhere {m} e h = sym (after_zero (Some m) e ∙ rw (ne_eqb m k h))

    pub one_side_lem : {m : ℕ} {oc : Cell} {s : Option ℕ} → r ≡ Some m → m ≡ k → oc ≡ one_side c b → s ≡ check_below es ws width n oc k
        → s ≡ check_sides es ws width n c i b k
    one_side_lem {m} e h eo q = q ∙ sym (after_zero (Some m) e ∙ rw (eq-eqb m k h, ← eo))

-- ---- the whole tree
module _ (es : List Entry) (ws : List ℕ) (width : ℕ) {x : ℕ} (ex : x ≡ word ws 0) {h : Option Header} (eh : h ≡ header_of x (length ws)) where
  header_is : header_of (word ws 0) (length ws) ≡ h
  header_is = sym (eh ∙ ap (λ (y : ℕ). header_of y (length ws)) ex)

  pub bad_header : h ≡ None → false ≡ accepts es width ws
  unfolding accepts accepts_by
  bad_header e = rw (header_is ∙ e)

  module _ {g : Header} (e : h ≡ Some g) where
    pub other_width : (g.width ≡ width → ⊥) → false ≡ accepts es width ws
    unfolding accepts accepts_by ◌and◌
    other_width k = rw (header_is ∙ e, ne_eqb g.width width k)

    pub ended_at : {r : Option ℕ} → g.width ≡ width → r ≡ check_below es ws width g.nodes start 1
        → option_eq eqb r (Some (g.nodes + 1)) ≡ accepts es width ws
    unfolding accepts accepts_by ◌and◌
    ended_at {r} k q = end_equal r (g.nodes + 1) ∙ rw (header_is ∙ e, eq-eqb g.width width k, ← q)

-- ---- the public call, from the table's reading
pub check_faulty : (ws words : List ℕ) (r : Refusal) → Reads ws (Err r) → refused_as r ≡ check_of (read_table ws) words
unfolding check_of
check_faulty ws words r reads = read_refused ws r reads (λ o. check_of o words) (λ n p. refl)

module _ (vs : List ℕ) {ws places : List ℕ} {width n : ℕ} (ready : Ready ws places width n) (words : List ℕ) (e : ws ≡ vs) where
  pub check_yes : accepts (entries_at ws n 1) width words ≡ true → result tt ≡ check_of (read_table vs) words
  unfolding check_of
  check_yes q = rw (← e, ready_read ws places width n ready, q)

  pub check_no : accepts (entries_at ws n 1) width words ≡ false → refused 14 0 0 ≡ check_of (read_table vs) words
  unfolding check_of
  check_no q = rw (← e, ready_read ws places width n ready, q)
