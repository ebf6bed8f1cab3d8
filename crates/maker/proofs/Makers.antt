-- What the makers say of a cell's tree, from what their calls say. Assumes nothing.
use mathlib.Core.Path.{◌≡◌}
use mathlib.Core.List.{List}
use Prim.Native.Nat.{ℕ, ◌+◌, ◌≤◌, ◌<◌}
use native.Mathlib.Omega.{arith}
use lib.ListN.{set}
use Rattle.std.specs.Prelude.{Option, None, Some}
use Rattle.table.specs.Table.{Entry}
use Rattle.choice.specs.Rule.{Choice}
use Rattle.cell.specs.Cell.{Cell, zero_side, one_side}
use Rattle.tree.specs.Tree.{Tree, leaf, size, below, if_conflict}
use Rattle.tree.specs.Written.{leaf_word, test_word}
use Rattle.tree.proofs.Sizes.{size_pos}
use Rattle.maker.specs.Parts.{first_of, made_leaf, made_test, marked, Written, Making, split_of}
use Rattle.maker.specs.declared.Made.{Made}
use Rattle.maker.specs.declared.Writer.{Writer}
use Rattle.maker.proofs.Writing.{leaf_written, zero_full, one_full, test_written}

module _ {v w : Writer} {t : Tree} {c : Cell} {at : ℕ} where
  made_full : v.limit < at + size t → Making None v w t c at
  made_full h = record { full = λ e. h; wrote = λ m e. cc }

  made_wrote : {m : Made} → Written v.out.now w.out.now v.marks w.marks t c at v.limit m → Making (Some m) v w t c at
  made_wrote {m} x = record { full = λ e. cc; wrote = λ n e. let q : m ≡ n = cc in rw (← q) x }

-- no room for a node
pub no_room : {v w : Writer} {t : Tree} {c : Cell} {at : ℕ} → v.limit ≤ at → Making None v w t c at
no_room {t = t} h = made_full (omega (arith, size_pos t))

-- a leaf, written by make_leaf
pub leaf_made : {v w : Writer} {t : Tree} (a : Choice) {c : Cell} {at x : ℕ} {r : Option Made} {f : Option ℕ} → at < v.limit → t ≡ leaf a
    → r ≡ Some (made_leaf at f) → w.out.now ≡ set v.out.now at x → x ≡ leaf_word a → f ≡ first_of (if_conflict a c.bits) → w.marks ≡ marked a v.marks
    → Making r v w t c at
leaf_made {v} {w} a {c} {at} room q e eo ex ef em =
    let x = leaf_written v.out.now v.marks c a at v.limit room in
    rw (e, q, ef) (made_wrote (rw (eo, ex, em) x))

-- a test: zc and oc are the cells of the sides; v1 and w1 stand before and after the zero side, v2 and w2 the one side
module _ (es : List Entry) (width : ℕ) (c : Cell) (b at : ℕ) {v w1 : Writer} {zc : Cell} (ez : zc ≡ zero_side c b) {r : Option Made}
    (zero : Making r v w1 (below es width zc) zc (at + 1)) where
  zero_side_lem : Making r v w1 (below es width (zero_side c b)) (zero_side c b) (at + 1)
  zero_side_lem = rw ez at zero

  pub zero_is_full : {w : Writer} → r ≡ None → Making None v w (split_of es width c b) c at
  zero_is_full e = made_full (zero_full (below es width (zero_side c b)) (below es width (one_side c b)) b at v.limit (zero_side_lem.full e))

  module _ {oc : Cell} {x : ℕ} {m : Made} (eo : oc ≡ one_side c b) (ex : x ≡ test_word b m.next) (e : r ≡ Some m) {v2 w2 : Writer}
      (el : v2.limit ≡ v.limit) (ew : v2.out.now ≡ set w1.out.now at x) (em : v2.marks ≡ w1.marks) {r2 : Option Made}
      (one : Making r2 v2 w2 (below es width oc) oc m.next) where
    one_side_lem : Making r2 v2 w2 (below es width (one_side c b)) (one_side c b) m.next
    one_side_lem = rw eo at one

    pub one_is_full : r2 ≡ None → Making None v w2 (split_of es width c b) c at
    one_is_full g =
        made_full
        (one_full (below es width (zero_side c b)) (below es width (one_side c b)) b at v.limit m.next (zero_side_lem.wrote m e).next_is
        (rw el at (one_side_lem.full g)))

    pub both_written : {n : Made} → r2 ≡ Some n → Making (Some (made_test m n)) v w2 (split_of es width c b) c at
    both_written {n} q =
        made_wrote
        (test_written (below es width (zero_side c b)) (below es width (one_side c b)) b at v.limit c v.out.now w1.out.now w2.out.now v.marks w1.marks w2.marks m n
        (zero_side_lem.wrote m e) (rw (ew, ex, el, em) at (one_side_lem.wrote n q)))
