-- In any words: what is found of an upper half is what the walk of every word with it answers. Assumes nothing.
use Prim.Native.Nat.{ℕ, zero, suc, ◌+◌, ◌-◌, ◌*◌, ◌/◌, ◌^◌, ◌≤◌, ◌<◌}
use native.Mathlib.Nat.{le_refl, le_trans}
use native.Mathlib.Omega.{arith}
use mathlib.Core.Path.{◌≡◌, refl, sym, ap, ◌∙◌}
use mathlib.Core.Bool.{false, cond}
use mathlib.Core.List.{List, [], ◌∷◌}
use mathlib.Core.Option.{Option, none, some}
use lib.Dec.{eqb, ltb}
use lib.ListN.{length}
use borrow.Author.Tests.{eqb-true, ltb-true, ltb-false, lt-ltb}
use Rattle.std.specs.Prelude.{Some}
use Rattle.words.specs.Words.{word, bit}
use Rattle.words.specs.Outcome.{result}
use Rattle.words.proofs.Bits.{bit_upper}
use Rattle.words.proofs.Logic.{cases}
use Rattle.flat.specs.Nodes.{header_of, node_of}
use Rattle.flat.specs.Walk.{arrives, path, mask_of, Walk, enters, walk_of}
use Rattle.flat.specs.declared.Node.TheVariants as node
use Rattle.flat.proofs.Reading.{header-cases, header_nodes, node-cases, Says, node_says, Within, node_within}
use Rattle.halves.specs.Common.{side_of, both_of, from_sides, common_from, common_by, common_of}
use Rattle.halves.specs.declared.Side.TheVariants.{Zero, One, Either}
use Rattle.halves.specs.declared.Shared.{Shared}
use Rattle.halves.specs.declared.Shared.TheVariants as shared

-- what a walk that ends so says, and back
abbrev pub told : Option ℕ → Shared
told (some e) = shared.Entry e
told none = shared.Nothing

named_by : Shared → Option ℕ
named_by (shared.Entry e) = some e
named_by shared.Nothing = none
named_by shared.Several = none

told_back : (o : Option ℕ) → named_by (told o) ≡ o
unfolding named_by
told_back (some e) = refl
told_back none = refl

told_one : (s : Shared) (o : Option ℕ) → s ≡ told o → named_by s ≡ o
told_one s o e = ap named_by e ∙ told_back o

not_told : (o : Option ℕ) → shared.Several ≡ told o → ⊥
not_told (some e) q = let z : ◌≡◌ {A = ℕ} 0 1 = cc in omega arith
not_told none q = let z : ◌≡◌ {A = ℕ} 0 1 = cc in omega arith

-- ---- two sides that say one thing each say it

both_told : (x y : Shared) (o : Option ℕ) → both_of x y ≡ told o → (x ≡ told o) × (y ≡ told o)
unfolding both_of
both_told (shared.Entry e) (shared.Entry f) o q =
    cases (eqb e f)
    (λ t. let s : shared.Entry e ≡ told o = rw t at q in (s, ap shared.Entry (sym (eqb-true e f t)) ∙ s))
    (λ t. absurd (not_told o (rw t at q)))
both_told (shared.Entry e) shared.Nothing o q = absurd (not_told o q)
both_told (shared.Entry e) shared.Several o q = absurd (not_told o q)
both_told shared.Nothing (shared.Entry f) o q = absurd (not_told o q)
both_told shared.Nothing shared.Nothing o q = (q, q)
both_told shared.Nothing shared.Several o q = absurd (not_told o q)
both_told shared.Several y o q = absurd (not_told o q)

-- ---- the path of a word with the upper half u

-- bit 15 is open, and bit 16 is bit 0 of the upper half
known_from : (u : ℕ) → (side_of u 15 ≡ Either) × (side_of u 16 ≡ cond (bit u 0) One Zero)
unfolding side_of
known_from u = (refl, refl)

module _ (u w : ℕ) (upper : w / 2 ^ 16 ≡ u) where
  -- a bit of the upper half is the word's
  pub upper_bit : (b : ℕ) → ltb b 16 ≡ false → bit u (b - 16) ≡ bit w b
  upper_bit b t = sym (bit_upper 16 w b (ltb-false b 16 t) ∙ ap (λ (x : ℕ). bit x (b - 16)) upper)

  -- the side that it takes says what the test says
  side_told : (b : ℕ) (zs os : Shared) (o : Option ℕ) → from_sides (side_of u b) zs os ≡ told o → cond (bit w b) os zs ≡ told o
  unfolding side_of from_sides
  side_told b zs os o e =
      cases (ltb b 16)
      (λ t. let (z, s) = both_told zs os o (rw t at e) in cases (bit w b) (λ k. rw k s) (λ k. rw k z))
      (λ t. cases (bit w b) (λ k. rw k (rw (t, upper_bit b t ∙ k) at e)) (λ k. rw k (rw (t, upper_bit b t ∙ k) at e)))

  module _ (ws : List ℕ) (width n : ℕ) where
    Arrives : ℕ → ℕ → Option ℕ → Type 0
    Arrives fuel i o = (bs : List ℕ) × (path fuel ws width n w i ≡ arrives o bs)

    module _ (m i fuel : ℕ) (o : Option ℕ) where
      at_entry : (e : ℕ) → node_of width m i (word ws i) ≡ Some (node.Names e) → shared.Entry e ≡ told o → Arrives (suc fuel) i o
      unfolding Arrives path Within named_by
      at_entry e y q = ([], rw (node_within width m n i (word ws i) (Some (node.Names e)) y tt, told_one (shared.Entry e) o q))

      at_nothing : node_of width m i (word ws i) ≡ Some node.Nothing → shared.Nothing ≡ told o → Arrives (suc fuel) i o
      unfolding Arrives path Within named_by
      at_nothing y q = ([], rw (node_within width m n i (word ws i) (Some node.Nothing) y tt, told_one shared.Nothing o q))

      at_test : (b k : ℕ) → node_of width m i (word ws i) ≡ Some (node.Asks b k) → m ≤ n → Arrives fuel (cond (bit w b) k (i + 1)) o → Arrives (suc fuel) i o
      unfolding Arrives path Within Says
      at_test b k y h (bs, p) =
          let s : Says width m i (Some (node.Asks b k)) = rw y at (node_says width m i (word ws i)) in
          (b ∷ bs, rw (node_within width m n i (word ws i) (Some (node.Asks b k)) y (le_trans s.3 h), p))

    -- in a part of the tree that ends with node m
    walks_from : (d m i fuel : ℕ) (o : Option ℕ) → common_from d ws width m u i ≡ told o → i ≤ m → m ≤ n → n < i + fuel → Arrives fuel i o
    unfolding common_from Says
    walks_from d m i zero o e h k l = absurd (omega arith)
    walks_from zero m i (suc fuel) o e h k l =
        node-cases (node_of width m i (word ws i))
        (λ y. absurd (not_told o (rw y at e)))
        (λ b j y. absurd (not_told o (rw y at e)))
        (λ x y. at_entry m i fuel o x y (rw y at e))
        (λ y. at_nothing m i fuel o y (rw y at e))
    walks_from (suc d) m i (suc fuel) o e h k l =
        node-cases (node_of width m i (word ws i))
        (λ y. absurd (not_told o (rw y at e)))
        (λ b j y.
        let s : Says width m i (Some (node.Asks b j)) = rw y at (node_says width m i (word ws i)) in
        let q = side_told b _ _ o (rw y at e) in
        at_test m i fuel o b j y k
        (cases (bit w b)
        (λ t. rw t (walks_from d m j fuel o (rw t at q) s.3 k (omega (arith, s.2))))
        (λ t. rw t (walks_from d (j - 1) (i + 1) fuel o (rw t at q) (omega (arith, s.2)) (omega (arith, s.3)) (omega arith)))))
        (λ x y. at_entry m i fuel o x y (rw y at e))
        (λ y. at_nothing m i fuel o y (rw y at e))

-- ---- every walk

-- where an entry, or nothing, is said of an upper half, every word with it walks there
pub walks_common : (ws : List ℕ) (u w : ℕ) (o : Option ℕ) → common_of ws u ≡ told o → w / 2 ^ 16 ≡ u → (a : Walk) × (walk_of ws w ≡ result a) × (a.entry ≡ o)
unfolding common_of common_by walk_of enters Arrives
walks_common ws u w o e upper =
    header-cases (header_of (word ws 0) (length ws))
    (λ y. absurd (not_told o (rw y at e)))
    (λ width n y.
    cases (ltb (2 ^ 16 * u + 65535) (2 ^ width))
    (λ t.
    let fits : w < 2 ^ width = omega (arith, ltb-true (2 ^ 16 * u + 65535) (2 ^ width) t) in
    let (bs, p) = walks_from u w upper ws width n width n 1 n o (rw (y, t) at e) (header_nodes _ _ width n y) (le_refl n) (omega arith) in
    (record { entry = o; count = length bs; mask = mask_of bs }, rw (y, lt-ltb w (2 ^ width) fits, p) refl, refl))
    (λ t. absurd (not_told o (rw (y, t) at e))))
