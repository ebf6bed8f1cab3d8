-- What a header and a node read as, in any words. Assumes nothing.
use Prim.Native.Nat.{ℕ, ◌+◌, ◌≤◌, ◌<◌}
use mathlib.Core.Path.{◌≡◌, refl, sym, ap, subst}
use native.Mathlib.Omega.{arith}
use lib.Dec.{eqb, ltb, leb}
use borrow.Author.Tests.{ltb-true, leb-true, le-leb}
use Rattle.std.specs.Prelude.{Option, Some, None}
use Rattle.words.specs.Tests.{◌and◌}
use Rattle.words.specs.Words.{bits}
use Rattle.words.proofs.Logic.{cases, and_i, and_l, and_r}
use Rattle.words.proofs.Parts.{part_lt}
use Rattle.flat.specs.Nodes.{good, header_width, header_rest, header_of, node_of, test_node, names_node, nothing_node}
use Rattle.flat.specs.declared.Header.{Header}
use Rattle.flat.specs.declared.Node.{Node}
use Rattle.flat.specs.declared.Node.TheVariants.{Asks, Names, Nothing}

-- ---- a header

pub header-cases {ℓ} : {G : Type ℓ} (h : Option Header) → (h ≡ None → G) → ((v n : ℕ) → h ≡ good v n → G) → G
header-cases None f g = f refl
header-cases (Some h) f g = g h.width h.nodes refl

-- a good header is no other, and not a bad one
pub good_one : (v n w m : ℕ) → good v n ≡ good w m → (v ≡ w) × (n ≡ m)
good_one v n w m e =
    let k : record { width = v; nodes = n } ≡ record { width = w; nodes = m } = cc in
    (ap (λ (h : Header). h.width) k, ap (λ (h : Header). h.nodes) k)

pub not_good : {h : Header} → None ≡ Some h → ⊥
not_good e = let z : ◌≡◌ {A = ℕ} 0 1 = cc in omega arith

-- a good header's width and number of nodes are what its word says, and there are nodes
header_says : (x words v n : ℕ) → header_of x words ≡ good v n → (v ≡ header_width x) × (1 ≤ n) × (n ≡ bits 15 0 x)
unfolding header_of header_rest
header_says x words v n h =
    cases (eqb (bits 31 28 x) 7 and eqb (bits 27 22 x) 0)
    (λ t. cases (leb 1 (header_width x) and leb (header_width x) 32 and leb 1 (bits 15 0 x) and ltb (bits 15 0 x) words)
    (λ s. let (q, r) = good_one (header_width x) (bits 15 0 x) v n (rw (t, s) at h) in
    let some-nodes : 1 ≤ bits 15 0 x = leb-true _ _ (and_r _ (and_l _ s)) in
    (sym q, rw r at some-nodes, sym r))
    (λ s. absurd (not_good (rw (t, s) at h))))
    (λ t. absurd (not_good (rw t at h)))

pub header_width_lem : (x words v n : ℕ) → header_of x words ≡ good v n → v ≡ header_width x
header_width_lem x words v n h = (header_says x words v n h).0

pub header_nodes : (x words v n : ℕ) → header_of x words ≡ good v n → 1 ≤ n
header_nodes x words v n h = (header_says x words v n h).1

pub header_number : (x words v n : ℕ) → header_of x words ≡ good v n → n ≡ bits 15 0 x
header_number x words v n h = (header_says x words v n h).2

-- ---- a node

pub node-cases {ℓ} : {G : Type ℓ} (x : Option Node) → (x ≡ None → G) → ((b k : ℕ) → x ≡ Some (Asks b k) → G) → ((e : ℕ) → x ≡ Some (Names e) → G) → (x ≡ Some Nothing → G) → G
node-cases None f g h k = f refl
node-cases (Some (Asks b j)) f g h k = g b j refl
node-cases (Some (Names e)) f g h k = h e refl
node-cases (Some Nothing) f g h k = k refl

-- at index i of n nodes: a tested bit is one of the width, and of a word, and the one side is further on; an entry is below 256
unfoldable pub Says : ℕ → ℕ → ℕ → Option Node → Type 0
Says width n i None = Unit {0}
Says width n i (Some (Asks b k)) = (b < width) × (b < 32) × (i + 2 ≤ k) × (k ≤ n)
Says width n i (Some (Names e)) = e < 256
Says width n i (Some Nothing) = Unit {0}

pub node_says : (width n i x : ℕ) → Says width n i (node_of width n i x)
unfolding node_of test_node names_node nothing_node Says
node_says width n i x =
    cases (eqb (bits 31 28 x) 8)
    (λ t8. cases (eqb (bits 22 16 x) 0 and ltb (bits 27 23 x) width and leb (i + 2) (bits 15 0 x) and leb (bits 15 0 x) n)
    (λ t. rw (t8, t) (ltb-true _ _ (and_r _ (and_l _ (and_l _ t))), part_lt x 23 5, leb-true _ _ (and_r _ (and_l _ t)), leb-true _ _ (and_r _ t)))
    (λ t. rw (t8, t) tt))
    (λ t8. cases (eqb (bits 31 28 x) 9)
    (λ t9. cases (eqb (bits 27 8 x) 0) (λ t. rw (t8, t9, t) (part_lt x 0 8)) (λ t. rw (t8, t9, t) tt))
    (λ t9. cases (eqb (bits 31 28 x) 10)
    (λ t10. cases (eqb (bits 27 0 x) 0) (λ t. rw (t8, t9, t10, t) tt) (λ t. rw (t8, t9, t10, t) tt))
    (λ t10. rw (t8, t9, t10) tt)))

-- a node that is not damaged, and whose one side is no further than m
unfoldable pub Within : ℕ → Option Node → Type 0
Within m None = ⊥
Within m (Some (Asks b k)) = k ≤ m
Within m (Some (Names e)) = Unit {0}
Within m (Some Nothing) = Unit {0}

-- it is the same among m nodes
pub node_within : (width n m i x : ℕ) (y : Option Node) → node_of width n i x ≡ y → Within m y → node_of width m i x ≡ y
unfolding node_of test_node Within
node_within width n m i x y e h =
    cases (eqb (bits 31 28 x) 8)
    (λ t8. cases (eqb (bits 22 16 x) 0 and ltb (bits 27 23 x) width and leb (i + 2) (bits 15 0 x) and leb (bits 15 0 x) n)
    (λ t. let q : Some (Asks (bits 27 23 x) (bits 15 0 x)) ≡ y = rw (t8, t) at e in
    rw (t8, and_i (and_l _ t) (le-leb (bits 15 0 x) m (subst (λ (y : Option Node). Within m y) (sym q) h))) q)
    (λ t. let q : None ≡ y = rw (t8, t) at e in absurd (subst (λ (y : Option Node). Within m y) (sym q) h)))
    (λ t8. rw t8 (rw t8 at e))
