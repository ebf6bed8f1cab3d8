-- Where a path goes from a node that the code has read. Assumes nothing.
use Prim.Native.Nat.{ℕ, ◌+◌, ◌/◌, ◌^◌}
use mathlib.Core.Path.{◌≡◌, refl, sym, ap, ◌∙◌, subst}
use mathlib.Core.Bool.{cond}
use lib.Bits.{bit_and}
use borrow.Author.Tests.{eq-eqb, ne_eqb}
use Rattle.std.specs.Prelude.{Option, Some, None, Result, Ok, Err, IsErrAnd, ok_or}
use Rattle.std.proofs.lemmas.Result.{err_from_is_err_and}
use Rattle.words.specs.declared.Refusal.{Refusal}
use Rattle.words.specs.declared.Refusal.TheVariants as refusal
use Rattle.flat.specs.Nodes.{node_of, NodeBounds}
use Rattle.flat.specs.declared.Node.{Node}
use Rattle.flat.specs.declared.Node.TheVariants as node
use Rattle.words.proofs.Parts.{bit_shr}
use Rattle.walker.specs.Walked.{went_of}
use Rattle.walker.specs.declared.Went.TheVariants as went

-- what an option that is passed up was, and what is returned with a refusal that is passed up
pub was_some : {A : Type 0} (o : Option A) (r : Refusal) (a : A) → Ok a ≡ ok_or o r → o ≡ Some a
was_some None r a e = absurd (cc)
was_some (Some b) r a e = cc

pub was_none : {A : Type 0} (o : Option A) (r q : Refusal) → Err q ≡ ok_or o r → (o ≡ None) × (q ≡ r)
was_none None r q e = (refl, cc)
was_none (Some b) r q e = absurd (cc)

pub returned : {A : Type 0} (r : Result A Refusal) (q : Refusal) → IsErrAnd r (λ x. x ≡ q) → r ≡ Err q
returned r q h = let p = err_from_is_err_and r h in p.1 ∙ ap Err p.2

module _ (width n at x w : ℕ) (r : Option Node) (is : r ≡ node_of width n at x) where
  pub goes : (y : Option Node) → r ≡ y → went_of y w at ≡ went_of (node_of width n at x) w at
  goes y e = ap (λ (z : Option Node). went_of z w at) (sym e ∙ is)

  module _ (bounds : NodeBounds r width n at) (b k : ℕ) (e : r ≡ Some (node.Asks b k)) where
    pub side : NodeBounds (Some (node.Asks b k)) width n at
    side = subst (λ (z : Option Node). NodeBounds z width n at) e bounds

    pub goes_one : bit_and (w / 2 ^ b) 1 ≡ 1 → Ok (went.On k b) ≡ went_of (node_of width n at x) w at
    unfolding went_of
    goes_one t =
        let o = sym (bit_shr w b) ∙ eq-eqb (bit_and (w / 2 ^ b) 1) 1 t in
        ap (λ p. Ok (went.On (cond p k (at + 1)) b)) (sym o) ∙ goes (Some (node.Asks b k)) e

    pub goes_zero : (bit_and (w / 2 ^ b) 1 ≡ 1 → ⊥) → Ok (went.On (at + 1) b) ≡ went_of (node_of width n at x) w at
    unfolding went_of
    goes_zero t =
        let o = sym (bit_shr w b) ∙ ne_eqb (bit_and (w / 2 ^ b) 1) 1 t in
        ap (λ p. Ok (went.On (cond p k (at + 1)) b)) (sym o) ∙ goes (Some (node.Asks b k)) e

-- what a node refuses is that it is damaged
pub damaged_at : (x : Option Node) (w at : ℕ) (r : Refusal) → went_of x w at ≡ Err r → r ≡ refusal.Damaged at
unfolding went_of
damaged_at None w at r e = cc
damaged_at (Some (node.Asks b k)) w at r e = absurd (cc)
damaged_at (Some (node.Names j)) w at r e = absurd (cc)
damaged_at (Some node.Nothing) w at r e = absurd (cc)
