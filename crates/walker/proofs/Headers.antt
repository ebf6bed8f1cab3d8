-- A walk by what its header says. Assumes nothing.
use Prim.Native.Nat.{ℕ, ◌%◌, ◌^◌}
use mathlib.Core.Path.{◌≡◌, refl, sym, ap, ap₂, ◌∙◌, subst}
use mathlib.Core.Bool.{true, false}
use mathlib.Core.List.{List}
use native.Mathlib.Omega.{arith}
use lib.Dec.{eqb, ltb}
use lib.ListN.{length}
use borrow.Author.Tests.{eq-eqb, ne_eqb}
use Rattle.std.specs.Prelude.{Option, Some, None, Ok, Err}
use Rattle.words.specs.Words.{word}
use Rattle.words.specs.Bytes.{words_of}
use Rattle.words.specs.Outcome.{Outcome, result, faulty, refused, refused_as}
use Rattle.words.specs.declared.Refusal.{Refusal}
use Rattle.words.specs.declared.Refusal.TheVariants as refusal
use Rattle.words.proofs.Logic.{cases}
use Rattle.words.proofs.Outcomes.{refused_no_result}
use Rattle.flat.specs.Nodes.{header_of, said_header}
use Rattle.flat.specs.Walk.{Walk, path, ended, enters, walk_of, mask_or_zero}
use Rattle.flat.specs.declared.Header.{Header}
use Rattle.walker.specs.Walked.{walk_bytes, walk_in, Small, entered_of, entered_in}

-- ---- before the path, as the code reads: k bytes left over, m words, the first of them x, and by these the header o
module _ (rest k : ℕ) (ws : List ℕ) (w : ℕ) (left : k ≡ rest) where
  pub enters_odd : (k ≡ 0 → ⊥) → Err refusal.BadHeader ≡ entered_in rest ws w
  unfolding entered_in
  enters_odd n = rw (← left, ne_eqb k 0 n)

  module _ (x m : ℕ) (o : Option Header) (whole : k ≡ 0) (first : x ≡ word ws 0) (size : m ≡ length ws) (is : o ≡ header_of x m) where
    pub enters_by : (p : Option Header) → o ≡ p → entered_of p w ≡ entered_in rest ws w
    unfolding entered_in
    enters_by p e =
        rw (← left, eq-eqb k 0 whole) (ap (λ (h : Option Header). entered_of h w) (sym e ∙ is ∙ ap₂ header_of first size))

    module _ (h : Header) (good : o ≡ Some h) where
      pub enters_fit : ltb w (2 ^ h.width) ≡ true → Ok h ≡ entered_in rest ws w
      unfolding entered_of
      enters_fit t = let e = enters_by (Some h) good in rw t at e

      pub enters_wide : ltb w (2 ^ h.width) ≡ false → Err refusal.TooWide ≡ entered_in rest ws w
      unfolding entered_of
      enters_wide t = let e = enters_by (Some h) good in rw t at e

-- ---- what a walk answers by its header

shut_by : (h : Option Header) (ws : List ℕ) (w : ℕ) (r : Refusal) → Err r ≡ entered_of h w → refused_as r ≡ enters (said_header h) ws w
unfolding entered_of enters
shut_by None ws w r e = let q : r ≡ refusal.BadHeader = cc in ap (λ (k : Refusal). refused_as {A = Walk} k) q
shut_by (Some h) ws w r e =
    cases (ltb w (2 ^ h.width))
    (λ t. let q : Err r ≡ Ok h = rw t at e in absurd (cc))
    (λ t. let q : Err r ≡ Err refusal.TooWide = rw t at e in let k : r ≡ refusal.TooWide = cc in rw t (ap (λ (k : Refusal). refused_as {A = Walk} k) k))

open_by : (h : Option Header) (ws : List ℕ) (w : ℕ) (g : Header) → Ok g ≡ entered_of h w → ended (path g.nodes ws g.width g.nodes w 1) ≡ enters (said_header h) ws w
unfolding entered_of enters
open_by None ws w g e = absurd (cc)
open_by (Some h) ws w g e =
    cases (ltb w (2 ^ h.width))
    (λ t. let q : Ok g ≡ Ok h = rw t at e in let k : g ≡ h = cc in rw t (ap (λ (k : Header). ended (path k.nodes ws k.width k.nodes w 1)) k))
    (λ t. let q : Ok g ≡ Err refusal.TooWide = rw t at e in absurd (cc))

-- what refuses before the path has number and place in 64 bits
small_by : (h : Option Header) (w : ℕ) (r : Refusal) → Err r ≡ entered_of h w → Small (refused_as r)
unfolding entered_of
small_by None w r e =
    let q : refusal.BadHeader ≡ r = cc in subst (λ (k : Refusal). Small (refused_as k)) q (omega arith, omega arith)
small_by (Some h) w r e =
    cases (ltb w (2 ^ h.width))
    (λ t. let q : Err r ≡ Ok h = rw t at e in absurd (cc))
    (λ t. let q : Err r ≡ Err refusal.TooWide = rw t at e in let k : refusal.TooWide ≡ r = cc in subst (λ (k : Refusal). Small (refused_as k)) k (omega arith, omega arith))

-- of words in either form
module _ (rest : ℕ) (ws : List ℕ) (w : ℕ) where
  pub shut : (r : Refusal) → Err r ≡ entered_in rest ws w → refused_as r ≡ walk_in rest ws w
  unfolding entered_in walk_of
  shut r e =
      cases (eqb rest 0)
      (λ t. rw t (shut_by (header_of (word ws 0) (length ws)) ws w r (rw t at e)))
      (λ t. let q : Err r ≡ Err refusal.BadHeader = rw t at e in let k : r ≡ refusal.BadHeader = cc in rw t (ap (λ (k : Refusal). refused_as {A = Walk} k) k))

  pub shut_small : (r : Refusal) → Err r ≡ entered_in rest ws w → Small (refused_as r)
  unfolding entered_in entered_of
  shut_small r e =
      cases (eqb rest 0)
      (λ t. small_by (header_of (word ws 0) (length ws)) w r (rw t at e))
      (λ t. let q : Err r ≡ Err refusal.BadHeader = rw t at e in small_by None w r q)

  pub walks : (h : Header) → Ok h ≡ entered_in rest ws w → ended (path h.nodes ws h.width h.nodes w 1) ≡ walk_in rest ws w
  unfolding entered_in walk_of
  walks h e =
      cases (eqb rest 0)
      (λ t. rw t (open_by (header_of (word ws 0) (length ws)) ws w h (rw t at e)))
      (λ t. let q : Ok h ≡ Err refusal.BadHeader = rw t at e in absurd (cc))

-- ---- the mask of what is refused

no_mask : (o : Outcome Walk) → ((a : Walk) → o ≡ result a → ⊥) → 0 ≡ mask_or_zero o
no_mask (result a) n = absurd (n a refl)
no_mask (faulty k p) n = refl
no_mask (refused k p x) n = refl

pub refused_mask : (r : Refusal) → 0 ≡ mask_or_zero (refused_as r)
refused_mask r = no_mask (refused_as r) (refused_no_result r)

-- ---- words as they are, and bytes

pub in_words : (ws : List ℕ) (w : ℕ) → walk_in 0 ws w ≡ walk_of ws w
in_words ws w = refl

pub in_bytes : (bytes : List ℕ) (w : ℕ) → walk_in (length bytes % 4) (words_of bytes) w ≡ walk_bytes bytes w
unfolding walk_bytes
in_bytes bytes w = refl

-- a tree of whole words is walked as these
pub whole_bytes : (bytes : List ℕ) (w : ℕ) → length bytes % 4 ≡ 0 → walk_of (words_of bytes) w ≡ walk_bytes bytes w
unfolding walk_bytes
whole_bytes bytes w h = rw (eq-eqb (length bytes % 4) 0 h)
