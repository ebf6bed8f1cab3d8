-- The steps of a path, as the loops take them. Assumes nothing.
--     goes_on     a turn: one more test, and the path from where it goes
--     ends, breaks_off     the last turn
use Prim.Native.Nat.{ℕ, suc, ◌+◌, ◌-◌, ◌*◌, ◌%◌, ◌^◌, ◌<◌}
use mathlib.Core.Path.{◌≡◌, refl, sym, ap, ap₂, ◌∙◌}
use mathlib.Core.Bool.{cond}
use mathlib.Core.List.{List, []}
use mathlib.Core.Option.{Option}
use native.Mathlib.Omega.{arith}
use lib.Bits.{bit_or, or_zero_l, or_zero_r}
use lib.ListN.{length}
use Rattle.words.specs.Words.{word, bit}
use Rattle.std.specs.Prelude.{Some, None, Ok, Err}
use Rattle.std.specs.Prelude as code
use Rattle.words.specs.Outcome.{Outcome, result, faulty, refused, refused_as, maybe_of}
use Rattle.words.specs.declared.Refusal.{Refusal}
use Rattle.words.specs.declared.Refusal.TheVariants as refusal
use Rattle.words.proofs.Bits.{or_assoc}
use Rattle.words.proofs.Parts.{one_shl}
use Rattle.flat.specs.Nodes.{node_of, said_node}
use Rattle.flat.specs.Walk.{Ending, arrives, breaks, after, onward, path, mask_of, Walk, ended}
use Rattle.flat.specs.declared.Node.{Node}
use Rattle.flat.specs.declared.Node.TheVariants as node
use Rattle.walker.specs.Walked.{went_of}
use Rattle.walker.specs.declared.Went.TheVariants as went

-- what a walk that finishes answers
abbrev pub finished : Option ℕ → ℕ → ℕ → Outcome Walk
finished e k m = result (record { entry = e; count = k; mask = m })

-- an answer with k more tests, of the bits of m
abbrev pub plus : ℕ → ℕ → Outcome Walk → Outcome Walk
plus k m (result a) = finished a.entry (k + a.count) (bit_or m a.mask)
plus k m (faulty n p) = faulty n p
plus k m (refused n p x) = refused n p x

plus_after : (k m b : ℕ) (p : Ending) → plus k m (ended (after b p)) ≡ plus (k + 1) (bit_or m (2 ^ b)) (ended p)
unfolding mask_of
plus_after k m b (arrives e bs) =
    let q : k + suc (length bs) ≡ k + 1 + length bs = omega arith in
    ap₂ (finished e) q (sym (or_assoc m (2 ^ b) (mask_of bs)))
plus_after k m b (breaks n i) = refl

pub plus_zero : (p : Ending) → plus 0 0 (ended p) ≡ ended p
plus_zero (arrives e bs) = let q : 0 + length bs ≡ length bs = omega arith in ap₂ (finished e) q (or_zero_l (mask_of bs))
plus_zero (breaks n i) = refl

module _ (ws : List ℕ) (width n w at tests mask : ℕ) (before : tests < n) where
  abbrev rest : ℕ → Ending
  rest j = path (n - (tests + 1)) ws width n w j

  -- the path's first node
  first_node : path (n - tests) ws width n w at ≡ onward (said_node at (node_of width n at (word ws at))) w at rest
  unfolding path
  first_node = let s : n - tests ≡ suc (n - (tests + 1)) = omega arith in ap (λ (k : ℕ). path k ws width n w at) s

  on : (x : code.Option Node) (next b : ℕ) → went_of x w at ≡ Ok (went.On next b)
      → plus tests mask (ended (onward (said_node at x) w at rest)) ≡ plus (tests + 1) (bit_or mask (2 ^ b)) (ended (rest next))
  unfolding went_of
  on None next b e = absurd (cc)
  on (Some (node.Asks c k)) next b e =
      let q : cond (bit w c) k (at + 1) ≡ next = cc in
      let s : c ≡ b = cc in
      plus_after tests mask c (rest (cond (bit w c) k (at + 1))) ∙ ap₂ (λ (j d : ℕ). plus (tests + 1) (bit_or mask (2 ^ d)) (ended (rest j))) q s
  on (Some (node.Names i)) next b e = absurd (cc)
  on (Some node.Nothing) next b e = absurd (cc)

  -- the mask gets `1 << b`
  pub goes_on : (next b : ℕ) → b < 32 → went_of (node_of width n at (word ws at)) w at ≡ Ok (went.On next b)
      → plus tests mask (ended (path (n - tests) ws width n w at)) ≡ plus (tests + 1) (bit_or mask ((1 * 2 ^ b) % 2 ^ 32)) (ended (path (n - (tests + 1)) ws width n w next))
  goes_on next b h e =
      ap (λ (p : Ending). plus tests mask (ended p)) first_node
      ∙ on (node_of width n at (word ws at)) next b e
      ∙ ap (λ (k : ℕ). plus (tests + 1) (bit_or mask k) (ended (rest next))) (sym (one_shl b h))

  -- a leaf adds nothing
  leaf : (e : Option ℕ) → plus tests mask (ended (arrives e [])) ≡ finished e tests mask
  unfolding mask_of
  leaf e = let z : tests + 0 ≡ tests = omega arith in ap₂ (finished e) z (or_zero_r mask)

  end : (x : code.Option Node) (o : code.Option ℕ) → went_of x w at ≡ Ok (went.Ends o)
      → plus tests mask (ended (onward (said_node at x) w at rest)) ≡ finished (maybe_of o) tests mask
  unfolding went_of
  end None o e = absurd (cc)
  end (Some (node.Asks b k)) o e = absurd (cc)
  end (Some (node.Names j)) o e = let q : Some j ≡ o = cc in leaf (maybe_of (Some j)) ∙ ap (λ (i : code.Option ℕ). finished (maybe_of i) tests mask) q
  end (Some node.Nothing) o e = let q : None ≡ o = cc in leaf (maybe_of None) ∙ ap (λ (i : code.Option ℕ). finished (maybe_of i) tests mask) q

  pub ends : (o : code.Option ℕ) → went_of (node_of width n at (word ws at)) w at ≡ Ok (went.Ends o)
      → plus tests mask (ended (path (n - tests) ws width n w at)) ≡ finished (maybe_of o) tests mask
  ends o e = ap (λ (p : Ending). plus tests mask (ended p)) first_node ∙ end (node_of width n at (word ws at)) o e

  damaged : (x : code.Option Node) (r : Refusal) → went_of x w at ≡ Err r → plus tests mask (ended (onward (said_node at x) w at rest)) ≡ refused_as r
  unfolding went_of
  damaged None r e = let q : refusal.Damaged at ≡ r = cc in ap (λ (k : Refusal). refused_as {A = Walk} k) q
  damaged (Some (node.Asks b k)) r e = absurd (cc)
  damaged (Some (node.Names j)) r e = absurd (cc)
  damaged (Some node.Nothing) r e = absurd (cc)

  pub breaks_off : (r : Refusal) → went_of (node_of width n at (word ws at)) w at ≡ Err r
      → plus tests mask (ended (path (n - tests) ws width n w at)) ≡ refused_as r
  breaks_off r e = ap (λ (p : Ending). plus tests mask (ended p)) first_node ∙ damaged (node_of width n at (word ws at)) r e
