-- The exclusion check: searches over unmatching patterns and over conditions. Assumes nothing.
use mathlib.Core.Path.{◌≡◌, refl, ap}
use mathlib.Core.List.{List, [], ◌∷◌}
use mathlib.Core.Bool.{Bool, true, false, not}
use Prim.Native.Nat.{ℕ, suc, ◌+◌, ◌-◌, ◌≤◌, ◌<◌}
use native.Mathlib.Omega.{arith}
use Rattle.words.specs.Tests.{◌and◌, any_of}
use Rattle.words.proofs.Logic.{search_pass, search_found, search_none}
use Rattle.words.specs.Words.{word}
use Rattle.table.specs.Table.{unmatching_of, conditions_place, conditions_of, pattern_at, unmatching_at, condition_at, condition_end, conditions_at, entry_at}
use Rattle.choice.specs.Rule.{matches}
use Rattle.selection.specs.Selection.{satisfied, claims}

module _ (ws : List ℕ) (w : ℕ) where
  unmatching_nil : (p : ℕ) → unmatching_at ws 0 p ≡ []
  unfolding unmatching_at
  unmatching_nil p = refl

  unmatching_suc : (n p : ℕ) → unmatching_at ws (suc n) p ≡ pattern_at ws (p + 1) ∷ unmatching_at ws n (p + 3)
  unfolding unmatching_at
  unmatching_suc n p = refl

  pub unmatching_pass : (n p : ℕ) → 0 < n → matches w (pattern_at ws (p + 1)) ≡ false → any_of (matches w) (unmatching_at ws n p) ≡ any_of (matches w) (unmatching_at ws (n - 1) (p + 3))
  unmatching_pass = search_pass (matches w) (λ p. pattern_at ws (p + 1)) (λ p. p + 3) (unmatching_at ws) unmatching_nil unmatching_suc

  pub unmatching_found : (n p : ℕ) → 0 < n → matches w (pattern_at ws (p + 1)) ≡ true → any_of (matches w) (unmatching_at ws n p) ≡ true
  unmatching_found = search_found (matches w) (λ p. pattern_at ws (p + 1)) (λ p. p + 3) (unmatching_at ws) unmatching_nil unmatching_suc

  pub unmatching_none : (n p : ℕ) → n < 1 → any_of (matches w) (unmatching_at ws n p) ≡ false
  unmatching_none = search_none (matches w) (λ p. pattern_at ws (p + 1)) (λ p. p + 3) (unmatching_at ws) unmatching_nil unmatching_suc

  condition_nil : (p : ℕ) → conditions_at ws 0 p ≡ []
  unfolding conditions_at
  condition_nil p = refl

  condition_suc : (n p : ℕ) → conditions_at ws (suc n) p ≡ condition_at ws p ∷ conditions_at ws n (condition_end ws p)
  unfolding conditions_at
  condition_suc n p = refl

  pub condition_pass : (n p : ℕ) → 0 < n → satisfied w (condition_at ws p) ≡ false → any_of (satisfied w) (conditions_at ws n p) ≡ any_of (satisfied w) (conditions_at ws (n - 1) (condition_end ws p))
  condition_pass = search_pass (satisfied w) (condition_at ws) (condition_end ws) (conditions_at ws) condition_nil condition_suc

  pub condition_found : (n p : ℕ) → 0 < n → satisfied w (condition_at ws p) ≡ true → any_of (satisfied w) (conditions_at ws n p) ≡ true
  condition_found = search_found (satisfied w) (condition_at ws) (condition_end ws) (conditions_at ws) condition_nil condition_suc

  pub condition_none : (n p : ℕ) → n ≤ 0 → any_of (satisfied w) (conditions_at ws n p) ≡ false
  condition_none n p h = search_none (satisfied w) (condition_at ws) (condition_end ws) (conditions_at ws) condition_nil condition_suc n p (omega arith)

  -- a condition satisfied, or not, by its two parts; n is the count as the code has it
  module _ (p n : ℕ) (c : n ≡ unmatching_of (word ws p)) (e : matches w (pattern_at ws (p + 1)) ≡ true) where
    pub satisfies : any_of (matches w) (unmatching_at ws n (p + 3)) ≡ false → satisfied w (condition_at ws p) ≡ true
    unfolding satisfied ◌and◌
    satisfies f = rw (e, ← c, f)

    pub fails_unmatching : any_of (matches w) (unmatching_at ws n (p + 3)) ≡ true → satisfied w (condition_at ws p) ≡ false
    unfolding satisfied ◌and◌
    fails_unmatching f = rw (e, ← c, f)

  pub fails_matching : (p : ℕ) → matches w (pattern_at ws (p + 1)) ≡ false → satisfied w (condition_at ws p) ≡ false
  unfolding satisfied ◌and◌
  fails_matching p e = rw e

  -- an entry claims, or not; n is the count and f the place of its conditions as the code has them
  pub claims_not : (p : ℕ) → matches w (pattern_at ws (p + 1)) ≡ false → false ≡ claims w (entry_at ws p)
  unfolding claims ◌and◌
  claims_not p e = rw e

  pub claims_by : (p n f : ℕ) (r : Bool) → matches w (pattern_at ws (p + 1)) ≡ true → n ≡ conditions_of (word ws p) → f ≡ conditions_place ws p
      → r ≡ any_of (satisfied w) (conditions_at ws n f) → not r ≡ claims w (entry_at ws p)
  unfolding claims ◌and◌
  claims_by p n f r e c d t = rw (e, ← c, ← d) (ap not t)
