-- Walks over unmatching patterns and conditions: none left, or the one at hand and the rest. Assumes nothing.
use mathlib.Core.Path.{◌≡◌, refl, sym, ◌∙◌}
use mathlib.Core.List.{List, [], ◌∷◌, ◌++◌}
use Prim.Native.Nat.{ℕ, zero, suc, ◌+◌, ◌-◌, ◌<◌, ◌≤◌}
use native.Mathlib.Omega.{arith}
use native.Mathlib.Numerals.{sub-one}
use lib.ListN.{length}
use Rattle.std.specs.List.{list_all, list_any}
use Rattle.words.specs.Tests.{◌and◌, ◌or◌, all_of, any_of}
use mathlib.Core.Bool.{Bool, true, false}
use lib.Bits.{bit_or}
use Rattle.words.specs.Words.{bit}
use Rattle.words.proofs.Bits.{bit_or_lem}
use Rattle.words.proofs.Logic.{cases}
use Rattle.table.specs.Table.{pattern_at, unmatching_at, condition_at, condition_end, conditions_at}

-- the library's searches are the definitions'
pub all_is : {A : Type 0} (f : A → Bool) (xs : List A) → list_all f xs ≡ all_of f xs
unfolding all_of ◌and◌
all_is f [] = refl
all_is f (x ∷ xs) = cases (f x) (λ t. rw t (all_is f xs)) (λ t. rw t)

pub any_is : {A : Type 0} (f : A → Bool) (xs : List A) → list_any f xs ≡ any_of f xs
unfolding any_of ◌or◌
any_is f [] = refl
any_is f (x ∷ xs) = cases (f x) (λ t. rw t) (λ t. rw t (any_is f xs))

-- one element more
pub any_push : {A : Type 0} (f : A → Bool) (xs : List A) (y : A) → any_of f (xs ++ y ∷ []) ≡ any_of f xs or f y
unfolding any_of ◌or◌
any_push f [] y = cases (f y) (λ t. rw t) (λ t. rw t)
any_push f (x ∷ xs) y = cases (f x) (λ t. rw t) (λ t. rw t (any_push f xs y))

or_assoc : (a b c : Bool) → (a or b) or c ≡ a or (b or c)
unfolding ◌or◌
or_assoc true b c = refl
or_assoc false b c = refl

or_none : (a : Bool) → a or false ≡ a
unfolding ◌or◌
or_none true = refl
or_none false = refl

-- a has the bits of m, and those that f says of one of the items
module _ {A : Type 0} (f : ℕ → A → Bool) (m : ℕ) where
  abbrev pub Gathers : List A → ℕ → Type 0
  Gathers ys a = (i : ℕ) → bit a i ≡ bit m i or any_of (f i) ys

  pub gathers_none : Gathers [] m
  unfolding any_of
  gathers_none i = sym (or_none (bit m i))

  pub gathers_more : (ys : List A) (a x : ℕ) (y : A) → ((i : ℕ) → bit x i ≡ f i y) → Gathers ys a → Gathers (ys ++ y ∷ []) (bit_or a x)
  gathers_more ys a x y e g i = bit_or_lem a x i ∙ rw (g i, e i, any_push (f i) ys y) (or_assoc (bit m i) (any_of (f i) ys) (f i y))

module _ (ws : List ℕ) where
  pub no_patterns : (n p : ℕ) → n < 1 → unmatching_at ws n p ≡ []
  unfolding unmatching_at
  no_patterns zero p h = refl
  no_patterns (suc n) p h = absurd (omega arith)

  pub more_patterns : (n p : ℕ) → 1 ≤ n → unmatching_at ws n p ≡ pattern_at ws (p + 1) ∷ unmatching_at ws (n - 1) (p + 3)
  unfolding unmatching_at
  more_patterns zero p h = absurd (omega arith)
  more_patterns (suc n) p h = rw (sub-one (suc n))

  pub no_conditions : (n p : ℕ) → n < 1 → conditions_at ws n p ≡ []
  unfolding conditions_at
  no_conditions zero p h = refl
  no_conditions (suc n) p h = absurd (omega arith)

  -- where none is left, any place will do
  pub none_left : (n p q : ℕ) → n < 1 → conditions_at ws n p ≡ conditions_at ws n q
  none_left n p q h = no_conditions n p h ∙ sym (no_conditions n q h)

  pub more_conditions : (n p : ℕ) → 1 ≤ n → conditions_at ws n p ≡ condition_at ws p ∷ conditions_at ws (n - 1) (condition_end ws p)
  unfolding conditions_at
  more_conditions zero p h = absurd (omega arith)
  more_conditions (suc n) p h = rw (sub-one (suc n))

  pub fewer_patterns : (n p : ℕ) → 1 ≤ n → length (unmatching_at ws (n - 1) (p + 3)) < length (unmatching_at ws n p)
  fewer_patterns n p h = rw (more_patterns n p h) (omega arith)

  pub fewer_conditions : (n p : ℕ) → 1 ≤ n → length (conditions_at ws (n - 1) (condition_end ws p)) < length (conditions_at ws n p)
  fewer_conditions n p h = rw (more_conditions n p h) (omega arith)
