-- Tests over a list, and over the numbers below a bound. Each computes. All other crates cite these.
use Rattle.std.specs.Prelude.{ℕ, zero, suc, Bool, true, false, not, cond, List, [], ◌∷◌, leb, eqb}
use Rattle.std.proofs.Math.Option.{Option, none, some}

infixl 35 ◌and◌
infixl 30 ◌or◌
-- both tests hold; at least one does. Shut, so that a proof's `_` finds their operands.
unfoldable pub ◌and◌ : Bool → Bool → Bool
true and b = b
false and b = false

unfoldable pub ◌or◌ : Bool → Bool → Bool
true or b = true
false or b = b

-- every element of the list passes; some element does
unfoldable pub all_of : {A : Type 0} → (A → Bool) → List A → Bool
all_of p [] = true
all_of p (x ∷ xs) = p x and all_of p xs

unfoldable pub any_of : {A : Type 0} → (A → Bool) → List A → Bool
any_of p [] = false
any_of p (x ∷ xs) = p x or any_of p xs

-- a number is in a list; no number is in it twice
unfoldable pub is_in : ℕ → List ℕ → Bool
is_in i [] = false
is_in i (j ∷ js) = eqb i j or is_in i js

unfoldable pub distinct : List ℕ → Bool
distinct [] = true
distinct (j ∷ js) = not (is_in j js) and distinct js

-- every number below n passes; some number below n does
unfoldable pub every : (ℕ → Bool) → ℕ → Bool
every p zero = true
every p (suc n) = every p n and p n

unfoldable pub exists : (ℕ → Bool) → ℕ → Bool
exists p zero = false
exists p (suc n) = exists p n or p n

-- how many numbers below n pass
unfoldable pub how_many : (ℕ → Bool) → ℕ → ℕ
how_many p zero = zero
how_many p (suc n) = cond (p n) (suc (how_many p n)) (how_many p n)

abbrev pub or_here : Option ℕ → Bool → ℕ → Option ℕ
or_here (some i) b n = some i
or_here none true n = some n
or_here none false n = none

-- the first number below n that passes
unfoldable pub first : (ℕ → Bool) → ℕ → Option ℕ
first p zero = none
first p (suc n) = or_here (first p n) (p n) n

-- the number below n at which v is greatest, the highest on a tie
unfoldable pub best : (ℕ → ℕ) → ℕ → ℕ
best v zero = zero
best v (suc n) = let b = best v n in cond (leb (v b) (v n)) n b
