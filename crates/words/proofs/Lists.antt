-- Laws of lists of numbers. Assumes nothing.
use mathlib.Core.Path.{◌≡◌, refl, sym, ap, ◌∙◌}
use mathlib.Core.List.{List, [], ◌∷◌, ◌++◌}
use Prim.Native.Nat.{ℕ, zero, suc, ◌+◌, ◌<◌}
use native.Mathlib.Nat.{add-zero, add-suc, suc-add}
use native.Mathlib.Omega.{arith}
use lib.ListN.{length, get_or, set, replicate}
use lib.Seq.{sets, set_comm}

-- an array of zeros is zero everywhere
pub get_d_zeros : (n k : ℕ) → get_or {A = ℕ} (replicate n 0) k 0 ≡ 0
get_d_zeros zero k = refl
get_d_zeros (suc n) zero = refl
get_d_zeros (suc n) (suc k) = get_d_zeros n k

-- ---- storing a list's elements one after the other

-- two lists in a row
pub sets_append : (a b l : List ℕ) (i : ℕ) → sets l i (a ++ b) ≡ sets (sets l i a) (i + length a) b
sets_append [] b l i = rw add-zero refl
sets_append (x ∷ a) b l i =
    sets_append a b (set l i x) (suc i) ∙ ap (λ (k : ℕ). sets (sets (set l i x) (suc i) a) k b) (suc-add i (length a) ∙ sym (add-suc i (length a)))

-- a store before the first place comes first
pub set_sets : (ws l : List ℕ) (i j x : ℕ) → j < i → set (sets l i ws) j x ≡ sets (set l j x) i ws
set_sets [] l i j x h = refl
set_sets (w ∷ ws) l i j x h =
    set_sets ws (set l i w) (suc i) j x (omega arith) ∙ ap (λ (k : List ℕ). sets k (suc i) ws) (set_comm l i j w x (λ (e : i ≡ j). omega arith))
