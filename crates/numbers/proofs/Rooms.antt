-- What the call that writes text passes on, for every room. Assumes nothing.
use Prim.Native.Nat.{ℕ, ◌≤◌, ◌<◌}
use mathlib.Core.Bool.{Bool, true, false}
use mathlib.Core.Path.{◌≡◌, refl, sym, ap, ◌∙◌}
use mathlib.Core.List.{List}
use mathlib.Core.Logic.{◌↔◌}
use native.Mathlib.Omega.{arith}
use lib.Dec.{leb}
use lib.ListN.{length}
use borrow.Author.Tests.{le-leb, lt-leb, leb-true, leb-false}
use Rattle.words.specs.Outcome.{Outcome, result, faulty, refused}
use Rattle.words.proofs.Logic.{cases}
use Rattle.words.proofs.Outcomes.{not_refused, not_faulty, refused_not_faulty, other_number}
use Rattle.table.specs.Check.{Check, fine, fault}
use Rattle.numbers.specs.Calls.{answer_of, length_of}

-- a text has room, or has none
module _ (text : List ℕ) (room : ℕ) where
  pub roomy : length text ≤ room → length_of (result text) room ≡ result (length text)
  unfolding length_of
  roomy h = rw (le-leb (length text) room h)

  pub narrow : room < length text → length_of (result text) room ≡ refused 18 0 0
  unfolding length_of
  narrow h = rw (lt-leb (length text) room h)

  either : {G : Type 0} → (length text ≤ room → length_of (result text) room ≡ result (length text) → G)
      → (room < length text → length_of (result text) room ≡ refused 18 0 0 → G) → G
  either f g =
      cases (leb (length text) room)
      (λ t. let h = leb-true _ _ t in f h (roomy h))
      (λ t. let h = leb-false _ _ t in g h (narrow h))

-- a fault, and a refusal with another number than 18, is passed on, and comes from nothing else
pub passed_fault : (o : Outcome (List ℕ)) (room n p : ℕ) → (length_of o room ≡ faulty n p) ↔ (o ≡ faulty n p)
unfolding length_of
passed_fault (faulty m q) room n p = (λ e. let a : m ≡ n = cc in let b : q ≡ p = cc in rw (a, b), λ e. let a : m ≡ n = cc in let b : q ≡ p = cc in rw (a, b))
passed_fault (refused m q x) room n p = (λ e. absurd (refused_not_faulty e), λ e. absurd (refused_not_faulty e))
passed_fault (result text) room n p =
    (λ e. absurd (either text room (λ h q. not_faulty (sym q ∙ e)) (λ h q. refused_not_faulty (sym q ∙ e))), λ e. absurd (not_faulty e))

pub passed : (o : Outcome (List ℕ)) (room n : ℕ) → (n ≡ 18 → ⊥) → (length_of o room ≡ refused n 0 0) ↔ (o ≡ refused n 0 0)
unfolding length_of
passed (faulty m q) room n d = (λ e. absurd (refused_not_faulty (sym e)), λ e. absurd (refused_not_faulty (sym e)))
passed (refused m q x) room n d =
    (λ e. let a : m ≡ n = cc in let b : q ≡ 0 = cc in let c : x ≡ 0 = cc in rw (a, b, c), λ e. let a : m ≡ n = cc in let b : q ≡ 0 = cc in let c : x ≡ 0 = cc in rw (a, b, c))
passed (result text) room n d =
    (λ e. absurd (either text room (λ h q. not_refused (sym q ∙ e)) (λ h q. other_number (sym q ∙ e) (λ z. d (sym z)))), λ e. absurd (not_refused e))

-- no answer on a field's word is 18
pub not_eighteen : (c : Check) (fits : Bool) (text : List ℕ) → answer_of c fits text ≡ refused 18 0 0 → ⊥
unfolding answer_of
not_eighteen (fault n p) fits text e = refused_not_faulty (sym e)
not_eighteen fine true text e = not_refused e
not_eighteen fine false text e = other_number e (λ z. omega arith)

-- 18, or a length: there is a text, and it is longer than the room, or is not
module _ (o : Outcome (List ℕ)) (none : o ≡ refused 18 0 0 → ⊥) (room : ℕ) where
  pub too_long : (length_of o room ≡ refused 18 0 0) ↔ ((text : List ℕ) × (o ≡ result text) × (room < length text))
  unfolding length_of
  too_long = (go o none, λ d. rw d.1 (narrow d.0 room d.2))
    where
      go : (o : Outcome (List ℕ)) → (o ≡ refused 18 0 0 → ⊥) → length_of o room ≡ refused 18 0 0 → (text : List ℕ) × (o ≡ result text) × (room < length text)
      go (faulty n p) f e = absurd (refused_not_faulty (sym e))
      go (refused n p x) f e = absurd (f (let a : n ≡ 18 = cc in let b : p ≡ 0 = cc in let c : x ≡ 0 = cc in rw (a, b, c)))
      go (result text) f e = either text room (λ h q. absurd (not_refused (sym q ∙ e))) (λ h q. (text, refl, h))

  pub long : (n : ℕ) → (length_of o room ≡ result n) ↔ ((text : List ℕ) × (o ≡ result text) × (length text ≡ n) × (n ≤ room))
  unfolding length_of
  long n = (go o, λ d. rw d.1 (roomy d.0 room (rw d.2 d.3) ∙ ap result d.2))
    where
      go : (o : Outcome (List ℕ)) → length_of o room ≡ result n → (text : List ℕ) × (o ≡ result text) × (length text ≡ n) × (n ≤ room)
      go (faulty n p) e = absurd (not_faulty (sym e))
      go (refused n p x) e = absurd (not_refused (sym e))
      go (result text) e = either text room (λ h q. let a : length text ≡ n = cc in (text, refl, a, rw a at h)) (λ h q. absurd (not_refused (sym e ∙ q)))
