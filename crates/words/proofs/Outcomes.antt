-- What a call says is one thing: a result is no refusal, a refusal no fault, and of one number. Assumes nothing.
use Prim.Native.Nat.{ℕ}
use Rattle.words.proofs.Logic.{one_to_one}
use native.Mathlib.Omega.{arith}
use mathlib.Core.Path.{◌≡◌, sym, ap, ◌∙◌}
use mathlib.Core.Logic.{◌↔◌}
use mathlib.Core.Path.{refl}
use mathlib.Core.Bool.{cond}
use lib.Dec.{eqb}
use Rattle.std.specs.Prelude.{Option, Some, None, Result, Ok, Err}
use Rattle.std.proofs.Math.Option as maybe
use Rattle.words.specs.Outcome.{Outcome, result, faulty, refused, number_of, refused_as, said_as, said, cause_of, maybe_of}
use Rattle.words.specs.declared.Fault.{Fault}
use Rattle.words.specs.declared.Fault.TheVariants.{FirstWord, Structure, Pattern, Field}
use Rattle.words.specs.declared.Refusal.{Refusal}
use Rattle.words.specs.declared.Refusal.TheVariants as refusal

pub not_refused : {A : Type 0} {v : A} {n p x : ℕ} → result v ≡ refused n p x → ⊥
not_refused e = let z : ◌≡◌ {A = ℕ} 0 1 = cc in omega arith

pub not_faulty : {A : Type 0} {v : A} {n p : ℕ} → result v ≡ faulty n p → ⊥
not_faulty e = let z : ◌≡◌ {A = ℕ} 0 1 = cc in omega arith

pub refused_not_faulty : {A : Type 0} {m q w n p : ℕ} → ◌≡◌ {A = Outcome A} (refused m q w) (faulty n p) → ⊥
refused_not_faulty e = let z : ◌≡◌ {A = ℕ} 0 1 = cc in omega arith

pub other_number : {A : Type 0} {m q w n p x : ℕ} → ◌≡◌ {A = Outcome A} (refused m q w) (refused n p x) → (m ≡ n → ⊥) → ⊥
other_number e d = d cc

-- a call that passes on what it is given, but for a result, and has no fault of its own: its faults are those that it was given
pub faults_passed : {A B : Type 0} (call : Outcome A → Outcome B) → ((n p : ℕ) → call (faulty n p) ≡ faulty n p) → ((n p x : ℕ) → call (refused n p x) ≡ refused n p x)
    → ((a : A) (n p : ℕ) → call (result a) ≡ faulty n p → ⊥) → (o : Outcome A) (n p : ℕ) → (call o ≡ faulty n p) ↔ (o ≡ faulty n p)
faults_passed call f r own (faulty a b) n p = (
  λ e. let q = sym (f a b) ∙ e in let x : a ≡ n = cc in let y : b ≡ p = cc in rw (x, y),
  λ e. let x : a ≡ n = cc in let y : b ≡ p = cc in rw (x, y) (f n p),
)
faults_passed call f r own (refused a b x) n p = (λ e. absurd (refused_not_faulty (sym (r a b x) ∙ e)), λ e. absurd (refused_not_faulty e))
faults_passed call f r own (result a) n p = (λ e. absurd (own a n p e), λ e. absurd (not_faulty e))

-- ---- each case of what refuses says another thing, so that a promise of what is said fixes the answer itself

fault_by : ℕ → Fault
fault_by n = cond (eqb n 1) FirstWord (cond (eqb n 2) Structure (cond (eqb n 3) Pattern Field))

later_by : (number place word : ℕ) → Refusal
later_by n p w =
    cond (eqb n 13) (refusal.NotSelected w) (cond (eqb n 14) refusal.BadTree (cond (eqb n 15) refusal.BadTable (cond (eqb n 16) refusal.BadImage
    (cond (eqb n 17) (refusal.Full p) (cond (eqb n 18) refusal.NoRoom (refusal.Unreached p))))))

refusal_by : (number place word : ℕ) → Refusal
refusal_by n p w =
    cond (eqb n 5) refusal.NoFit (cond (eqb n 6) (refusal.Ambiguous w) (cond (eqb n 7) refusal.TooWide (cond (eqb n 8) refusal.BadHeader
    (cond (eqb n 9) (refusal.Damaged p) (cond (eqb n 10) refusal.ShortBuffer (cond (eqb n 11) refusal.NoEntry
    (cond (eqb n 12) (refusal.Misfit p) (later_by n p w))))))))

back : {A B : Type 0} → (B → A) → Outcome B → Result A Refusal
back m (result b) = Ok (m b)
back m (faulty n p) = Err (refusal.Faulty (fault_by n) p)
back m (refused n p w) = Err (refusal_by n p w)

back_refused : {A B : Type 0} (m : B → A) (r : Refusal) → back m (refused_as r) ≡ Err r
unfolding back refusal_by later_by fault_by
back_refused m (refusal.Faulty FirstWord p) = refl
back_refused m (refusal.Faulty Structure p) = refl
back_refused m (refusal.Faulty Pattern p) = refl
back_refused m (refusal.Faulty Field p) = refl
back_refused m refusal.NoFit = refl
back_refused m (refusal.Ambiguous w) = refl
back_refused m refusal.TooWide = refl
back_refused m refusal.BadHeader = refl
back_refused m (refusal.Damaged i) = refl
back_refused m refusal.ShortBuffer = refl
back_refused m refusal.NoEntry = refl
back_refused m (refusal.Misfit i) = refl
back_refused m (refusal.NotSelected w) = refl
back_refused m refusal.BadTree = refl
back_refused m refusal.BadTable = refl
back_refused m refusal.BadImage = refl
back_refused m (refusal.Full a) = refl
back_refused m refusal.NoRoom = refl
back_refused m (refusal.Unreached e) = refl

-- of a result that another value says, one for one
module _ {A B : Type 0} (meant : A → B) (m : B → A) (h : (a : A) → m (meant a) ≡ a) where
  back_said : (r : Result A Refusal) → back m (said_as meant r) ≡ r
  unfolding back
  back_said (Ok a) = ap Ok (h a)
  back_said (Err r) = back_refused m r

  pub said_as_one : (r s : Result A Refusal) → said_as meant r ≡ said_as meant s → r ≡ s
  said_as_one = one_to_one (said_as meant) (back m) back_said

-- and of a result that says itself
pub said_one : {A : Type 0} (r s : Result A Refusal) → said r ≡ said s → r ≡ s
said_one (Ok a) (Ok b) e = said_as_one (λ x. x) (λ x. x) (λ x. refl) (Ok a) (Ok b) e
said_one (Ok a) (Err r) e = said_as_one (λ x. x) (λ x. x) (λ x. refl) (Ok a) (Err r) e
said_one (Err r) (Ok a) e = said_as_one (λ x. x) (λ x. x) (λ x. refl) (Err r) (Ok a) e
said_one (Err r) (Err s) e = said_as_one (λ x. x) (λ x. x) (λ x. refl) (Err r) (Err s) e

-- what refuses is no result
pub refused_no_result : {A : Type 0} (r : Refusal) (a : A) → refused_as r ≡ result a → ⊥
unfolding back
refused_no_result {A = A} r a e =
    let q : ◌≡◌ {A = Result A Refusal} (Err r) (Ok a) = sym (back_refused (λ x. x) r) ∙ ap (back (λ x. x)) e in
    let z : ◌≡◌ {A = ℕ} 0 1 = cc in omega arith

-- a table's fault is the same in what every call says
pub fault_in_all : {A B : Type 0} (r : Refusal) (n p : ℕ) → ◌≡◌ {A = Outcome A} (refused_as r) (faulty n p) → ◌≡◌ {A = Outcome B} (refused_as r) (faulty n p)
fault_in_all (refusal.Faulty f q) n p e = let x : number_of f ≡ n = cc in let y : q ≡ p = cc in rw (x, y)
fault_in_all refusal.NoFit n p e = absurd (refused_not_faulty e)
fault_in_all (refusal.Ambiguous w) n p e = absurd (refused_not_faulty e)
fault_in_all refusal.TooWide n p e = absurd (refused_not_faulty e)
fault_in_all refusal.BadHeader n p e = absurd (refused_not_faulty e)
fault_in_all (refusal.Damaged i) n p e = absurd (refused_not_faulty e)
fault_in_all refusal.ShortBuffer n p e = absurd (refused_not_faulty e)
fault_in_all refusal.NoEntry n p e = absurd (refused_not_faulty e)
fault_in_all (refusal.Misfit i) n p e = absurd (refused_not_faulty e)
fault_in_all (refusal.NotSelected w) n p e = absurd (refused_not_faulty e)
fault_in_all refusal.BadTree n p e = absurd (refused_not_faulty e)
fault_in_all refusal.BadTable n p e = absurd (refused_not_faulty e)
fault_in_all refusal.BadImage n p e = absurd (refused_not_faulty e)
fault_in_all (refusal.Full a) n p e = absurd (refused_not_faulty e)
fault_in_all refusal.NoRoom n p e = absurd (refused_not_faulty e)
fault_in_all (refusal.Unreached i) n p e = absurd (refused_not_faulty e)

-- of what there is, or nothing
abbrev pub option_of : {A : Type 0} → maybe.Option A → Option A
option_of (maybe.some a) = Some a
option_of maybe.none = None

pub option_back : {A : Type 0} (o : Option A) → option_of (maybe_of o) ≡ o
option_back (Some a) = refl
option_back None = refl

-- what refuses has the same number, place and word in what every call says: `Cause::of` is of each
refused_cause : (A B : Type 0) (r : Refusal) → cause_of {A = A} (refused_as r) ≡ cause_of {A = B} (refused_as r)
refused_cause A B (refusal.Faulty f p) = refl
refused_cause A B refusal.NoFit = refl
refused_cause A B (refusal.Ambiguous w) = refl
refused_cause A B refusal.TooWide = refl
refused_cause A B refusal.BadHeader = refl
refused_cause A B (refusal.Damaged i) = refl
refused_cause A B refusal.ShortBuffer = refl
refused_cause A B refusal.NoEntry = refl
refused_cause A B (refusal.Misfit i) = refl
refused_cause A B (refusal.NotSelected w) = refl
refused_cause A B refusal.BadTree = refl
refused_cause A B refusal.BadTable = refl
refused_cause A B refusal.BadImage = refl
refused_cause A B (refusal.Full a) = refl
refused_cause A B refusal.NoRoom = refl
refused_cause A B (refusal.Unreached e) = refl

pub cause_as : {A B : Type 0} (meant : A → B) (r : Result A Refusal) → cause_of (said_as meant r) ≡ cause_of (said r)
cause_as meant (Ok a) = refl
cause_as {A = A} {B = B} meant (Err r) = refused_cause B A r
