-- Tests as facts, and the laws of the tests over lists and over the numbers below a bound. Assumes nothing.
use native.Mathlib.Numerals.{sub-one}
use Prim.Native.Nat.{ℕ, zero, suc, ◌≤◌, ◌<◌, ◌-◌, zero-le, suc-le-suc}
use native.Mathlib.Nat.{not-suc-le-zero, le_refl, le-suc, le_trans, le_of_suc-le-suc, eq-or-lt_of_le, le_of_eq}
use native.Mathlib.Omega.{arith}
use mathlib.Core.Path.{◌≡◌, refl, sym, ap, ap₂, ◌∙◌}
use mathlib.Core.Logic.{◌⊎◌, inl, inr}
use mathlib.Core.Bool.{Bool, true, false, not, cond, true≢false, false≢true}
use mathlib.Core.List.{List, [], ◌∷◌}
use mathlib.Core.Option.{Option, none, some}
use lib.Dec.{leb, eqb}
use lib.ListN.{length, get_or}
use borrow.Author.Tests.{leb-true, leb-false, eq-eqb, ne_eqb}
use Rattle.words.specs.Tests.{◌and◌, ◌or◌, all_of, any_of, every, exists, how_many, first, best, or_here}

-- by cases on a test
pub cases {ℓ} : {G : Type ℓ} (b : Bool) → (b ≡ true → G) → (b ≡ false → G) → G
cases true f g = f refl
cases false f g = g refl

pub clash {ℓ} : {A : Type ℓ} {b : Bool} → b ≡ true → b ≡ false → A
clash p q = absurd (true≢false (sym p ∙ q))

pub is_true : {b : Bool} → (b ≡ false → ⊥) → b ≡ true
is_true {b = true} h = refl
is_true {b = false} h = absurd (h refl)

pub is_false : {b : Bool} → (b ≡ true → ⊥) → b ≡ false
is_false {b = true} h = absurd (h refl)
is_false {b = false} h = refl

-- two tests are equal when each gives the other
pub same : {a b : Bool} → (a ≡ true → b ≡ true) → (b ≡ true → a ≡ true) → a ≡ b
same {a = true} f g = sym (f refl)
same {a = false} {b = true} f g = g refl
same {a = false} {b = false} f g = refl

pub and_l : (b : Bool) {a : Bool} → a and b ≡ true → a ≡ true
unfolding ◌and◌
and_l b {a = true} e = refl
and_l b {a = false} e = absurd (false≢true e)

pub and_r : (a : Bool) {b : Bool} → a and b ≡ true → b ≡ true
unfolding ◌and◌
and_r true e = e
and_r false e = absurd (false≢true e)

pub and_i : {a b : Bool} → a ≡ true → b ≡ true → a and b ≡ true
unfolding ◌and◌
and_i {a = true} p q = q
and_i {a = false} p q = absurd (false≢true p)

pub and_e : {a b : Bool} → a and b ≡ false → a ≡ true → b ≡ false
unfolding ◌and◌
and_e {a = true} e p = e
and_e {a = false} e p = absurd (false≢true p)

pub or_l : (b : Bool) {a : Bool} → a or b ≡ false → a ≡ false
unfolding ◌or◌
or_l b {a = true} e = e
or_l b {a = false} e = refl

pub or_r : (a : Bool) {b : Bool} → a or b ≡ false → b ≡ false
unfolding ◌or◌
or_r true e = absurd (true≢false e)
or_r false e = e

pub or_i : {a b : Bool} → a ≡ false → b ≡ false → a or b ≡ false
unfolding ◌or◌
or_i {a = true} p q = absurd (true≢false p)
or_i {a = false} p q = q

pub or_il : (b : Bool) {a : Bool} → a ≡ true → a or b ≡ true
unfolding ◌or◌
or_il b {a = true} p = refl
or_il b {a = false} p = absurd (false≢true p)

pub or_ir : (a : Bool) {b : Bool} → b ≡ true → a or b ≡ true
unfolding ◌or◌
or_ir true p = refl
or_ir false p = p

pub or_e : {a b : Bool} → a or b ≡ true → a ≡ false → b ≡ true
unfolding ◌or◌
or_e {a = true} e p = absurd (true≢false p)
or_e {a = false} e p = e

pub not_t : {b : Bool} → not b ≡ true → b ≡ false
not_t {b = true} e = sym e
not_t {b = false} e = refl

pub not_f : {b : Bool} → not b ≡ false → b ≡ true
not_f {b = true} e = refl
not_f {b = false} e = sym e

pub not_it : {b : Bool} → b ≡ false → not b ≡ true
not_it p = ap not p

pub not_if : {b : Bool} → b ≡ true → not b ≡ false
not_if p = ap not p

-- ---- lists

module _ {A : Type 0} where
  -- what every element gives every element gives of the list; what some element gives some element gives
  pub all_of_map : (p q : A → Bool) (l : List A) → ((x : A) → p x ≡ true → q x ≡ true) → all_of p l ≡ true → all_of q l ≡ true
  unfolding all_of
  all_of_map p q [] f e = refl
  all_of_map p q (x ∷ xs) f e = and_i (f x (and_l _ e)) (all_of_map p q xs f (and_r _ e))

  pub any_of_map : (p q : A → Bool) (l : List A) → ((x : A) → p x ≡ true → q x ≡ true) → any_of p l ≡ true → any_of q l ≡ true
  unfolding any_of
  any_of_map p q [] f e = e
  any_of_map p q (x ∷ xs) f e = cases (p x) (λ h. or_il _ (f x h)) (λ h. or_ir _ (any_of_map p q xs f (or_e e h)))

  -- all pass p: none passes q, if no element passes both
  pub all_of_none : (p q : A → Bool) (l : List A) → ((x : A) → p x ≡ true → q x ≡ false) → all_of p l ≡ true → any_of q l ≡ false
  unfolding all_of any_of
  all_of_none p q [] f e = refl
  all_of_none p q (x ∷ xs) f e = or_i (f x (and_l _ e)) (all_of_none p q xs f (and_r _ e))

  -- of a list whose elements pass g, not all pass p: one passes g and not p
  pub not_all_of : (g p : A → Bool) (l : List A) → all_of g l ≡ true → all_of p l ≡ false → any_of (λ x. g x and not (p x)) l ≡ true
  unfolding all_of any_of
  not_all_of g p [] e h = absurd (true≢false h)
  not_all_of g p (x ∷ xs) e h =
      cases (p x) (λ k. or_ir _ (not_all_of g p xs (and_r _ e) (and_e h k))) (λ k. or_il _ (and_i (and_l _ e) (not_it k)))

-- the elements by their numbers
module _ {A : Type 0} (d : A) (p : A → Bool) where
  pub all_of_at : (l : List A) → all_of p l ≡ true → (i : ℕ) → i < length l → p (get_or l i d) ≡ true
  unfolding all_of
  all_of_at [] e i h = absurd (not-suc-le-zero h)
  all_of_at (x ∷ xs) e zero h = and_l _ e
  all_of_at (x ∷ xs) e (suc i) h = all_of_at xs (and_r _ e) i (le_of_suc-le-suc h)

  pub all_of_make : (l : List A) → ((i : ℕ) → i < length l → p (get_or l i d) ≡ true) → all_of p l ≡ true
  unfolding all_of
  all_of_make [] f = refl
  all_of_make (x ∷ xs) f = and_i (f 0 (suc-le-suc zero-le)) (all_of_make xs (λ i h. f (suc i) (suc-le-suc h)))

-- ---- the numbers below a bound

pub below_suc {ℓ} : {G : Type ℓ} {i n : ℕ} → i < suc n → (i ≡ n → G) → (i < n → G) → G
below_suc {G = G} {i} {n} h f g = go (eq-or-lt_of_le (le_of_suc-le-suc h))
  where
    go : (i ≡ n) ⊎ (i < n) → G
    go (inl q) = f q
    go (inr l) = g l

pub every_at : (p : ℕ → Bool) (n : ℕ) → every p n ≡ true → (i : ℕ) → i < n → p i ≡ true
unfolding every
every_at p zero e i h = absurd (not-suc-le-zero h)
every_at p (suc n) e i h = below_suc h (λ q. ap p q ∙ and_r _ e) (λ l. every_at p n (and_l _ e) i l)

pub every_make : (p : ℕ → Bool) (n : ℕ) → ((i : ℕ) → i < n → p i ≡ true) → every p n ≡ true
unfolding every
every_make p zero f = refl
every_make p (suc n) f = and_i (every_make p n (λ i h. f i (le_trans h (le-suc n)))) (f n (le_refl (suc n)))

pub exists_none : (p : ℕ → Bool) (n : ℕ) → exists p n ≡ false → (i : ℕ) → i < n → p i ≡ false
unfolding exists
exists_none p zero e i h = absurd (not-suc-le-zero h)
exists_none p (suc n) e i h = below_suc h (λ q. ap p q ∙ or_r _ e) (λ l. exists_none p n (or_l _ e) i l)

pub exists_make : (p : ℕ → Bool) (n i : ℕ) → i < n → p i ≡ true → exists p n ≡ true
exists_make p n i h e = is_true (λ k. clash e (exists_none p n k i h))

pub exists_at : (p : ℕ → Bool) (n : ℕ) → exists p n ≡ true → (i : ℕ) × (i < n) × (p i ≡ true)
unfolding exists
exists_at p zero e = absurd (false≢true e)
exists_at p (suc n) e =
    cases (p n) (λ h. (n, le_refl (suc n), h))
    (λ h. let r = exists_at p n (is_true (λ k. clash e (or_i k h))) in (r.0, le_trans r.1 (le-suc n), r.2))

pub exists_no : (p : ℕ → Bool) (n : ℕ) → ((i : ℕ) → i < n → p i ≡ false) → exists p n ≡ false
exists_no p n f = is_false (λ t. let r = exists_at p n t in clash r.2 (f r.0 r.1))

-- by cases on an option
pub options {ℓ} : {G : Type ℓ} (o : Option ℕ) → (o ≡ none → G) → ((i : ℕ) → o ≡ some i → G) → G
options none f g = f refl
options (some i) f g = g i refl

-- the first that passes is below n and passes; where there is none, none passes
pub first_some : (p : ℕ → Bool) (n i : ℕ) → first p n ≡ some i → (i < n) × (p i ≡ true)
unfolding first
first_some p zero i e = absurd (let z : ◌≡◌ {A = ℕ} 0 1 = cc in omega arith)
first_some p (suc n) i e =
    options (first p n)
    (λ h. cases (p n)
    (λ k. let q : n ≡ i = cc in (omega arith, ap p (sym q) ∙ k))
    (λ k. absurd (let z : ◌≡◌ {A = ℕ} 0 1 = cc in omega arith)))
    (λ j h. let q : j ≡ i = cc in let r = first_some p n i (h ∙ ap some q) in (le_trans r.0 (le-suc n), r.1))

pub first_none : (p : ℕ → Bool) (n : ℕ) → first p n ≡ none → (i : ℕ) → i < n → p i ≡ false
unfolding first
first_none p zero e i h = absurd (not-suc-le-zero h)
first_none p (suc n) e i h =
    options (first p n)
    (λ k. below_suc h
    (λ q. cases (p n) (λ t. absurd (let z : ◌≡◌ {A = ℕ} 0 1 = cc in omega arith)) (λ t. ap p q ∙ t))
    (λ l. first_none p n k i l))
    (λ j k. absurd (let z : ◌≡◌ {A = ℕ} 0 1 = cc in omega arith))

-- none below the first passes
pub first_least : (p : ℕ → Bool) (n i : ℕ) → first p n ≡ some i → (j : ℕ) → j < i → p j ≡ false
unfolding first
first_least p zero i e j h = absurd (let z : ◌≡◌ {A = ℕ} 0 1 = cc in omega arith)
first_least p (suc n) i e j h =
    options (first p n)
    (λ k. cases (p n)
    (λ t. let q : n ≡ i = cc in first_none p n k j (rw q h))
    (λ t. absurd (let z : ◌≡◌ {A = ℕ} 0 1 = cc in omega arith)))
    (λ x k. let q : x ≡ i = cc in first_least p n i (k ∙ ap some q) j h)

pub first_no : (p : ℕ → Bool) (n : ℕ) → ((i : ℕ) → i < n → p i ≡ false) → first p n ≡ none
first_no p n f = options (first p n) (λ e. e) (λ j e. let r = first_some p n j e in clash r.1 (f j r.0))

-- the only one that passes is the first
pub first_only : (p : ℕ → Bool) (n i : ℕ) → i < n → p i ≡ true → ((j : ℕ) → j < n → p j ≡ true → j ≡ i) → first p n ≡ some i
first_only p n i h t u =
    options (first p n)
    (λ e. clash t (first_none p n e i h))
    (λ j e. let r = first_some p n j e in e ∙ ap some (u j r.0 r.1))

-- tests that agree below n have one first
pub first_same : (p q : ℕ → Bool) (n : ℕ) → ((i : ℕ) → i < n → p i ≡ q i) → first p n ≡ first q n
unfolding first
first_same p q zero f = refl
first_same p q (suc n) f =
    ap₂ (λ (o : Option ℕ) (b : Bool). or_here o b n) (first_same p q n (λ i h. f i (le_trans h (le-suc n)))) (f n (le_refl (suc n)))

pub exists_same : (p q : ℕ → Bool) (n : ℕ) → ((i : ℕ) → i < n → p i ≡ q i) → exists p n ≡ exists q n
unfolding exists
exists_same p q zero f = refl
exists_same p q (suc n) f =
    ap₂ ◌or◌ (exists_same p q n (λ i h. f i (le_trans h (le-suc n)))) (f n (le_refl (suc n)))

pub every_same : (p q : ℕ → Bool) (n : ℕ) → ((i : ℕ) → i < n → p i ≡ q i) → every p n ≡ every q n
unfolding every
every_same p q zero f = refl
every_same p q (suc n) f =
    ap₂ ◌and◌ (every_same p q n (λ i h. f i (le_trans h (le-suc n)))) (f n (le_refl (suc n)))

-- the greatest
pub best_max : (v : ℕ → ℕ) (n i : ℕ) → i < n → v i ≤ v (best v n)
unfolding best
best_max v zero i h = absurd (not-suc-le-zero h)
best_max v (suc n) i h =
    cases (leb (v (best v n)) (v n))
    (λ t. below_suc h
    (λ q. rw t (le_of_eq (ap v q)))
    (λ l. rw t (le_trans (best_max v n i l) (leb-true _ _ t))))
    (λ t. below_suc h
    (λ q. rw t (le_trans (le_of_eq (ap v q)) (le_trans (le-suc _) (leb-false (v (best v n)) (v n) t))))
    (λ l. rw t (best_max v n i l)))

best_le : (v : ℕ → ℕ) (n : ℕ) → best v (suc n) ≤ n
unfolding best
best_le v zero = cases (leb (v 0) (v 0)) (λ t. rw t zero-le) (λ t. rw t zero-le)
best_le v (suc n) =
    cases (leb (v (best v (suc n))) (v (suc n))) (λ t. rw t (le_refl (suc n))) (λ t. rw t (le_trans (best_le v n) (le-suc n)))

pub best_lt : (v : ℕ → ℕ) (n : ℕ) → 0 < n → best v n < n
best_lt v zero h = absurd (not-suc-le-zero h)
best_lt v (suc n) h = suc-le-suc (best_le v n)

-- ---- counts

pub how_many_pos : (p : ℕ → Bool) (n i : ℕ) → i < n → p i ≡ true → 0 < how_many p n
unfolding how_many
how_many_pos p zero i h t = absurd (not-suc-le-zero h)
how_many_pos p (suc n) i h t =
    cases (p n)
    (λ k. rw k (suc-le-suc zero-le))
    (λ k. rw k (below_suc h (λ q. clash t (ap p q ∙ k)) (λ l. how_many_pos p n i l t)))

pub how_many_none : (p : ℕ → Bool) (n : ℕ) → how_many p n ≡ 0 → (i : ℕ) → i < n → p i ≡ false
how_many_none p n e i h = is_false (λ t. let k = how_many_pos p n i h t in omega arith)

pub how_many_same : (p q : ℕ → Bool) (n : ℕ) → ((i : ℕ) → i < n → p i ≡ q i) → how_many p n ≡ how_many q n
unfolding how_many
how_many_same p q zero f = refl
how_many_same p q (suc n) f =
    ap₂ (λ (b : Bool) (x : ℕ). cond b (suc x) x) (f n (le_refl (suc n))) (how_many_same p q n (λ i h. f i (le_trans h (le-suc n))))

-- one that passed passes no more, and the others are as they were
pub how_many_less : (p q : ℕ → Bool) (n i : ℕ) → i < n → p i ≡ true → q i ≡ false → ((j : ℕ) → ¬ (j ≡ i) → q j ≡ p j) → suc (how_many q n) ≡ how_many p n
unfolding how_many
how_many_less p q zero i h a b f = absurd (not-suc-le-zero h)
how_many_less p q (suc n) i h a b f =
    below_suc h
    (λ e. rw (ap p (sym e) ∙ a, ap q (sym e) ∙ b) (ap suc (how_many_same q p n (λ j l. f j (λ k. let z : j ≡ n = k ∙ e in omega arith)))))
    (λ l. let r = how_many_less p q n i l a b f in
    rw (f n (λ k. omega arith)) (cases (p n) (λ k. rw k (ap suc r)) (λ k. rw k r)))

pub how_many_le : (p : ℕ → Bool) (n : ℕ) → how_many p n ≤ n
unfolding how_many
how_many_le p zero = zero-le
how_many_le p (suc n) = cases (p n) (λ k. rw k (suc-le-suc (how_many_le p n))) (λ k. rw k (le_trans (how_many_le p n) (le-suc n)))

-- all that pass but i
unfoldable but : (ℕ → Bool) → ℕ → ℕ → Bool
but q i j = not (eqb j i) and q j

but_own : (q : ℕ → Bool) (i : ℕ) → but q i i ≡ false
unfolding but ◌and◌
but_own q i = rw (eq-eqb i i refl)

but_other : (q : ℕ → Bool) (i j : ℕ) → ¬ (j ≡ i) → but q i j ≡ q j
unfolding but ◌and◌
but_other q i j d = rw (ne_eqb j i d)

-- at least as many pass where those that pass are mapped, no two to one, to such as pass
pub how_many_into : (p q : ℕ → Bool) (to : ℕ → ℕ) (n m : ℕ) → ((i : ℕ) → i < n → to i < m) → ((i j : ℕ) → i < n → j < n → to i ≡ to j → i ≡ j)
    → ((i : ℕ) → i < n → p i ≡ true → q (to i) ≡ true) → how_many p n ≤ how_many q m
unfolding how_many
how_many_into p q to zero m inside once passes = zero-le
how_many_into p q to (suc n) m inside once passes =
    let up : (i : ℕ) → i < n → i < suc n = λ i h. le_trans h (le-suc n) in
    let top : n < suc n = le_refl (suc n) in
    let apart : (i : ℕ) → i < n → ¬ (to i ≡ to n) = λ i h e. let k : i ≡ n = once i n (up i h) top e in omega arith in
    let rest : (r : ℕ → Bool) → ((i : ℕ) → i < n → p i ≡ true → r (to i) ≡ true) → how_many p n ≤ how_many r m
    = λ r s. how_many_into p r to n m (λ i h. inside i (up i h)) (λ i j h g e. once i j (up i h) (up j g) e) s in
    cases (p n)
    (λ t. rw t (omega (
      arith,
      how_many_less q (but q (to n)) m (to n) (inside n top) (passes n top t) (but_own q (to n)) (λ j d. but_other q (to n) j d),
      rest (but q (to n)) (λ i h s. rw (but_other q (to n) (to i) (apart i h)) (passes i (up i h) s)),
    )))
    (λ t. rw t (rest q (λ i h s. passes i (up i h) s)))

-- a number that fails is enough
pub every_not : (p : ℕ → Bool) (n i : ℕ) → i < n → p i ≡ false → every p n ≡ false
every_not p n i h e = is_false (λ t. clash (every_at p n t i h) e)

-- the first that passes, found by a search upwards
pub first_found : (p : ℕ → Bool) (n i : ℕ) → i < n → p i ≡ true → ((j : ℕ) → j < i → p j ≡ false) → first p n ≡ some i
unfolding first
first_found p zero i h t f = absurd (not-suc-le-zero h)
first_found p (suc n) i h t f =
    below_suc h
    (λ q. rw (first_no p n (λ j l. f j (rw q l)), ap p (sym q) ∙ t) (ap some (sym q)))
    (λ l. rw (first_found p n i l t f))

-- ---- a search over n items that stand from place p on
module _ {A : Type 0} (q : A → Bool) (item : ℕ → A) (after : ℕ → ℕ) (items : ℕ → ℕ → List A)
    (none_left : (p : ℕ) → items 0 p ≡ []) (one_more : (n p : ℕ) → items (suc n) p ≡ item p ∷ items n (after p)) where
  pub search_pass : (n p : ℕ) → 0 < n → q (item p) ≡ false → any_of q (items n p) ≡ any_of q (items (n - 1) (after p))
  unfolding any_of ◌or◌
  search_pass zero p h e = absurd (omega arith)
  search_pass (suc n) p h e = rw (one_more n p, e, sub-one (suc n))

  pub search_found : (n p : ℕ) → 0 < n → q (item p) ≡ true → any_of q (items n p) ≡ true
  unfolding any_of ◌or◌
  search_found zero p h e = absurd (omega arith)
  search_found (suc n) p h e = rw (one_more n p, e)

  pub search_none : (n p : ℕ) → n < 1 → any_of q (items n p) ≡ false
  unfolding any_of
  search_none zero p h = rw (none_left p)
  search_none (suc n) p h = absurd (omega arith)

-- ---- functions

-- what can be told back is one_to_one
pub one_to_one : {A B : Type 0} (f : A → B) (back : B → A) → ((a : A) → back (f a) ≡ a) → (a b : A) → f a ≡ f b → a ≡ b
one_to_one f back h a b e = sym (h a) ∙ ap back e ∙ h b
