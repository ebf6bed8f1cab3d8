-- What loops over entries and bits keep. Assumes nothing.
use mathlib.Core.Path.{◌≡◌, refl, sym, ap, ◌∙◌, subst}
use mathlib.Core.List.{List}
use mathlib.Core.Bool.{Bool, true, false, not, cond}
use Prim.Native.Nat.{ℕ, zero, suc, ◌+◌, ◌-◌, ◌/◌, ◌%◌, ◌^◌, ◌≤◌, ◌<◌}
use native.Mathlib.Omega.{arith}
use native.Mathlib.Nat.{zero-lt-suc}
use native.Mathlib.Numerals.{add-one, sub-one}
use borrow.Author.Tests.{lt-leb, le-leb, eqb-true, eqb-false}
use lib.Bits.{bit_and, bit_or, and_mask}
use lib.Dec.{leb, eqb}
use lib.ListN.{length, get_or, set, take, length-set}
use Rattle.std.proofs.lemmas.List.{get_or-take, length-take-le}
use lib.Seq.{get_or-set_same, get_or-set_other}
use Rattle.words.specs.Tests.{◌and◌, ◌or◌, exists, how_many, best}
use Rattle.words.specs.Words.{bit}
use Rattle.table.specs.Table.{Entry}
use Rattle.cell.specs.Cell.{Cell}
use Rattle.cell.specs.Step.{votes_at, in_open}
use Rattle.cell.specs.Decide.{votes_for, weight_of, unfixed_in, in_some}
use Rattle.words.proofs.Logic.{cases, clash, is_false, and_l, and_r, below_suc, how_many_same, best_lt}
use Rattle.words.proofs.Bits.{bit_and_lem, bit_none, bit_or_lem}

-- one number more to search
pub exists_more : (p : ℕ → Bool) (n : ℕ) → exists p (n + 1) ≡ exists p n or p n
unfolding exists
exists_more p n = rw (add-one n)

-- ---- votes
digit : (x i : ℕ) → bit_and (x / 2 ^ i) 1 ≡ cond (bit x i) 1 0
unfolding bit
digit x i =
    and_mask (x / 2 ^ i) 1
    ∙ cases (eqb (x / 2 ^ i % 2) 1)
    (λ t. rw t (eqb-true _ _ t))
    (λ t. rw t (let h = eqb-false (x / 2 ^ i % 2) 1 t in go (x / 2 ^ i) h))
  where
    go : (y : ℕ) → (y % 2 ≡ 1 → ⊥) → y % 2 ≡ 0
    go y h = omega (arith, h)

pub digit_le : (x i : ℕ) → bit_and (x / 2 ^ i) 1 ≤ 1
digit_le x i = rw (digit x i) (cases (bit x i) (λ t. rw t (omega arith)) (λ t. rw t (omega arith)))

pub votes_more : (masks : List ℕ) (j i : ℕ)
    → how_many (λ k. bit (get_or masks k 0) i) (j + 1) ≡ how_many (λ k. bit (get_or masks k 0) i) j + bit_and (get_or masks j 0 / 2 ^ i) 1
unfolding how_many
votes_more masks j i =
    rw (add-one j, digit (get_or masks j 0) i)
    (cases (bit (get_or masks j 0) i) (λ t. rw t (omega arith)) (λ t. rw t (omega arith)))

-- ---- the greatest
-- of one bit, as of none, it is bit 0
pub best_one : (v : ℕ → ℕ) → best v 1 ≡ 0
unfolding best
best_one v = cases (leb (v 0) (v 0)) (λ t. rw t) (λ t. rw t)

-- a search that begins with bit 0 ends at the width, or after bit 0 if the width is 0
pub best_end : (v : ℕ → ℕ) (i width : ℕ) → 1 ≤ i → i ≤ 1 + (width - 1) → width ≤ i → best v i ≡ best v width
unfolding best
best_end v i zero h f k = let e : i ≡ 1 = omega arith in ap (best v) e ∙ best_one v
best_end v i (suc n) h f k = let e : i ≡ suc n = omega arith in ap (best v) e

pub best_below : (v : ℕ → ℕ) (n m : ℕ) → 0 < m → n ≤ m → best v n < m
unfolding best
best_below v zero m h k = h
best_below v (suc n) m h k = let b = best_lt v (suc n) (zero-lt-suc n) in omega arith

-- b and x are the best so far and its weight, y the weight at i
pub best_other : (v : ℕ → ℕ) (i b x y : ℕ) → b ≡ best v i → x ≡ v b → y ≡ v i → x ≤ y → i ≡ best v (i + 1)
unfolding best
best_other v i b x y p q r h = let t : leb (v (best v i)) (v i) ≡ true = rw (← p, ← q, ← r) (le-leb x y h) in rw (add-one i, t)

pub best_same : (v : ℕ → ℕ) (i b x y : ℕ) → b ≡ best v i → x ≡ v b → y ≡ v i → y < x → b ≡ best v (i + 1)
unfolding best
best_same v i b x y p q r h = let t : leb (v (best v i)) (v i) ≡ false = rw (← p, ← q, ← r) (lt-leb x y h) in rw (add-one i, t) p

-- ---- of weights 0 and 1 the highest 1; where all are 0 the last
pub best_top : (v : ℕ → ℕ) (n i : ℕ) → i < n → ((j : ℕ) → v j ≤ 1) → v i ≡ 1 → ((j : ℕ) → i < j → j < n → v j ≡ 0) → i ≡ best v n
unfolding best
best_top v zero i h f t z = absurd (omega arith)
best_top v (suc n) i h f t z =
    below_suc h
    (λ q. let e : leb (v (best v n)) (v n) ≡ true = le-leb (v (best v n)) (v n) (let a = f (best v n) in let b : v n ≡ 1 = ap v (sym q) ∙ t in omega arith) in rw e q)
    (λ l.
    let b : i ≡ best v n = best_top v n i l f t (λ j k m. z j k (omega arith)) in
    let e : leb (v (best v n)) (v n) ≡ false = lt-leb (v (best v n)) (v n) (let a : v (best v n) ≡ 1 = ap v (sym b) ∙ t in let d : v n ≡ 0 = z n l (omega arith) in omega arith) in
    rw e b)

-- of none it is 0
pub best_last : (v : ℕ → ℕ) (n : ℕ) → ((j : ℕ) → j < n → v j ≡ 0) → n - 1 ≡ best v n
unfolding best
best_last v zero z = refl
best_last v (suc n) z =
    let b = best_below v n (suc n) (zero-lt-suc n) (omega arith) in
    let e : leb (v (best v n)) (v n) ≡ true = le-leb (v (best v n)) (v n) (let a : v (best v n) ≡ 0 = z (best v n) b in omega arith) in
    rw (sub-one (suc n), e)

-- what holds from i on up to n, and at i - 1
pub from_less : (P : ℕ → Type 0) (i n : ℕ) → 0 < i → ((j : ℕ) → i ≤ j → j < n → P j) → P (i - 1) → (j : ℕ) → i - 1 ≤ j → j < n → P j
from_less P i n h f p j k l =
    cases (eqb j (i - 1)) (λ t. subst P (sym (eqb-true j (i - 1) t)) p) (λ t. f j (let d = eqb-false j (i - 1) t in omega (arith, d)) l)

-- ---- a bit that is unfixed and in a mask
module _ (mask fixed i : ℕ) where
  pub unfixed_le : unfixed_in mask fixed i ≤ 1
  unfolding unfixed_in
  unfixed_le = cases (bit mask i and not (bit fixed i)) (λ t. rw t (omega arith)) (λ t. rw t (omega arith))

  pub unfixed_yes : bit mask i and not (bit fixed i) ≡ true → unfixed_in mask fixed i ≡ 1
  unfolding unfixed_in
  unfixed_yes t = rw t

  pub unfixed_no : bit mask i and not (bit fixed i) ≡ false → unfixed_in mask fixed i ≡ 0
  unfolding unfixed_in
  unfixed_no t = rw t

-- no masks have no weight
pub weight_none : (masks : List ℕ) (fixed i : ℕ) → length masks < 1 → weight_of masks fixed i ≡ 0
unfolding weight_of votes_for how_many
weight_none masks fixed i h =
    let z : length masks ≡ 0 = omega arith in
    rw z (cases (bit fixed i) (λ t. rw t) (λ t. rw t))

-- ---- the masks of open entries that have an unfixed bit, gathered in the first places of an array: n of the first j entries
pub record Gathered (isOpen : ℕ → Bool) (mask : ℕ → ℕ) (fixed : ℕ) (masks : List ℕ) (n j : ℕ) : Type 0 where
  pub few : n ≤ j
  pub long : length masks ≡ 256
  pub count : (i : ℕ) → bit fixed i ≡ false → how_many (λ k. bit (get_or masks k 0) i) n ≡ how_many (λ k. isOpen k and bit (mask k) i) j

module _ (isOpen : ℕ → Bool) (mask : ℕ → ℕ) (fixed : ℕ) (masks : List ℕ) (n j : ℕ) (g : Gathered isOpen mask fixed masks n j) where
  passed : (i : ℕ) → isOpen j and bit (mask j) i ≡ false → how_many (λ k. isOpen k and bit (mask k) i) (j + 1) ≡ how_many (λ k. isOpen k and bit (mask k) i) j
  unfolding how_many
  passed i e = rw (add-one j, e)

  -- the next entry is not open
  pub gathered_out : isOpen j ≡ false → Gathered isOpen mask fixed masks n (j + 1)
  gathered_out o =
      record { few = let h = g.few in omega arith; long = g.long; count = λ i u. g.count i u ∙ sym (passed i (is_false (λ t. clash (and_l _ t) o))) }

  -- its bits are all fixed
  pub gathered_fixed : bit_and fixed (mask j) ≡ mask j → Gathered isOpen mask fixed masks n (j + 1)
  gathered_fixed h =
      let none : (i : ℕ) → bit fixed i ≡ false → bit (mask j) i ≡ true → ⊥
      = λ i u t. clash (and_l _ (sym (bit_and_lem fixed (mask j) i) ∙ ap (λ (y : ℕ). bit y i) h ∙ t)) u in
      record { few = let k = g.few in omega arith; long = g.long; count = λ i u. g.count i u ∙ sym (passed i (is_false (λ t. none i u (and_r _ t)))) }

  -- it has one more mask
  pushed : (i : ℕ) → n < 256 → isOpen j ≡ true → bit fixed i ≡ false
      → how_many (λ k. bit (get_or (set masks n (mask j)) k 0) i) (n + 1) ≡ how_many (λ k. isOpen k and bit (mask k) i) (j + 1)
  unfolding how_many ◌and◌
  pushed i room o u =
      let a : get_or (set masks n (mask j)) n 0 ≡ mask j = get_or-set_same masks n (mask j) 0 (rw g.long room) in
      let b : how_many (λ k. bit (get_or (set masks n (mask j)) k 0) i) n ≡ how_many (λ k. isOpen k and bit (mask k) i) j
      = how_many_same _ _ n (λ k h. ap (λ (x : ℕ). bit x i) (get_or-set_other masks n k (mask j) 0 (λ e. omega arith))) ∙ g.count i u in
      rw (add-one n, add-one j, a, b, o)

  pub gathered_more : j < 256 → isOpen j ≡ true → Gathered isOpen mask fixed (set masks n (mask j)) (n + 1) (j + 1)
  gathered_more h o =
      let f = g.few in
      record { few = omega arith; long = length-set masks n (mask j) ∙ g.long; count = λ i u. pushed i (omega arith) o u }

pub gathered_none : (isOpen : ℕ → Bool) (mask : ℕ → ℕ) (fixed : ℕ) (masks : List ℕ) → length masks ≡ 256 → Gathered isOpen mask fixed masks 0 0
unfolding how_many
gathered_none isOpen mask fixed masks l = record { few = omega arith; long = l; count = λ i u. refl }

-- the weights of the masks that were gathered are the votes of the entries
pub gathered_weight : (entry : ℕ → Entry) (isOpen : ℕ → Bool) (fixed : ℕ) (masks : List ℕ) (n j : ℕ) → Gathered isOpen (λ k. (entry k).opcode.mask) fixed masks n j
    → j ≤ 256 → (i : ℕ) → weight_of (take n masks) fixed i ≡ votes_at entry isOpen j fixed i
unfolding weight_of votes_for votes_at
gathered_weight entry isOpen fixed masks n j g h i =
    let f = g.few in
    let l = g.long in
    cases (bit fixed i) (λ t. rw t)
    (λ t. rw (t, length-take-le n masks (omega arith)) (how_many_same _ _ n (λ k m. ap (λ (x : ℕ). bit x i) (get_or-take n masks k 0 m)) ∙ g.count i t))

or_none : (b : Bool) → b ≡ b or false
unfolding ◌or◌
or_none true = refl
or_none false = refl

-- ---- the bits in some open entry, gathered from the first n
module _ (entry : ℕ → Entry) (isOpen : ℕ → Bool) (c : Cell) (i : ℕ) where
  pub some_none : bit 0 i ≡ in_some entry isOpen 0 c i
  unfolding in_some exists
  some_none = bit_none i

  pub some_more : (a x n : ℕ) → bit a i ≡ in_some entry isOpen n c i → isOpen n ≡ true → bit x i ≡ in_open c i (entry n) → bit (bit_or a x) i ≡ in_some entry isOpen (n + 1) c i
  unfolding in_some ◌and◌
  some_more a x n g o e = bit_or_lem a x i ∙ rw (exists_more (λ j. isOpen j and in_open c i (entry j)) n, g, o, e)

  pub some_same : (a n : ℕ) → bit a i ≡ in_some entry isOpen n c i → isOpen n ≡ false → bit a i ≡ in_some entry isOpen (n + 1) c i
  unfolding in_some ◌and◌ ◌or◌
  some_same a n g o = g ∙ rw (exists_more (λ j. isOpen j and in_open c i (entry j)) n, o) (or_none _)
