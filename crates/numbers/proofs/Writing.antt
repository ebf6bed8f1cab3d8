-- A number's text in a buffer. Assumes nothing.
use Prim.Native.Nat.{ℕ, zero, suc, ◌+◌, ◌*◌, ◌/◌, ◌%◌, ◌^◌, ◌≤◌, ◌<◌}
use mathlib.Core.Bool.{Bool, true, false}
use mathlib.Core.Path.{◌≡◌, refl, sym, ap, ◌∙◌}
use mathlib.Core.List.{List, [], ◌∷◌, ◌++◌, append-nil}
use native.Mathlib.Nat.{add-zero, zero-add, div-one}
use native.Mathlib.Omega.{arith}
use lib.Dec.{leb}
use Rattle.std.specs.Prelude.{Ok, Err}
use lib.IntN.{ℤ, pos, negsuc, nat_abs}
use lib.ListN.{length, take, length-append, take-append-drop}
use lib.Pow.{shr_le, pow_mono}
use lib.Seq.{take_at, length-take-le}
use native.Mathlib.Numerals.{add-one}
use borrow.Author.Tests.{le-leb, lt-leb}
use Rattle.words.proofs.Logic.{cases}
use Rattle.words.proofs.Parts.{one_shl}
use Rattle.words.specs.Words.{part}
use Rattle.words.specs.Outcome.{result}
use Rattle.words.specs.declared.Refusal.TheVariants.{NoRoom}
use Rattle.text.specs.Digits.{decimal_text}
use Rattle.text.specs.Buffer.{has_place, put_at, place_after, Puts}
use Rattle.text.proofs.Lining.{Begins, begun, goes_on, decimal_room}
use Rattle.numbers.specs.Whole.{on_side}
use Rattle.numbers.specs.Decimals.{divided, sign_text, point_text, fraction_text, number_text}
use Rattle.numbers.specs.Calls.{length_of, buffer_after}
use Rattle.numbers.specs.Answers.{Writes}

-- ---- parts of a text

-- no text
pub puts_none : (before : List ℕ) (at : ℕ) (text : List ℕ) → text ≡ [] → Puts before at text before at
unfolding has_place put_at place_after
puts_none before at text e =
    rw e
    (record {
      buffer = cases (leb (at + 0) (length before)) (λ t. rw (t, append-nil, add-zero) (sym (take-append-drop at before))) (λ t. rw t);
      place = cases (leb (at + 0) (length before)) (λ t. rw (t, add-zero)) (λ t. rw t);
    })

pub sign_below : (b : Bool) (n : ℕ) → b ≡ true → sign_text (on_side b n) ≡ 45 ∷ []
unfolding sign_text on_side
sign_below b n e = rw e

pub sign_above : (b : Bool) (n : ℕ) → b ≡ false → sign_text (on_side b n) ≡ []
unfolding sign_text on_side
sign_above b n e = rw e

pub no_fraction : (f rest : ℕ) → f ≡ 0 → fraction_text f rest ≡ []
unfolding fraction_text point_text divided
no_fraction zero rest e = refl
no_fraction (suc f) rest e = absurd (omega arith)

pub some_fraction : (f rest : ℕ) → (f ≡ 0 → ⊥) → fraction_text f rest ≡ 46 ∷ divided (2 ^ f) f rest
unfolding fraction_text point_text
some_fraction zero rest h = absurd (h refl)
some_fraction (suc f) rest h = refl

-- as many digits as were asked for
pub divided_length : (unit j rest : ℕ) → length (divided unit j rest) ≡ j
unfolding divided
divided_length unit zero rest = refl
divided_length unit (suc j) rest = ap suc (divided_length unit j _)

-- the point and the digits that were made after it, with the unit and the rest as the code has them
pub pointed : (f steps left n : ℕ) (digits after : List ℕ) → (f ≡ 0 → ⊥) → f ≤ 16 → left ≡ steps % 2 ^ f → n ≡ f → digits ≡ divided ((1 * 2 ^ f) % 2 ^ 32) n left
    → take (f + 1) (46 ∷ digits ++ after) ≡ fraction_text f (steps % 2 ^ f)
pointed f steps left n digits after some few h k e =
    let d : digits ≡ divided (2 ^ f) f (steps % 2 ^ f) = e ∙ rw (one_shl f (omega arith), h, k) in
    let l : length digits ≡ f = ap length d ∙ divided_length (2 ^ f) f _ in
    rw (add-one f, take_at digits after f l) (ap (λ ds. 46 ∷ ds) d ∙ sym (some_fraction f (steps % 2 ^ f) some))

pub unit_fits : (f rest : ℕ) → f ≤ 16 → rest < 2 ^ f → (rest < (1 * 2 ^ f) % 2 ^ 32) × ((1 * 2 ^ f) % 2 ^ 32 ≤ 2 ^ 16)
unit_fits f rest h l = let k : f < 32 = omega arith in rw (one_shl f k) (l, pow_mono h)

-- ---- how long they are

pub sign_room : (z : ℤ) → length (sign_text z) ≤ 1
unfolding sign_text
sign_room (pos n) = omega arith
sign_room (negsuc n) = omega arith

point_room : (f : ℕ) → length (point_text f) ≤ 1
unfolding point_text
point_room zero = omega arith
point_room (suc f) = omega arith

fraction_room : (f rest : ℕ) → f ≤ 16 → length (fraction_text f rest) ≤ 17
unfolding fraction_text
fraction_room f rest h = simp length-append (omega (arith, point_room f, divided_length (2 ^ f) f rest))

-- ---- the whole text, made apart

pub rest_is : (n f : ℕ) → part n 0 f ≡ n % 2 ^ f
unfolding part
rest_is n f = rw div-one

pub number_line : (f : ℕ) (z : ℤ) (steps : ℕ) {a b end : ℕ} {l l1 l2 line : List ℕ} → length l ≡ 28 → f ≤ 16 → nat_abs z < 2 ^ 32 → steps ≡ nat_abs z
    → Puts l 0 (sign_text z) l1 a
    → Puts l1 a (decimal_text (steps / 2 ^ f)) l2 b
    → Puts l2 b (fraction_text f (steps % 2 ^ f)) line end
    → Begins 28 28 line (number_text f z) end
unfolding number_text
number_line f z steps {l = l} h few small e p q r =
    let x = goes_on 1 (begun l h) p (sign_room z) (omega arith) in
    let y = goes_on 10 x (rw e at q) (decimal_room (nat_abs z / 2 ^ f) (omega (arith, shr_le (nat_abs z) f))) (omega arith) in
    goes_on 17 y (rw e at r) (fraction_room f (nat_abs z % 2 ^ f) few) (omega arith)

-- a buffer that is too short for what was made, and one that is not
module _ (line text : List ℕ) (end : ℕ) (made : take end line ≡ text) (whole : length line ≡ 28) (short : end ≤ 28) (before : List ℕ) where
  size : length text ≡ end
  size = sym (ap length made) ∙ length-take-le end line (omega (arith, whole, short))

  pub too_short : length before < end → Writes (result text) before before (Err NoRoom)
  unfolding length_of buffer_after
  too_short h =
      let t = lt-leb (length text) (length before) (omega (arith, size)) in
      record { answer = rw t; buffer = rw t }

  pub written : {after : List ℕ} {answer : ℕ} → end ≤ length before → Puts before 0 (take end line) after answer → Writes (result text) before after (Ok end)
  unfolding length_of buffer_after has_place put_at
  written {after} h p =
      let t = le-leb (length text) (length before) (omega (arith, size)) in
      let q = rw made at p.buffer in
      record { answer = rw (t, size); buffer = rw t (rw (zero-add, t) at q) }
