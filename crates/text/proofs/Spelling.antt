-- Laws of numbers as text. Assumes nothing.
use Prim.Native.Nat.{ℕ, zero, suc, ◌+◌, ◌-◌, ◌*◌, ◌/◌, ◌%◌, ◌^◌, ◌≤◌, ◌<◌}
use mathlib.Core.Path.{◌≡◌, refl, sym, ap, ◌∙◌}
use mathlib.Core.List.{List, [], ◌∷◌, ◌++◌, append-nil}
use native.Mathlib.Nat.{pow-suc}
use native.Mathlib.Omega.{arith}
use lib.ListN.{length, take, drop, set, drop_of_length-le}
use lib.Seq.{append_snoc, take_all}
use Rattle.std.proofs.lemmas.List.{take_more_set}
use Rattle.std.proofs.lemmas.Nat.{pow-add}
use borrow.Author.Tests.{lt-ltb, le-ltb}
use Rattle.text.specs.Digits.{digit_of, digits_of, decimal_text, hex_digits, hex_text}

-- a digit in code is one in the definition
pub digit_low : (d : ℕ) → d < 10 → 48 + d ≡ digit_of d
unfolding digit_of
digit_low d h = rw (lt-ltb d 10 h)

pub digit_high : (d : ℕ) → 10 ≤ d → 97 + (d - 10) ≡ digit_of d
unfolding digit_of
digit_high d h = rw (le-ltb d 10 h) (omega arith)

-- zero has no digits
no_digits : (most : ℕ) → digits_of most 0 ≡ []
unfolding digits_of
no_digits zero = refl
no_digits (suc most) = refl

-- any number from n on bounds the digits of n alike
enough : (a b n : ℕ) → n ≤ a → n ≤ b → digits_of a n ≡ digits_of b n
unfolding digits_of
enough zero b zero h k = sym (no_digits b)
enough (suc a) b zero h k = sym (no_digits b)
enough zero b (suc m) h k = absurd (omega arith)
enough (suc a) zero (suc m) h k = absurd (omega arith)
enough (suc a) (suc b) (suc m) h k =
    ap (λ (l : List ℕ). l ++ (digit_of (suc m % 10) ∷ [])) (enough a b (suc m / 10) (omega arith) (omega arith))

-- the digits of a number above zero are its text
spelled : (a m : ℕ) → m ≤ a → 0 < m → digits_of a m ≡ decimal_text m
unfolding digits_of decimal_text
spelled zero m h k = absurd (omega arith)
spelled (suc a) zero h k = absurd (omega arith)
spelled (suc a) (suc m) h k =
    ap (λ (l : List ℕ). l ++ (digit_of (suc m % 10) ∷ [])) (enough a (suc m) (suc m / 10) (omega arith) (omega arith))

-- a number with tens ends in its last digit
tens : (n : ℕ) → 0 < n / 10 → decimal_text n ≡ decimal_text (n / 10) ++ (digit_of (n % 10) ∷ [])
unfolding decimal_text
tens n h = ap (λ (l : List ℕ). l ++ (digit_of (n % 10) ∷ [])) (spelled n (n / 10) (omega arith) h)

-- a number without tens is its one digit
ones : (n : ℕ) → n / 10 ≡ 0 → decimal_text n ≡ digit_of (n % 10) ∷ []
unfolding decimal_text
ones n h = rw (h, no_digits n)

-- what stands from a store on
drop_set : (l : List ℕ) (i a : ℕ) → i < length l → drop i (set l i a) ≡ a ∷ drop (suc i) l
drop_set [] i a h = absurd (omega arith)
drop_set (x ∷ xs) zero a h = refl
drop_set (x ∷ xs) (suc i) a h = drop_set xs i a (omega arith)

-- before the first turn of the loop that spells nothing stands there
pub none_yet : (n : ℕ) (digits : List ℕ) → length digits ≡ 10 → decimal_text n ≡ decimal_text n ++ drop 10 digits
none_yet n digits h =
    let e : drop 10 digits ≡ [] = drop_of_length-le digits {i = 10} (omega arith) in
    rw (e, append-nil)

-- a turn of the loop that spells: `rest` is still to be spelled before index `at`
module _ (text : List ℕ) (rest at : ℕ) (digits : List ℕ) (first : 1 ≤ at) (last : at ≤ length digits) (so_far : text ≡ decimal_text rest ++ drop at digits) where
  stored : drop (at - 1) (set digits (at - 1) (48 + rest % 10)) ≡ digit_of (rest % 10) ∷ drop at digits
  stored =
      let e : suc (at - 1) ≡ at = omega arith in
      rw (drop_set digits (at - 1) (48 + rest % 10) (omega arith), e, digit_low (rest % 10) (omega arith))

  pub spelled_all : rest / 10 ≡ 0 → drop (at - 1) (set digits (at - 1) (48 + rest % 10)) ≡ text
  spelled_all z = rw (stored, so_far, ones rest z)

  pub spelled_on : 0 < rest / 10
      → text ≡ decimal_text (rest / 10) ++ drop (at - 1) (set digits (at - 1) (48 + rest % 10))
  spelled_on h = rw (stored, so_far, tens rest h) (append_snoc (decimal_text (rest / 10)) (digit_of (rest % 10)) (drop at digits))

-- a number below ten to the power of `at` has `at` digits at most
pub room_left : (rest at : ℕ) → 1 ≤ at → rest < 10 ^ at → rest / 10 < 10 ^ (at - 1)
room_left rest zero h k = absurd (omega arith)
room_left rest (suc m) h k =
    let e : suc m - 1 ≡ m = omega arith in
    rw e (omega (arith, pow-suc 10 m))

pub more_room : (rest at : ℕ) → rest < 10 ^ at → 0 < rest / 10 → 2 ≤ at
more_room rest zero h k = absurd (omega arith)
more_room rest (suc zero) h k = absurd (omega arith)
more_room rest (suc (suc m)) h k = omega arith

sixteen : (k : ℕ) → 2 ^ (4 * k) ≡ 16 ^ k
sixteen zero = refl
sixteen (suc k) =
    let e : 4 * suc k ≡ 4 * k + 4 = omega arith in
    rw (e, pow-add 2 (4 * k) 4, sixteen k, pow-suc 16 k) (omega arith)

-- a turn of the loop that writes the eight digits of a word
pub eight_on : (w i d : ℕ) (digits : List ℕ) → length digits ≡ 8 → i < 8 → d ≡ digit_of (w / 2 ^ (28 - 4 * i) % 16)
    → take i digits ++ hex_digits (8 - i) w ≡ hex_text w
    → take (i + 1) (set digits i d) ++ hex_digits (8 - (i + 1)) w ≡ hex_text w
unfolding hex_digits
eight_on w i d digits size h here so_far =
    let left : 8 - i ≡ suc (7 - i) = omega arith in
    let rest : 8 - (i + 1) ≡ 7 - i = omega arith in
    let low : 28 - 4 * i ≡ 4 * (7 - i) = omega arith in
    let k : i < length digits = omega arith in
    rw (take_more_set digits i d k, rest, append_snoc (take i digits) d (hex_digits (7 - i) w), here, low, sixteen (7 - i))
    (rw left at so_far)

-- and after the last turn they are the word's
pub eight_all : (w i : ℕ) (digits : List ℕ) → length digits ≡ 8 → 8 ≤ i → take i digits ++ hex_digits (8 - i) w ≡ hex_text w → digits ≡ hex_text w
unfolding hex_digits
eight_all w i digits size h so_far =
    let none : 8 - i ≡ 0 = omega arith in
    let all : take i digits ≡ digits = take_all i digits (omega arith) in
    sym (append-nil _) ∙ (rw (none, all) at so_far)
