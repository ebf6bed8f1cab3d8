-- Laws of a line that is made apart, text after text. Assumes nothing.
use Prim.Native.Nat.{ℕ, zero, suc, ◌+◌, ◌/◌, ◌^◌, ◌≤◌, ◌<◌}
use mathlib.Core.Path.{◌≡◌, refl, ◌∙◌}
use mathlib.Core.List.{List, [], ◌++◌}
use native.Mathlib.Nat.{pow-suc}
use native.Mathlib.Omega.{arith}
use lib.ListN.{length, take, drop, length-append, length-take}
use lib.Seq.{take_at}
use borrow.Author.Tests.{le-leb}
use Rattle.text.specs.Digits.{digits_of, decimal_text, hex_digits, hex_text}
use Rattle.text.specs.Lines.{space, newline, refused_text, tree_line, refusal_line}
use Rattle.text.specs.Buffer.{has_place, put_at, place_after, Puts}
use Rattle.text.proofs.Putting.{same_size}

-- a number below ten to the power of k has k digits at most
few_digits : (most n k : ℕ) → n < 10 ^ k → length (digits_of most n) ≤ k
unfolding digits_of
few_digits zero n k h = omega arith
few_digits (suc most) zero k h = omega arith
few_digits (suc most) (suc m) zero h = absurd (omega arith)
few_digits (suc most) (suc m) (suc k) h =
    simp length-append (omega (arith, few_digits most (suc m / 10) k (omega (arith, pow-suc 10 k))))

pub decimal_few : (n k : ℕ) → n < 10 ^ suc k → length (decimal_text n) ≤ suc k
unfolding decimal_text
decimal_few n k h = simp length-append (omega (arith, few_digits n (n / 10) k (omega (arith, pow-suc 10 k))))

-- so one of 32 bits has ten
pub decimal_room : (n : ℕ) → n < 2 ^ 32 → length (decimal_text n) ≤ 10
decimal_room n h = decimal_few n 9 (omega arith)

pub hex_room : (w : ℕ) → length (hex_text w) ≤ 8
unfolding hex_digits hex_text
hex_room w = omega arith

-- a buffer of a size begins with a text, which ends before an index and is no longer than `most`
pub record Begins (size most : ℕ) (buffer text : List ℕ) (at : ℕ) : Type 0 where
  pub whole : length buffer ≡ size
  pub text_is : take at buffer ≡ text
  pub place : at ≡ length text
  pub short : at ≤ most

-- at first with none
pub begun : {size : ℕ} (buffer : List ℕ) → length buffer ≡ size → Begins size 0 buffer [] 0
begun buffer h = record { whole = h; text_is = refl; place = refl; short = omega arith }

-- and after a text is put there, with that text too
pub goes_on : {size most at answer : ℕ} {before so_far text after : List ℕ} (k : ℕ)
    → Begins size most before so_far at → Puts before at text after answer → length text ≤ k → most + k ≤ size
    → Begins size (most + k) after (so_far ++ text) answer
unfolding has_place put_at place_after
goes_on {size} {most} {at} {answer} {before} {so_far} {text} {after} k b p h room =
    let fits : at + length text ≤ length before = omega (arith, b.whole, b.short) in
    let t = le-leb (at + length text) (length before) fits in
    let e : answer ≡ at + length text = rw t at p.place in
    let l : length (take at before ++ text) ≡ at + length text = simp (length-append, length-take) (omega arith) in
    let f : after ≡ take at before ++ text ++ drop (at + length text) before = rw t at p.buffer in
    let q : so_far ++ text ≡ take at before ++ text = rw b.text_is in
    record {
      whole = same_size p ∙ b.whole;
      text_is = rw (e, f, q) (take_at (take at before ++ text) (drop (at + length text) before) (at + length text) l);
      place = rw e (simp length-append (omega (arith, b.place)));
      short = omega (arith, b.short);
    }

-- the text is within the buffer
pub begins_within : {size most at : ℕ} {buffer text : List ℕ} → Begins size most buffer text at → most ≤ size → at ≤ length buffer
begins_within b h = omega (arith, b.whole, b.short)

-- the line of a tree's word
pub tree_line_lem : (index word : ℕ) {a b c end : ℕ} {l l1 l2 l3 line : List ℕ} → length l ≡ 20 → index < 2 ^ 32
    → Puts l 0 (decimal_text index) l1 a
    → Puts l1 a space l2 b
    → Puts l2 b (hex_text word) l3 c
    → Puts l3 c newline line end
    → Begins 20 20 line (tree_line index word) end
unfolding tree_line
tree_line_lem index word {l = l} h i p q r s =
    let x = goes_on 10 (begun l h) p (decimal_room index i) (omega arith) in
    let y = goes_on 1 x q (omega arith) (omega arith) in
    let z = goes_on 8 y r (hex_room word) (omega arith) in
    goes_on 1 z s (omega arith) (omega arith)

-- the line of a refusal
pub refusal_line_lem : (number place word : ℕ) {a b c d e f end : ℕ} {l l1 l2 l3 l4 l5 l6 line : List ℕ}
    → length l ≡ 39 → number < 2 ^ 32 → place < 2 ^ 32
    → Puts l 0 refused_text l1 a
    → Puts l1 a (decimal_text number) l2 b
    → Puts l2 b space l3 c
    → Puts l3 c (decimal_text place) l4 d
    → Puts l4 d space l5 e
    → Puts l5 e (hex_text word) l6 f
    → Puts l6 f newline line end
    → Begins 39 39 line (refusal_line number place word) end
unfolding refusal_line
refusal_line_lem number place word {l = l} h i j p q r s t u v =
    let b = goes_on 8 (begun l h) p (omega arith) (omega arith) in
    let m = goes_on 10 b q (decimal_room number i) (omega arith) in
    let n = goes_on 1 m r (omega arith) (omega arith) in
    let o = goes_on 10 n s (decimal_room place j) (omega arith) in
    let x = goes_on 1 o t (omega arith) (omega arith) in
    let y = goes_on 8 x u (hex_room word) (omega arith) in
    goes_on 1 y v (omega arith) (omega arith)
