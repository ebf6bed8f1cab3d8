-- Laws of a text put into a buffer. Assumes nothing.
use Prim.Native.Nat.{ℕ, ◌+◌, ◌≤◌, ◌<◌}
use mathlib.Core.Bool.{Bool, true, false}
use mathlib.Core.Path.{◌≡◌, refl}
use mathlib.Core.List.{List}
use native.Mathlib.Omega.{arith}
use lib.ListN.{length, length-append, length-take, length-drop}
use lib.Seq.{paste, take-length}
use lib.Dec.{leb}
use borrow.Author.Tests.{le-leb, lt-leb, leb-true}
use Rattle.text.specs.Buffer.{has_place, put_at, place_after, Puts}

-- by cases on a test
cases : {G : Type 0} (b : Bool) → (b ≡ true → G) → (b ≡ false → G) → G
cases true f g = f refl
cases false f g = g refl

module _ (before : List ℕ) (at : ℕ) (text : List ℕ) where
  -- a text that fits is copied
  pub puts : at + length text ≤ length before → Puts before at text (paste before at text (length text)) (at + length text)
  unfolding has_place put_at place_after
  puts h =
      record {
        buffer = rw (le-leb (at + length text) (length before) h, take-length text);
        place = rw (le-leb (at + length text) (length before) h);
      }

  -- one that does not leaves all as it was
  pub leaves : length before < at + length text → Puts before at text before at
  unfolding has_place put_at place_after
  leaves h =
      record {
        buffer = rw (lt-leb (at + length text) (length before) h);
        place = rw (lt-leb (at + length text) (length before) h);
      }

-- for the calls that follow: a buffer keeps its length, and an index within it stays so
module _ {before text after : List ℕ} {at answer : ℕ} (p : Puts before at text after answer) where
  pub same_size : length after ≡ length before
  unfolding has_place put_at
  same_size =
      rw p.buffer
      (cases (leb (at + length text) (length before))
      (λ t. rw t (simp (length-append, length-take, length-drop) (omega (arith, leb-true (at + length text) (length before) t))))
      (λ t. rw t))

  pub within : at ≤ length before → answer ≤ length after
  unfolding has_place place_after
  within h =
      rw (same_size, p.place)
      (cases (leb (at + length text) (length before)) (λ t. rw t (leb-true (at + length text) (length before) t)) (λ t. rw t h))
