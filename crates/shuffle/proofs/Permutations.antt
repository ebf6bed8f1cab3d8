-- Every permutation of a list of entries is an order of it; orders can be turned round. Assumes nothing.
use Prim.Native.Nat.{ℕ, zero, suc, ◌<◌, zero-le, suc-le-suc}
use native.Mathlib.Nat.{le_of_suc-le-suc}
use mathlib.Core.Path.{◌≡◌, refl, sym, ap, ◌∙◌}
use mathlib.Core.List.{List, [], ◌∷◌, Permᴰ}
use lib.ListN.{length}
use Rattle.table.specs.Table.{Entry, entry_number}
use Rattle.shuffle.specs.Shuffled.{Shuffled}

-- the other way round
abbrev pub turned : {es fs : List Entry} → Shuffled es fs → Shuffled fs es
turned {es} {fs} s =
    record {
      to = s.from;
      from = s.to;
      to_inside = s.from_inside;
      from_inside = s.to_inside;
      from_to = s.to_from;
      to_from = s.from_to;
      each = λ i h. sym (s.each (s.from i) (s.from_inside i h)) ∙ ap (entry_number fs) (s.to_from i h);
    }

-- ---- the four ways in which a permutation is made

-- the numbers below n + 1: the first, and those after it
pub each_of : (P : ℕ → Type 0) {n : ℕ} → P zero → ((i : ℕ) → i < n → P (suc i)) → (i : ℕ) → i < suc n → P i
each_of P z s zero h = z
each_of P z s (suc i) h = s i (le_of_suc-le-suc h)

-- no entries
abbrev order_none : Shuffled [] []
order_none =
    record {
      to = λ e. e;
      from = λ i. i;
      to_inside = λ e h. h;
      from_inside = λ i h. h;
      from_to = λ e h. refl;
      to_from = λ i h. refl;
      each = λ e h. refl;
    }

-- the first stays, the others go as m says
abbrev under : (ℕ → ℕ) → ℕ → ℕ
under m zero = zero
under m (suc i) = suc (m i)

abbrev order_under : {a b : Entry} {es fs : List Entry} → a ≡ b → Shuffled es fs → Shuffled (a ∷ es) (b ∷ fs)
order_under {a} {b} {es} {fs} q s =
    record {
      to = under s.to;
      from = under s.from;
      to_inside = each_of (λ e. under s.to e < suc (length fs)) (suc-le-suc zero-le) (λ e h. suc-le-suc (s.to_inside e h));
      from_inside = each_of (λ i. under s.from i < suc (length es)) (suc-le-suc zero-le) (λ i h. suc-le-suc (s.from_inside i h));
      from_to = each_of (λ e. under s.from (under s.to e) ≡ e) refl (λ e h. ap suc (s.from_to e h));
      to_from = each_of (λ i. under s.to (under s.from i) ≡ i) refl (λ i h. ap suc (s.to_from i h));
      each = each_of (λ e. entry_number (b ∷ fs) (under s.to e) ≡ entry_number (a ∷ es) e) (sym q) s.each;
    }

-- the first two change places
abbrev exchange : ℕ → ℕ
exchange zero = suc zero
exchange (suc zero) = zero
exchange (suc (suc i)) = suc (suc i)

pub exchange_inside : (n i : ℕ) → i < suc (suc n) → exchange i < suc (suc n)
exchange_inside n zero h = suc-le-suc (suc-le-suc zero-le)
exchange_inside n (suc zero) h = suc-le-suc zero-le
exchange_inside n (suc (suc i)) h = h

pub exchange_twice : (i : ℕ) → exchange (exchange i) ≡ i
exchange_twice zero = refl
exchange_twice (suc zero) = refl
exchange_twice (suc (suc i)) = refl

pub exchange_each : (a b c d : Entry) (es : List Entry) → a ≡ d → b ≡ c → (e : ℕ) → entry_number (c ∷ d ∷ es) (exchange e) ≡ entry_number (a ∷ b ∷ es) e
exchange_each a b c d es p q zero = sym p
exchange_each a b c d es p q (suc zero) = sym q
exchange_each a b c d es p q (suc (suc e)) = refl

abbrev order_exchange : {a b c d : Entry} {es : List Entry} → a ≡ d → b ≡ c → Shuffled (a ∷ b ∷ es) (c ∷ d ∷ es)
order_exchange {a} {b} {c} {d} {es} p q =
    record {
      to = exchange;
      from = exchange;
      to_inside = exchange_inside (length es);
      from_inside = exchange_inside (length es);
      from_to = λ e h. exchange_twice e;
      to_from = λ i h. exchange_twice i;
      each = λ e h. exchange_each a b c d es p q e;
    }

-- one after the other
abbrev order_after : {es fs gs : List Entry} → Shuffled es fs → Shuffled fs gs → Shuffled es gs
order_after {es} {fs} {gs} s r =
    record {
      to = λ e. r.to (s.to e);
      from = λ i. s.from (r.from i);
      to_inside = λ e h. r.to_inside (s.to e) (s.to_inside e h);
      from_inside = λ i h. s.from_inside (r.from i) (r.from_inside i h);
      from_to = λ e h. ap s.from (r.from_to (s.to e) (s.to_inside e h)) ∙ s.from_to e h;
      to_from = λ i h. ap r.to (s.to_from (r.from i) (r.from_inside i h)) ∙ r.to_from i h;
      each = λ e h. r.each (s.to e) (s.to_inside e h) ∙ s.each e h;
    }

unfoldable pub permuted : {es fs : List Entry} → Permᴰ es fs → Shuffled es fs
permuted Permᴰ.nil = order_none
permuted (Permᴰ.cons q p) = order_under q (permuted p)
permuted (Permᴰ.swap p q) = order_exchange p q
permuted (Permᴰ.trans p q) = order_after (permuted p) (permuted q)
