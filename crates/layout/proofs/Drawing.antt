-- A list of entries within that of a table: it has words too, and they read as it. Assumes nothing.
--     drawn_readable     what is drawn from readable entries, none twice, is readable
--     drawn_words     of a table that reads: words of 32 bits, of its kind, that read as its width and the entries drawn
use mathlib.Core.Path.{◌≡◌, refl, sym, ap, ◌∙◌}
use mathlib.Core.Bool.{Bool, true, cond}
use mathlib.Core.List.{List, [], ◌∷◌}
use Prim.Native.Nat.{ℕ, zero, suc, ◌+◌, ◌≤◌, ◌<◌, zero-le}
use native.Mathlib.Nat.{le_trans, le_refl, le-suc, not-suc-le-zero}
use native.Mathlib.Omega.{arith}
use lib.Dec.{eqb}
use lib.ListN.{length, get_or, take}
use lib.Seq.{take-suc, take-length}
use borrow.Author.Tests.{eq-eqb, ne_eqb}
use Rattle.words.specs.Tests.{all_of}
use Rattle.words.specs.Words.{word}
use Rattle.words.specs.Outcome.{result}
use Rattle.words.proofs.Logic.{all_of_at, all_of_make, below_suc}
use Rattle.table.specs.Table.{Entry, Table, entry_number, kind_of}
use Rattle.table.specs.Check.{read_table}
use Rattle.choice.proofs.Within.{Within}
use Rattle.layout.specs.Layout.{total, entry_size, table_words}
use Rattle.layout.specs.Readable.{Small, lawful, Readable, Means}
use Rattle.layout.proofs.Lengths.{total_append, table_length}
use Rattle.layout.proofs.OneToOne.{read_readable, means}

-- ---- sums over the numbers below a bound

unfoldable sum : (ℕ → ℕ) → ℕ → ℕ
sum f zero = 0
sum f (suc n) = sum f n + f n

sum_same : (f g : ℕ → ℕ) (n : ℕ) → ((i : ℕ) → i < n → f i ≡ g i) → sum f n ≡ sum g n
unfolding sum
sum_same f g zero e = refl
sum_same f g (suc n) e = omega (arith, sum_same f g n (λ i h. e i (le_trans h (le-suc n))), e n (le_refl (suc n)))

-- all but what i has
unfoldable but : (ℕ → ℕ) → ℕ → ℕ → ℕ
but f i j = cond (eqb j i) 0 (f j)

but_own : (f : ℕ → ℕ) (i : ℕ) → but f i i ≡ 0
unfolding but
but_own f i = rw (eq-eqb i i refl)

but_other : (f : ℕ → ℕ) (i j : ℕ) → (j ≡ i → ⊥) → but f i j ≡ f j
unfolding but
but_other f i j d = rw (ne_eqb j i d)

sum_but : (f : ℕ → ℕ) (n i : ℕ) → i < n → sum (but f i) n + f i ≡ sum f n
unfolding sum
sum_but f zero i h = absurd (not-suc-le-zero h)
sum_but f (suc n) i h =
    below_suc h
    (λ e. rw e (omega (arith, ap (λ x. sum (but f x) n) e, but_own f n, sum_same (but f n) f n (λ j l. but_other f n j (λ k. omega arith)))))
    (λ l. omega (arith, sum_but f n i l, but_other f i n (λ k. omega arith)))

-- a sum is at most another where its numbers are mapped, no two to one, to numbers that have as much
sum_into : (f g : ℕ → ℕ) (to : ℕ → ℕ) (n m : ℕ) → ((i : ℕ) → i < n → to i < m) → ((i j : ℕ) → i < n → j < n → to i ≡ to j → i ≡ j)
    → ((i : ℕ) → i < n → g (to i) ≡ f i) → sum f n ≤ sum g m
unfolding sum
sum_into f g to zero m inside once each = zero-le
sum_into f g to (suc n) m inside once each =
    let up : (i : ℕ) → i < n → i < suc n = λ i h. le_trans h (le-suc n) in
    let top : n < suc n = le_refl (suc n) in
    let apart : (i : ℕ) → i < n → to i ≡ to n → ⊥ = λ i h e. let k : i ≡ n = once i n (up i h) top e in omega arith in
    omega (
      arith,
      each n top,
      sum_but g m (to n) (inside n top),
      sum_into f (but g (to n)) to n m (λ i h. inside i (up i h)) (λ i j h l e. once i j (up i h) (up j l) e)
          (λ i h. but_other g (to n) (to i) (apart i h) ∙ each i (up i h)),
    )

-- ---- lists, by their numbers

module _ {A : Type 0} (d : A) where
  total_take : (n : A → ℕ) (xs : List A) (k : ℕ) → k ≤ length xs → total n (take k xs) ≡ sum (λ i. n (get_or xs i d)) k
  unfolding total sum
  total_take n xs zero h = refl
  total_take n xs (suc k) h = rw (take-suc xs k d h) (omega (arith, total_append n (take k xs) (get_or xs k d ∷ []), total_take n xs k (omega arith)))

  total_sum : (n : A → ℕ) (xs : List A) → total n xs ≡ sum (λ i. n (get_or xs i d)) (length xs)
  total_sum n xs = ap (total n) (sym (take-length xs)) ∙ total_take n xs (length xs) (le_refl (length xs))

  total_ones : (xs : List A) → total (λ x. 1) xs ≡ length xs
  unfolding total
  total_ones [] = refl
  total_ones (x ∷ xs) = omega (arith, total_ones xs)

-- ---- entries within others

module _ (es us : List Entry) (to : ℕ → ℕ) (drawn : Within es us to) where
  abbrev none : Entry
  none = entry_number [] 0

  drawn_total : (n : Entry → ℕ) → total n es ≤ total n us
  drawn_total n =
      omega (
        arith,
        total_sum none n es,
        total_sum none n us,
        sum_into (λ i. n (entry_number es i)) (λ i. n (entry_number us i)) to (length es) (length us) drawn.inside drawn.once (λ i h. ap n (drawn.each i h)),
      )

  drawn_all : (p : Entry → Bool) → all_of p us ≡ true → all_of p es ≡ true
  drawn_all p e = all_of_make none p es (λ i h. ap p (sym (drawn.each i h)) ∙ all_of_at none p us e (to i) (drawn.inside i h))

  pub drawn_readable : {kind width : ℕ} → Readable kind width us → Readable kind width es
  drawn_readable {kind} {width} r =
      record {
        known = r.known;
        some = r.some;
        wide = r.wide;
        few = omega (arith, r.few, drawn_total (λ e. 1), total_ones none es, total_ones none us);
        short = omega (arith, r.short, table_length kind width es, table_length kind width us, drawn_total (entry_size kind));
        each = drawn_all (lawful kind width) r.each;
      }

-- of a table that reads
pub drawn_words : (ws : List ℕ) (t : Table) → read_table ws ≡ result t → Small ws → (es : List Entry) (to : ℕ → ℕ) → Within es t.entries to
    → Means (kind_of (word ws 0)) t.width es (table_words (kind_of (word ws 0)) t.width es)
drawn_words ws t reads s es to drawn = means (drawn_readable es t.entries to drawn (read_readable ws t reads s))
