-- Readable entries, changed: two lists in a row, an entry with other cycles, and a kind 1 list as kind 6. Assumes nothing.
--     append_readable, append_means     the first table's entries, then the second's
--     with_cycles, recosted_lawful     an entry with other cycles
--     costed_words, costed_lawful, costed_readable     a kind 1 table as kind 6
use mathlib.Core.Path.{◌≡◌, refl}
use mathlib.Core.Bool.{Bool, true}
use mathlib.Core.List.{List, [], ◌∷◌, ◌++◌}
use Prim.Native.Nat.{ℕ, ◌+◌, ◌≤◌}
use native.Mathlib.Omega.{arith}
use borrow.Author.Tests.{le-leb, eqb-true}
use lib.ListN.{length, take, drop, length-append}
use Rattle.words.specs.Tests.{all_of, ◌or◌}
use Rattle.words.proofs.Logic.{and_l, and_r, and_i, all_of_map}
use Rattle.table.specs.Table.{Entry}
use Rattle.layout.specs.Layout.{cycles_words, pattern_words, entry_words, table_words}
use Rattle.layout.specs.Readable.{lawful_head, lawful_cycles, good_kind, lawful, Readable, Means}
use Rattle.layout.proofs.OneToOne.{means}
use Rattle.layout.proofs.Lengths.{costed_length}

-- ---- two lists in a row

all_append : {A : Type 0} (p : A → Bool) (xs ys : List A) → all_of p xs ≡ true → all_of p ys ≡ true → all_of p (xs ++ ys) ≡ true
unfolding all_of
all_append p [] ys a b = b
all_append p (x ∷ xs) ys a b = and_i (and_l _ a) (all_append p xs ys (and_r _ a) b)

module _ (kind width : ℕ) where
  pub append_readable : (es fs : List Entry) → Readable kind width es → Readable kind width fs → length es + length fs ≤ 256 → length (table_words kind width (es ++ fs)) ≤ 16384
      → Readable kind width (es ++ fs)
  append_readable es fs r t few short =
      record {
        known = r.known;
        some = r.some;
        wide = r.wide;
        few = omega (arith, length-append es fs);
        short = short;
        each = all_append (lawful kind width) es fs r.each t.each;
      }

  -- they read back
  pub append_means : (es fs : List Entry) → Readable kind width es → Readable kind width fs → length es + length fs ≤ 256 → length (table_words kind width (es ++ fs)) ≤ 16384
      → Means kind width (es ++ fs) (table_words kind width (es ++ fs))
  append_means es fs r t few short = means (append_readable es fs r t few short)

-- ---- an entry with other cycles, in a table that has them

unfoldable pub with_cycles : ℕ → Entry → Entry
with_cycles c e = record { label = e.label; size = e.size; opcode = e.opcode; cycles = c; fields = e.fields; conditions = e.conditions }

pub recosted_lawful : (kind width c : ℕ) (e : Entry) → c ≤ 65535 → lawful kind width e ≡ true → lawful 6 width (with_cycles c e) ≡ true
unfolding lawful lawful_head lawful_cycles with_cycles
recosted_lawful kind width c e h l =
    let t = and_r _ l in
    let u = and_r _ t in
    and_i (and_l _ l) (and_i (and_l _ t) (and_i (le-leb c 65535 h) (and_r _ u)))

-- ---- a kind 1 list as kind 6: a word more for each entry, its cycles, which are 0

pub costed_words : (e : Entry) → entry_words 6 e ≡ take 3 (entry_words 1 e) ++ (e.cycles ∷ drop 3 (entry_words 1 e))
unfolding entry_words pattern_words cycles_words
costed_words e = refl

pub costed_lawful : (width : ℕ) (e : Entry) → lawful 1 width e ≡ true → lawful 6 width e ≡ true
unfolding lawful lawful_cycles with_cycles
costed_lawful width e l =
    let z : e.cycles ≡ 0 = eqb-true _ _ (and_l _ (and_r _ (and_r _ l))) in
    recosted_lawful 1 width e.cycles e (omega arith) l

pub costed_readable : (width : ℕ) (es : List Entry) → Readable 1 width es → length (table_words 1 width es) + length es ≤ 16384 → Readable 6 width es
unfolding good_kind ◌or◌
costed_readable width es r h =
    record {
      known = refl;
      some = r.some;
      wide = r.wide;
      few = r.few;
      short = omega (arith, costed_length width es);
      each = all_of_map (lawful 1 width) (lawful 6 width) es (costed_lawful width) r.each;
    }
