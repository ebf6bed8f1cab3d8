-- What an entry's values are, field by field, which of them does not fit, and what word holds them. Assumes nothing.
use mathlib.Core.Path.{◌≡◌, refl, sym, ap, ◌∙◌}
use mathlib.Core.Logic.{◌↔◌, ◌⊎◌, inl, inr}
use mathlib.Core.List.{List, [], ◌∷◌}
use mathlib.Core.Bool.{true}
use mathlib.Core.Option.{none, some}
use Prim.Native.Nat.{ℕ, zero, suc, ◌+◌, ◌-◌, ◌%◌, ◌^◌, ◌≤◌, ◌<◌, zero-le, suc-le-suc}
use native.Mathlib.Nat.{not-suc-le-zero, le_of_suc-le-suc, add-zero}
use native.Mathlib.Omega.{arith}
use lib.Bits.{bit_and}
use lib.Dec.{ltb}
use lib.ListN.{length, get_or}
use lib.Pow.{low, pow_pos}
use lib.Seq.{ext_get_or}
use borrow.Author.Tests.{ltb-true, ltb-false, lt-ltb, le-ltb}
use Rattle.words.specs.Words.{part}
use Rattle.words.proofs.Logic.{cases}
use Rattle.words.proofs.Parts.{part_lt}
use Rattle.table.specs.Table.{Entry, Field, entry_number, field_number, own_bits}
use Rattle.operands.specs.Fields.{values_in, placed, misfit}
use Rattle.operands.proofs.Cover.{and_run, taken_placed, placed_taken}
use Rattle.operands.proofs.Inverse.{Good, length_values, own_all, own_lt}

-- "field values in table order": as many values as fields, and each is the number that the word's bits in its field make
pub record Values (fs : List Field) (w : ℕ) (vs : List ℕ) : Type 0 where
  pub count : length vs ≡ length fs
  pub each : (j : ℕ) → j < length fs → get_or vs j 0 ≡ part w (field_number fs j).low (field_number fs j).width

-- "Encoding places the values in the opcode value, bits below the entry's own bits zero": the word, of the width, has the opcode's value
-- under its mask, each field's value in its field, and zeros below the own bits
pub record Holds (width : ℕ) (e : Entry) (vs : List ℕ) (w : ℕ) : Type 0 where
  pub of_width : w < 2 ^ width
  pub opcode : bit_and w e.opcode.mask ≡ e.opcode.value
  pub values : Values e.fields w vs
  pub below : w % 2 ^ (width - e.size) ≡ 0

-- "no such entry, or wrong count of values": not this
pub record Asked (es : List Entry) (e : ℕ) (vs : List ℕ) : Type 0 where
  pub entry : e < length es
  pub count : length vs ≡ length (entry_number es e).fields

-- not "value does not fit its field": value j is below 2 to the field's width
abbrev pub Fits : List Field → List ℕ → ℕ → Type 0
Fits fs vs j = get_or vs j 0 < 2 ^ (field_number fs j).width

abbrev pub AllFit : List Field → List ℕ → Type 0
AllFit fs vs = (j : ℕ) → j < length vs → Fits fs vs j

-- "index of the first such value"
pub record FirstMisfit (fs : List Field) (vs : List ℕ) (k : ℕ) : Type 0 where
  pub value : k < length vs
  pub over : 2 ^ (field_number fs k).width ≤ get_or vs k 0
  pub before : (j : ℕ) → j < k → Fits fs vs j

-- ---- the values of a word, one by one
value_at : (fs : List Field) (w j : ℕ) → j < length fs → get_or (values_in fs w) j 0 ≡ part w (field_number fs j).low (field_number fs j).width
unfolding values_in
value_at [] w j h = absurd (not-suc-le-zero h)
value_at (f ∷ fs) w zero h = refl
value_at (f ∷ fs) w (suc j) h = value_at fs w j (le_of_suc-le-suc h)

pub values_exactly : (fs : List Field) (w : ℕ) (vs : List ℕ) → (values_in fs w ≡ vs) ↔ Values fs w vs
values_exactly fs w vs = (
  λ e. rw (← e) (record { count = length_values fs w; each = λ j h. value_at fs w j h }),
  λ v. ext_get_or 0 (values_in fs w) vs (length_values fs w ∙ sym v.count)
      (λ j h. let k : j < length fs = omega (arith, length_values fs w) in value_at fs w j k ∙ sym (v.each j k)),
)

-- ---- the first misfit
pub all_none : (i : ℕ) (fs : List Field) (vs : List ℕ) → length vs ≡ length fs → AllFit fs vs → misfit i fs vs ≡ none
unfolding misfit
all_none i [] vs l a = refl
all_none i (f ∷ fs) [] l a = refl
all_none i (f ∷ fs) (v ∷ vs) l a =
    rw (lt-ltb v (2 ^ f.width) (a 0 (suc-le-suc zero-le))) (all_none (i + 1) fs vs (omega arith) (λ j h. a (suc j) (suc-le-suc h)))

pub first_some : (i : ℕ) (fs : List Field) (vs : List ℕ) (k : ℕ) → length vs ≡ length fs → FirstMisfit fs vs k → misfit i fs vs ≡ some (i + k)
unfolding misfit
first_some i [] [] k l m = absurd (not-suc-le-zero m.value)
first_some i [] (v ∷ vs) k l m = absurd (omega arith)
first_some i (f ∷ fs) [] k l m = absurd (not-suc-le-zero m.value)
first_some i (f ∷ fs) (v ∷ vs) zero l m = rw (le-ltb v (2 ^ f.width) m.over) (ap some (sym (add-zero i)))
first_some i (f ∷ fs) (v ∷ vs) (suc k) l m =
    let s : i + 1 + k ≡ i + suc k = omega arith in
    rw (lt-ltb v (2 ^ f.width) (m.before 0 (suc-le-suc zero-le)))
    (first_some (i + 1) fs vs k (omega arith) (record { value = le_of_suc-le-suc m.value; over = m.over; before = λ j h. m.before (suc j) (suc-le-suc h) }) ∙ ap some s)

-- all fit, or one is the first that does not
pub fit_or_first : (fs : List Field) (vs : List ℕ) → length vs ≡ length fs → AllFit fs vs ⊎ ((k : ℕ) × FirstMisfit fs vs k)
fit_or_first [] [] l = inl (λ j h. absurd (not-suc-le-zero h))
fit_or_first [] (v ∷ vs) l = absurd (omega arith)
fit_or_first (f ∷ fs) [] l = absurd (omega arith)
fit_or_first (f ∷ fs) (v ∷ vs) l =
    cases (ltb v (2 ^ f.width))
    (λ t. more t (fit_or_first fs vs (omega arith)))
    (λ t. inr (0, record { value = suc-le-suc zero-le; over = ltb-false _ _ t; before = λ j h. absurd (not-suc-le-zero h) }))
  where
    here : ltb v (2 ^ f.width) ≡ true → (P : ℕ → Type 0) → ((j : ℕ) → P j → Fits fs vs j) → (j : ℕ) → ((k : ℕ) → j ≡ suc k → P k) → Fits (f ∷ fs) (v ∷ vs) j
    here t P g zero h = ltb-true _ _ t
    here t P g (suc j) h = g j (h j refl)

    more : ltb v (2 ^ f.width) ≡ true → AllFit fs vs ⊎ ((k : ℕ) × FirstMisfit fs vs k) → AllFit (f ∷ fs) (v ∷ vs) ⊎ ((k : ℕ) × FirstMisfit (f ∷ fs) (v ∷ vs) k)
    more t (inl a) = inl (λ j h. here t (λ k. k < length vs) a j (λ k e. omega arith))
    more t (inr m) = inr (
      suc m.0,
      record {
        value = suc-le-suc m.1.value;
        over = m.1.over;
        before = λ j h. here t (λ k. k < m.0) m.1.before j (λ k e. omega arith);
      },
    )

-- what lies in the own bits has zeros below them
in_own : (width size w : ℕ) → bit_and w (own_bits width size) ≡ w → w % 2 ^ (width - size) ≡ 0
in_own width size w e =
    ap (λ (x : ℕ). x % 2 ^ (width - size)) (sym e ∙ and_run w (width - size) size ∙ sym (add-zero _))
    ∙ low (part w (width - size) size) (width - size) (pow_pos (width - size))

-- ---- the word that holds the values is the one that is made, and no other
module _ (width : ℕ) (e : Entry) (vs : List ℕ) (good : Good width e) where
  pub holds_made : (w : ℕ) → Holds width e vs w → placed e.opcode.value e.fields vs ≡ w
  holds_made w h =
      rw (← (values_exactly e.fields w vs).1 h.values)
      (taken_placed _ _ _ w e.fields good.cover h.opcode ∙ own_all width e.size w good.short h.of_width h.below)

  pub made_holds : length vs ≡ length e.fields → AllFit e.fields vs → Holds width e vs (placed e.opcode.value e.fields vs)
  made_holds l a =
      let m = placed_taken _ _ _ 0 e.fields vs good.cover good.value_in_lem l (all_none 0 e.fields vs l a) in
      record {
        of_width = own_lt width e.size _ good.short m.inside;
        opcode = m.opcode;
        values = (values_exactly e.fields _ vs).0 m.values;
        below = in_own width e.size _ m.inside;
      }

-- values that a word has fit
pub held_fit : (fs : List Field) (w : ℕ) (vs : List ℕ) → Values fs w vs → AllFit fs vs
held_fit fs w vs v j h =
    rw (v.each j (omega (arith, v.count))) (part_lt w (field_number fs j).low (field_number fs j).width)
