-- The opcode mask and the fields cover each own bit once: placing and taking out are each other's inverse. Assumes nothing.
use mathlib.Core.Path.{◌≡◌, refl, sym, ap, ap₂, ◌∙◌}
use mathlib.Core.List.{List, [], ◌∷◌}
use mathlib.Core.Bool.{Bool, true, false, cond}
use mathlib.Core.Option.{Option, none, some}
use Prim.Native.Nat.{ℕ, zero, suc, ◌+◌, ◌*◌, ◌/◌, ◌^◌, ◌<◌}
use native.Mathlib.Nat.{mod-eq_of_lt}
use native.Mathlib.Omega.{arith}
use lib.Bits.{bit_and, bit_or, and_comm, and_self, or_zero_l, or_zero_r, and_high, and_zero_r}
use lib.Dec.{ltb}
use lib.ListN.{length}
use lib.Pow.{high_ones, shl-shr}
use borrow.Author.Tests.{ltb-true, eqb-true}
use Rattle.words.proofs.Bits.{and_assoc, and_or}
use Rattle.words.specs.Words.{part, run, word}
use Rattle.table.specs.Table.{Field, fields_at, field_bits, own_bits}
use Rattle.table.specs.Check.{fine, fields_check}
use Rattle.table.proofs.Laws.{then_l, then_r, need_true, field_apart}
use Rattle.operands.specs.Fields.{values_in, placed, misfit}

-- the bits of a field
abbrev pub bits_of : Field → ℕ
bits_of f = run f.low f.width

-- used bits and the fields after them cover the own bits, each once
unfoldable pub Covered : ℕ → ℕ → List Field → Type 0
Covered own used [] = used ≡ own
Covered own used (f ∷ fs) = (bit_and used (bits_of f) ≡ 0) × Covered own (bit_or used (bits_of f)) fs

-- so says the reader's check
pub covered : (ws : List ℕ) (e width size used n p : ℕ) → fields_check ws e width size used n p ≡ fine → Covered (own_bits width size) used (fields_at ws n p)
unfolding fields_check fields_at Covered field_bits
covered ws e width size used zero p t = eqb-true _ _ (need_true _ _ _ t)
covered ws e width size used (suc n) p t = (
  field_apart ws width size used p (then_l _ _ t),
  covered ws e width size (bit_or used (field_bits (word ws p))) n (p + 1) (then_r _ _ t),
)

-- ---- a field's value, by mask
pub and_run : (w low width : ℕ) → bit_and w (run low width) ≡ part w low width * 2 ^ low
unfolding run part
and_run w low width = rw (← high_ones width low) (and_high w width low)

-- ---- taking out, then placing
pub taken_placed : (own used acc w : ℕ) (fs : List Field) → Covered own used fs → bit_and w used ≡ acc → placed acc fs (values_in fs w) ≡ bit_and w own
unfolding Covered placed values_in
taken_placed own used acc w [] c e = sym e ∙ ap (bit_and w) c
taken_placed own used acc w (f ∷ fs) c e =
    taken_placed own (bit_or used (bits_of f)) _ w fs c.1
    (and_or w used (bits_of f) ∙ ap₂ bit_or e (and_run w f.low f.width))

-- ---- placing, then taking out
module _ (used r : ℕ) (d : bit_and used r ≡ 0) where
  apart : bit_and r used ≡ 0
  apart = and_comm r used ∙ d

  used_in : bit_and used (bit_or used r) ≡ used
  used_in = and_or used used r ∙ ap₂ bit_or (and_self used) d ∙ or_zero_r used

  field_in : bit_and r (bit_or used r) ≡ r
  field_in = and_or r used r ∙ ap₂ bit_or apart (and_self r) ∙ or_zero_l r

  -- what lies in a part is kept by more bits, and is away from bits apart
  kept : (a m n : ℕ) → bit_and a m ≡ a → bit_and m n ≡ m → bit_and a n ≡ a
  kept a m n e h = ap (λ (x : ℕ). bit_and x n) (sym e) ∙ and_assoc a m n ∙ ap (bit_and a) h ∙ e

  away : (a m n : ℕ) → bit_and a m ≡ a → bit_and m n ≡ 0 → bit_and a n ≡ 0
  away a m n e h = ap (λ (x : ℕ). bit_and x n) (sym e) ∙ and_assoc a m n ∙ ap (bit_and a) h ∙ and_zero_r a

  or_and : (a b m : ℕ) → bit_and (bit_or a b) m ≡ bit_or (bit_and a m) (bit_and b m)
  or_and a b m = and_comm (bit_or a b) m ∙ and_or m a b ∙ ap₂ bit_or (and_comm m a) (and_comm m b)

  -- acc in the used bits, x in the field's
  module _ (acc x : ℕ) (a : bit_and acc used ≡ acc) (b : bit_and x r ≡ x) where
    both_in : bit_and (bit_or acc x) (bit_or used r) ≡ bit_or acc x
    both_in = or_and acc x (bit_or used r) ∙ ap₂ bit_or (kept acc used _ a used_in) (kept x r _ b field_in)

    -- of a word that has both, the used bits are acc and the field's are x
    module _ (w : ℕ) (e : bit_and w (bit_or used r) ≡ bit_or acc x) where
      part_of : (m : ℕ) → bit_and m (bit_or used r) ≡ m → bit_and w m ≡ bit_and (bit_or acc x) m
      part_of m h =
          ap (bit_and w) (sym h ∙ and_comm m (bit_or used r)) ∙ sym (and_assoc w (bit_or used r) m) ∙ ap (λ (y : ℕ). bit_and y m) e

      used_of : bit_and w used ≡ acc
      used_of = part_of used used_in ∙ or_and acc x used ∙ ap₂ bit_or a (away x r used b apart) ∙ or_zero_r acc

      field_of : bit_and w r ≡ x
      field_of = part_of r field_in ∙ or_and acc x r ∙ ap₂ bit_or (away acc used r a d) b ∙ or_zero_l x

-- a value that fits, placed, lies in its field
pub placed_in : (v low width : ℕ) → v < 2 ^ width → bit_and (v * 2 ^ low) (run low width) ≡ v * 2 ^ low
unfolding part
placed_in v low width h = and_run (v * 2 ^ low) low width ∙ rw (shl-shr v low, mod-eq_of_lt h)

-- all values fit: the first fits and the rest do
all_fit : (b : Bool) (rest : Option ℕ) (i : ℕ) → cond b rest (some i) ≡ none → (b ≡ true) × (rest ≡ none)
all_fit true rest i e = (refl, e)
all_fit false rest i e = absurd (let z : ◌≡◌ {A = ℕ} 0 1 = cc in omega arith)

fits_here : (i : ℕ) (f : Field) (fs : List Field) (v : ℕ) (vs : List ℕ) → misfit i (f ∷ fs) (v ∷ vs) ≡ none → v < 2 ^ f.width
unfolding misfit
fits_here i f fs v vs e = ltb-true _ _ (all_fit (ltb v (2 ^ f.width)) (misfit (i + 1) fs vs) i e).0

fits_rest : (i : ℕ) (f : Field) (fs : List Field) (v : ℕ) (vs : List ℕ) → misfit i (f ∷ fs) (v ∷ vs) ≡ none → misfit (i + 1) fs vs ≡ none
unfolding misfit
fits_rest i f fs v vs e = (all_fit (ltb v (2 ^ f.width)) (misfit (i + 1) fs vs) i e).1

-- the word made has the values in its fields, acc in the used bits, and no bit outside the own bits
pub record Made (own used acc : ℕ) (fs : List Field) (vs : List ℕ) (w : ℕ) : Type 0 where
  pub opcode : bit_and w used ≡ acc
  pub values : values_in fs w ≡ vs
  pub inside : bit_and w own ≡ w

pub placed_taken : (own used acc i : ℕ) (fs : List Field) (vs : List ℕ) → Covered own used fs → bit_and acc used ≡ acc → length vs ≡ length fs
    → misfit i fs vs ≡ none → Made own used acc fs vs (placed acc fs vs)
unfolding Covered placed values_in
placed_taken own used acc i [] [] c a l m = record { opcode = a; values = refl; inside = ap (bit_and acc) (sym c) ∙ a }
placed_taken own used acc i [] (v ∷ vs) c a l m = absurd (omega arith)
placed_taken own used acc i (f ∷ fs) [] c a l m = absurd (omega arith)
placed_taken own used acc i (f ∷ fs) (v ∷ vs) c a l m =
    let r = bits_of f in
    let x = v * 2 ^ f.low in
    let b : bit_and x r ≡ x = placed_in v f.low f.width (fits_here i f fs v vs m) in
    let h = placed_taken own (bit_or used r) (bit_or acc x) (i + 1) fs vs c.1 (both_in used r c.0 acc x a b) (omega arith) (fits_rest i f fs v vs m) in
    let w = placed (bit_or acc x) fs vs in
    let g : bit_and w r ≡ x = field_of used r c.0 acc x a b w h.opcode in
    let y : part w f.low f.width ≡ v
    = sym (shl-shr _ f.low) ∙ ap (λ (z : ℕ). z / 2 ^ f.low) (sym (and_run w f.low f.width) ∙ g) ∙ shl-shr v f.low in
    record {
      opcode = used_of used r c.0 acc x a b w h.opcode;
      values = ap₂ ◌∷◌ y h.values;
      inside = h.inside;
    }
