-- The loops of decoding and encoding. Assumes nothing.
use mathlib.Core.Path.{◌≡◌, refl}
use mathlib.Core.List.{List, ◌∷◌}
use mathlib.Core.Bool.{true, false}
use Prim.Native.Nat.{ℕ, zero, suc, ◌+◌, ◌-◌, ◌*◌, ◌%◌, ◌^◌, ◌≤◌, ◌<◌}
use native.Mathlib.Omega.{arith}
use native.Mathlib.Numerals.{add-one}
use lib.Bits.{bit_or}
use lib.Dec.{ltb}
use lib.ListN.{length, get_or, set, drop}
use lib.Pow.{shl_exact}
use lib.Seq.{sets, drop-cons}
use Rattle.words.specs.Words.{word, part}
use Rattle.table.specs.Table.{field_at, fields_at, field_low, field_width}
use Rattle.operands.specs.Fields.{values_in, placed, misfit}
use Rattle.words.specs.Outcome.{result, refused}
use Rattle.operands.specs.Answers.{InWord, makes}

module _ (ws : List ℕ) (w : ℕ) where
  -- value k of n written
  pub values_on : (l : List ℕ) (k n p v low width : ℕ) → k < n → low ≡ field_low (word ws (p + k)) → width ≡ field_width (word ws (p + k)) → v ≡ part w low width
      → sets l k (values_in (fields_at ws (n - k) (p + k)) w) ≡ sets (set l k v) (k + 1) (values_in (fields_at ws (n - (k + 1)) (p + (k + 1))) w)
  unfolding values_in fields_at
  values_on l k n p v low width h a b e =
      let c : n - k ≡ suc (n - (k + 1)) = omega arith in
      let d : p + k + 1 ≡ p + (k + 1) = omega arith in
      rw (c, d, e, a, b, add-one k)

  pub values_done : (l : List ℕ) (k n p : ℕ) → n ≤ k → sets l k (values_in (fields_at ws (n - k) p) w) ≡ l
  unfolding values_in fields_at
  values_done l k n p h = let c : n - k ≡ 0 = omega arith in rw c

-- ---- placing
module _ (ws : List ℕ) (p : ℕ) (vs : List ℕ) (k : ℕ) (h : k < length vs) where
  fields_here : fields_at ws (length vs - k) (p + k) ≡ field_at ws (p + k) ∷ fields_at ws (length vs - (k + 1)) (p + (k + 1))
  unfolding fields_at
  fields_here = go (length vs - k) refl
    where
      go : (m : ℕ) → m ≡ length vs - k → fields_at ws m (p + k) ≡ field_at ws (p + k) ∷ fields_at ws (length vs - (k + 1)) (p + (k + 1))
      go zero e = absurd (omega arith)
      go (suc m) e =
          let a : length vs - (k + 1) ≡ m = omega arith in
          let b : p + (k + 1) ≡ p + k + 1 = omega arith in
          rw (a, b)

  values_here : drop k vs ≡ get_or vs k 0 ∷ drop (k + 1) vs
  values_here = rw (add-one k) (drop-cons vs k 0 h)

  module _ (w : ℕ) where
    pub makes_stop : ltb (get_or vs k 0) (2 ^ field_width (word ws (p + k))) ≡ false
        → makes k w (fields_at ws (length vs - k) (p + k)) (drop k vs) ≡ refused 12 k 0
    unfolding makes misfit
    makes_stop e = rw (fields_here, values_here, e)

    pub makes_on : ltb (get_or vs k 0) (2 ^ field_width (word ws (p + k))) ≡ true
        → makes k w (fields_at ws (length vs - k) (p + k)) (drop k vs)
        ≡ makes (k + 1) (bit_or w (get_or vs k 0 * 2 ^ field_low (word ws (p + k)))) (fields_at ws (length vs - (k + 1)) (p + (k + 1))) (drop (k + 1) vs)
    unfolding makes misfit placed
    makes_on e = rw (fields_here, values_here, e)

  pub word_low : InWord (fields_at ws (length vs - k) (p + k)) → field_low (word ws (p + k)) < 32
  unfolding InWord
  word_low i = (rw fields_here at i).0

  pub word_both : InWord (fields_at ws (length vs - k) (p + k)) → field_low (word ws (p + k)) + field_width (word ws (p + k)) ≤ 32
  unfolding InWord
  word_both i = (rw fields_here at i).1

  pub word_rest : InWord (fields_at ws (length vs - k) (p + k)) → InWord (fields_at ws (length vs - (k + 1)) (p + (k + 1)))
  unfolding InWord
  word_rest i = (rw fields_here at i).2

pub makes_done : (ws : List ℕ) (p : ℕ) (vs : List ℕ) (k w : ℕ) → k ≡ length vs → makes k w (fields_at ws (length vs - k) (p + k)) (drop k vs) ≡ result w
unfolding makes misfit placed fields_at
makes_done ws p vs k w e = go (length vs - k) (omega arith)
  where
    go : (m : ℕ) → m ≡ 0 → makes k w (fields_at ws m (p + k)) (drop k vs) ≡ result w
    go zero q = refl
    go (suc m) q = absurd (omega arith)

-- a value that fits, shifted to its field, loses no bit
pub shifted : (v low width : ℕ) → v < 2 ^ width → low + width ≤ 32 → (v * 2 ^ low) % 2 ^ 32 ≡ v * 2 ^ low
shifted v low width h l = shl_exact {a = v} width low 32 h (omega arith)
