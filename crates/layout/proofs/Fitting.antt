-- The words of readable entries are words of 32 bits. Assumes nothing.
use mathlib.Core.Path.{◌≡◌}
use mathlib.Core.Bool.{Bool, true}
use mathlib.Core.List.{List, [], ◌∷◌, ◌++◌}
use Prim.Native.Nat.{ℕ, zero, suc, ◌+◌, ◌≤◌, ◌<◌, ◌^◌}
use native.Mathlib.Nat.{le_trans}
use native.Mathlib.Omega.{arith}
use lib.Bits.{bit_or}
use lib.Dec.{eqb}
use lib.ListN.{length}
use lib.Pow.{pow_mono}
use borrow.Author.Tests.{leb-true, ltb-true}
use Rattle.words.specs.Tests.{all_of}
use Rattle.words.proofs.Logic.{cases, and_l, and_r}
use Rattle.words.proofs.Bits.{includes_le}
use Rattle.table.specs.Table.{Pattern, Field, Condition, Entry, own_bits}
use Rattle.table.proofs.Good.{own_lt}
use Rattle.layout.specs.Layout.{all_words, pattern_words, field_head, fields_words, unmatched_words, condition_head, condition_words, conditions_words, entry_head, cycles_words, entry_words, entries_words, table_head, table_words}
use Rattle.layout.specs.Readable.{Small, bits_of, lawful_pattern, lawful_condition, lawful_form, lawful_field, lawful_fields, lawful_head, lawful_cycles, lawful, Readable}
use Rattle.layout.proofs.Rereading.{kind_small}

-- ---- lists

none_small : Small []
none_small i = omega arith

more_small : (v : ℕ) (vs : List ℕ) → v < 2 ^ 32 → Small vs → Small (v ∷ vs)
more_small v vs h s zero = h
more_small v vs h s (suc i) = s i

both_small : (us vs : List ℕ) → Small us → Small vs → Small (us ++ vs)
both_small [] vs r s i = s i
both_small (u ∷ us) vs r s i = more_small u (us ++ vs) (r 0) (both_small us vs (λ j. r (suc j)) s) i

all_small : {A : Type 0} (f : A → List ℕ) (p : A → Bool) (xs : List A) → ((x : A) → p x ≡ true → Small (f x)) → all_of p xs ≡ true → Small (all_words f xs)
unfolding all_of all_words
all_small f p [] g e = none_small
all_small f p (x ∷ xs) g e = both_small (f x) (all_words f xs) (g x (and_l _ e)) (all_small f p xs g (and_r _ e))

-- ---- patterns and conditions

module _ (own : ℕ) (o : own < 2 ^ 32) where
  pattern_small : (x : Pattern) → lawful_pattern own x ≡ true → Small (pattern_words x)
  unfolding lawful_pattern pattern_words
  pattern_small x l =
      let mask = includes_le own x.mask (and_l _ l) in
      let value = includes_le x.mask x.value (and_r _ l) in
      more_small x.mask (x.value ∷ []) (omega arith) (more_small x.value [] (omega arith) none_small)

  unmatched_small : (x : Pattern) → lawful_pattern own x ≡ true → Small (unmatched_words x)
  unfolding unmatched_words
  unmatched_small x l = more_small _ (pattern_words x) (omega arith) (pattern_small x l)

  condition_small : (k : Condition) → lawful_condition own k ≡ true → Small (condition_words k)
  unfolding lawful_condition condition_words condition_head
  condition_small k l =
      let few : length k.unmatching ≤ 8 = leb-true _ _ (and_l _ l) in
      let t = and_r _ l in
      more_small _ (pattern_words k.matching ++ all_words unmatched_words k.unmatching) (omega arith)
      (both_small (pattern_words k.matching) _ (pattern_small k.matching (and_l _ t)) (all_small unmatched_words (lawful_pattern own) k.unmatching unmatched_small (and_r _ t)))

-- ---- fields

module _ (width size : ℕ) (w : width ≤ 32) where
  field_small : (used : ℕ) (f : Field) → lawful_field width size used f ≡ true → field_head f < 2 ^ 32
  unfolding lawful_form lawful_field field_head
  field_small used f l =
      let g = and_r _ (and_l _ l) in
      let form : f.form ≤ 2 = leb-true _ _ (and_l _ (and_l _ g)) in
      let fraction : f.fraction ≤ 16 = leb-true _ _ (and_r _ (and_l _ g)) in
      let below : f.low + f.width ≤ width = leb-true _ _ (and_l _ (and_r _ (and_r _ (and_r _ l)))) in
      omega arith

  fields_small : (used : ℕ) (fs : List Field) → lawful_fields width size used fs ≡ true → Small (fields_words fs)
  unfolding lawful_fields all_words
  fields_small used [] l = none_small
  fields_small used (f ∷ fs) l = more_small (field_head f) (fields_words fs) (field_small used f (and_l _ l)) (fields_small (bit_or used (bits_of f)) fs (and_r _ l))

-- ---- entries

module _ (kind width : ℕ) (w : width ≤ 32) where
  head_small : (e : Entry) → lawful_head width e ≡ true → (entry_head e < 2 ^ 32) × (e.size ≤ width)
  unfolding lawful_head entry_head
  head_small e l =
      let below = and_r _ (and_r _ l) in
      let counts = and_r _ below in
      let label : e.label < 2 ^ 12 = ltb-true _ _ (and_l _ l) in
      let size : e.size ≤ width = leb-true _ _ (and_l _ below) in
      let fields : length e.fields ≤ 8 = leb-true _ _ (and_l _ counts) in
      let conditions : length e.conditions ≤ 8 = leb-true _ _ (and_r _ counts) in
      (omega arith, size)

  cycles_small : (e : Entry) → lawful_cycles kind e ≡ true → Small (cycles_words kind e)
  unfolding lawful_cycles cycles_words
  cycles_small e l =
      cases (eqb kind 6)
      (λ t. let h : e.cycles ≤ 65535 = leb-true _ _ (rw t at l) in rw t (more_small e.cycles [] (omega arith) none_small))
      (λ t. rw t none_small)

  entry_small : (e : Entry) → lawful kind width e ≡ true → Small (entry_words kind e)
  unfolding lawful entry_words
  entry_small e l =
      let t = and_r _ l in
      let u = and_r _ t in
      let v = and_r _ u in
      let h = head_small e (and_l _ l) in
      let p : 2 ^ width ≤ 2 ^ 32 = pow_mono w in
      let own : own_bits width e.size < 2 ^ 32 = le_trans (own_lt width e.size h.1) p in
      let fields = fields_words e.fields in
      let conditions = conditions_words e.conditions in
      more_small (entry_head e) (pattern_words e.opcode ++ (cycles_words kind e ++ (fields ++ conditions))) h.0
      (both_small (pattern_words e.opcode) (cycles_words kind e ++ (fields ++ conditions)) (pattern_small _ own e.opcode (and_l _ t))
      (both_small (cycles_words kind e) (fields ++ conditions) (cycles_small e (and_l _ u))
      (both_small fields conditions (fields_small width e.size w _ e.fields (and_l _ v))
      (all_small condition_words _ e.conditions (condition_small _ own) (and_r _ v)))))

-- of a table: so they can be lent to every call
pub words_small : {kind width : ℕ} {es : List Entry} → Readable kind width es → Small (table_words kind width es)
unfolding table_words table_head
words_small {kind} {width} {es} r =
    let k = kind_small kind r.known in
    let few = r.few in
    let wide = r.wide in
    more_small _ (entries_words kind es) (omega arith) (all_small (entry_words kind) (lawful kind width) es (entry_small kind width wide) r.each)
