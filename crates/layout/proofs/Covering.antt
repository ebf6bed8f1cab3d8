-- The tests of a lawful entry, and the rules that they say. Assumes nothing.
use Prim.Native.Nat.{ℕ, zero, suc, ◌+◌, ◌-◌, ◌≤◌, ◌<◌}
use native.Mathlib.Omega.{arith}
use mathlib.Core.Path.{◌≡◌, refl, sym, ap, ◌∙◌}
use mathlib.Core.Bool.{true, false}
use mathlib.Core.List.{List, [], ◌∷◌}
use mathlib.Core.Logic.{◌↔◌, ◌⊎◌, ⊎_elim, inl, inr}
use lib.Bits.{bit_and, bit_or}
use lib.Dec.{eqb}
use lib.ListN.{length}
use borrow.Author.Tests.{eqb-true, eqb-false, eq-eqb, ne_eqb, leb-true, le-leb, ltb-true, lt-ltb}
use Rattle.words.specs.Words.{bit}
use Rattle.words.proofs.Logic.{cases, clash, is_false, all_of_at, all_of_make, and_l, and_r, and_i, or_l, or_e, or_i, or_il, or_ir}
use Rattle.words.proofs.Bits.{bit_or_lem}
use Rattle.words.proofs.Masks.{run_exactly, run_only, includes_exactly, apart_exactly}
use Rattle.table.specs.Table.{Pattern, Field, Condition, Entry, field_number, own_bits}
use Rattle.layout.specs.Readable.{bits_of, lawful_pattern, lawful_condition, lawful_form, lawful_field, lawful_fields, lawful_head, lawful_cycles, lawful}
use Rattle.layout.specs.Rules.{no_pattern, no_condition, pattern_number, condition_number, OwnBit, InField, PatternRule, FieldRule, CoverRule, ConditionRule, EntryRule}

module _ (width size : ℕ) (fits : size ≤ width) where
  abbrev own : ℕ
  own = own_bits width size

  own_exactly : (i : ℕ) → (bit own i ≡ true) ↔ OwnBit width size i
  own_exactly i =
      let r = run_exactly (width - size) size i in
      (λ t. let b = r.0 t in (b.0, omega (arith, b.1)), λ o. r.1 (o.0, omega (arith, o.1)))

  -- ---- a pattern, and a condition

  pub pattern_rule : (p : Pattern) → (lawful_pattern own p ≡ true) ↔ PatternRule width size p
  unfolding lawful_pattern
  pattern_rule p = (
    λ l. record {
      mask = λ i t. (own_exactly i).0 ((includes_exactly own p.mask).0 (and_l _ l) i t);
      value = (includes_exactly p.mask p.value).0 (and_r _ l);
    },
    λ r. and_i ((includes_exactly own p.mask).1 (λ i t. (own_exactly i).1 (r.mask i t))) ((includes_exactly p.mask p.value).1 r.value),
  )

  pub condition_rule : (k : Condition) → (lawful_condition own k ≡ true) ↔ ConditionRule width size k
  unfolding lawful_condition
  condition_rule k = (
    λ l. record {
      few = leb-true _ _ (and_l _ l);
      matching = (pattern_rule k.matching).0 (and_l _ (and_r _ l));
      unmatching = λ j h. (pattern_rule (pattern_number k.unmatching j)).0 (all_of_at no_pattern (lawful_pattern own) k.unmatching (and_r _ (and_r _ l)) j h);
    },
    λ r. and_i (le-leb _ _ r.few) (and_i ((pattern_rule k.matching).1 r.matching)
        (all_of_make no_pattern (lawful_pattern own) k.unmatching (λ j h. (pattern_rule (pattern_number k.unmatching j)).1 (r.unmatching j h)))),
  )

  -- ---- a field

  form_rule : (f : Field) → (lawful_form f ≡ true) ↔ (((f.form ≡ 2 → ⊥) → f.fraction ≡ 0) × (f.form ≤ 2) × (f.fraction ≤ 16) × (f.fraction ≤ f.width))
  unfolding lawful_form
  form_rule f = (
    λ l. let g = and_r _ l in (
      (λ d. eqb-true _ _ (or_e (and_l _ l) (ne_eqb f.form 2 d))),
      leb-true _ _ (and_l _ (and_l _ g)),
      leb-true _ _ (and_r _ (and_l _ g)),
      leb-true _ _ (and_r _ g),
    ),
    λ r. and_i
        (cases (eqb f.form 2) (λ t. or_il _ t) (λ t. or_ir _ (eq-eqb _ _ (r.0 (eqb-false _ _ t)))))
        (and_i (and_i (le-leb _ _ r.1) (le-leb _ _ r.2)) (le-leb _ _ r.3)),
  )

  field_there : (used : ℕ) (f : Field) → lawful_field width size used f ≡ true → FieldRule width size f × (bit_and used (bits_of f) ≡ 0)
  unfolding lawful_field
  field_there used f l =
      let r = (form_rule f).0 (and_l _ l) in
      let a = and_r _ l in
      let b = and_r _ a in
      let c = and_r _ b in
      let low = leb-true (width - size) f.low (and_l _ b) in
      let below = leb-true (f.low + f.width) width (and_l _ c) in (
        record {
          some = leb-true _ _ (and_l _ a);
          inside = λ i h. (omega (arith, h.0), omega (arith, h.1));
          spare = r.0;
          form = r.1;
          fraction = r.2;
          within = r.3;
        },
        eqb-true _ _ (and_r _ c),
      )

  field_back : (used : ℕ) (f : Field) → FieldRule width size f → bit_and used (bits_of f) ≡ 0 → lawful_field width size used f ≡ true
  unfolding lawful_field
  field_back used f r e =
      let some = r.some in
      let first = r.inside f.low (omega arith, omega arith) in
      let last = r.inside (f.low + f.width - 1) (omega arith, omega arith) in
      and_i ((form_rule f).1 (r.spare, r.form, r.fraction, r.within))
      (and_i (le-leb _ _ some) (and_i (le-leb _ _ first.0) (and_i (le-leb (f.low + f.width) width (omega (arith, last.1))) (eq-eqb _ _ e))))

  -- ---- the cover: `used` lies in the own bits

  abbrev Rules : ℕ → List Field → Type 0
  Rules used fs = ((j : ℕ) → j < length fs → FieldRule width size (field_number fs j)) × CoverRule width size used fs

  abbrev Within : ℕ → Type 0
  Within used = (i : ℕ) → bit used i ≡ true → OwnBit width size i

  both_bits : (used : ℕ) (f : Field) (i : ℕ) → bit (bit_or used (bits_of f)) i ≡ true → (bit used i ≡ true) ⊎ InField f i
  both_bits used f i t =
      cases (bit used i)
      (λ s. inl s)
      (λ s. inr ((run_exactly f.low f.width i).0 (or_e (sym (bit_or_lem used (bits_of f) i) ∙ t) s)))

  used_bit : (used : ℕ) (f : Field) (i : ℕ) → bit used i ≡ true → bit (bit_or used (bits_of f)) i ≡ true
  used_bit used f i t = bit_or_lem used (bits_of f) i ∙ or_il _ t

  field_bit : (used : ℕ) (f : Field) (i : ℕ) → InField f i → bit (bit_or used (bits_of f)) i ≡ true
  field_bit used f i h = bit_or_lem used (bits_of f) i ∙ or_ir _ ((run_exactly f.low f.width i).1 h)

  more_within : (used : ℕ) (f : Field) → FieldRule width size f → Within used → Within (bit_or used (bits_of f))
  more_within used f r w i t = ⊎_elim (λ s. w i s) (λ h. r.inside i h) (both_bits used f i t)

  pub cover_there : (fs : List Field) (used : ℕ) → Within used → lawful_fields width size used fs ≡ true → Rules used fs
  unfolding lawful_fields
  cover_there [] used w l = (
    λ j h. absurd (omega arith),
    record {
      covered = λ i o. inl (ap (λ (x : ℕ). bit x i) (eqb-true used own l) ∙ (own_exactly i).1 o);
      off_mask = λ i j h. absurd (omega arith);
      once = λ i j k h. absurd (omega arith);
    },
  )
  cover_there (f ∷ fs) used w l =
      let (r, apart) = field_there used f (and_l _ l) in
      let (each, cover) = cover_there fs (bit_or used (bits_of f)) (more_within used f r w) (and_r _ l) in (
        fields r each,
        record {
          covered = λ i o. ⊎_elim
              (λ t. ⊎_elim (λ s. inl s) (λ h. inr (0, omega arith, h)) (both_bits used f i t))
              (λ h. inr (suc h.0, omega (arith, h.1), h.2))
              (cover.covered i o);
          off_mask = off apart cover;
          once = once cover;
        },
      )
    where
      fields : FieldRule width size f → ((j : ℕ) → j < length fs → FieldRule width size (field_number fs j)) → (j : ℕ) → j < length (f ∷ fs) → FieldRule width size (field_number (f ∷ fs) j)
      fields r each zero h = r
      fields r each (suc j) h = each j (omega arith)

      off : bit_and used (bits_of f) ≡ 0 → CoverRule width size (bit_or used (bits_of f)) fs → (i j : ℕ) → j < length (f ∷ fs) → InField (field_number (f ∷ fs) j) i → bit used i ≡ false
      off apart cover i zero h k = (apart_exactly used (bits_of f)).0 apart i ((run_exactly f.low f.width i).1 k)
      off apart cover i (suc j) h k = or_l _ (sym (bit_or_lem used (bits_of f) i) ∙ cover.off_mask i j (omega arith) k)

      never : CoverRule width size (bit_or used (bits_of f)) fs → (i j : ℕ) → j < length fs → InField f i → InField (field_number fs j) i → ⊥
      never cover i j h a b = clash (field_bit used f i a) (cover.off_mask i j h b)

      once : CoverRule width size (bit_or used (bits_of f)) fs → (i j k : ℕ) → j < length (f ∷ fs) → k < length (f ∷ fs) → InField (field_number (f ∷ fs) j) i → InField (field_number (f ∷ fs) k) i → j ≡ k
      once cover i zero zero h g a b = refl
      once cover i zero (suc k) h g a b = absurd (never cover i k (omega arith) a b)
      once cover i (suc j) zero h g a b = absurd (never cover i j (omega arith) b a)
      once cover i (suc j) (suc k) h g a b = ap suc (cover.once i j k (omega arith) (omega arith) a b)

  pub cover_back : (fs : List Field) (used : ℕ) → Within used → Rules used fs → lawful_fields width size used fs ≡ true
  unfolding lawful_fields
  cover_back [] used w r =
      eq-eqb used own (run_only width (width - size) size used (omega arith) (λ i. (
        λ t. let o = w i t in (o.0, omega (arith, o.1)),
        λ b. ⊎_elim (λ t. t) (λ h. absurd (omega (arith, h.1))) (r.1.covered i (b.0, omega (arith, b.1))),
      )))
  cover_back (f ∷ fs) used w r =
      let each = r.0 in
      let cover = r.1 in
      let here = each 0 (omega arith) in
      let off : (i : ℕ) → bit (bits_of f) i ≡ true → bit used i ≡ false = λ i t. cover.off_mask i 0 (omega arith) ((run_exactly f.low f.width i).0 t) in
      and_i (field_back used f here ((apart_exactly used (bits_of f)).1 off))
      (cover_back fs (bit_or used (bits_of f)) (more_within used f here w) (
        λ j h. each (suc j) (omega arith),
        record {
          covered = λ i o. ⊎_elim
              (λ t. inl (used_bit used f i t))
              (λ h. first i h.0 h.1 h.2)
              (cover.covered i o);
          off_mask = λ i j h k. bit_or_lem used (bits_of f) i ∙ or_i (cover.off_mask i (suc j) (omega arith) k)
              (is_false (λ t. let z = cover.once i 0 (suc j) (omega arith) (omega arith) ((run_exactly f.low f.width i).0 t) k in omega arith));
          once = λ i j k h g a b. let z = cover.once i (suc j) (suc k) (omega arith) (omega arith) a b in omega arith;
        },
      ))
    where
      first : (i j : ℕ) → j < length (f ∷ fs) → InField (field_number (f ∷ fs) j) i → (bit (bit_or used (bits_of f)) i ≡ true) ⊎ ((j : ℕ) × (j < length fs) × InField (field_number fs j) i)
      first i zero h k = inl (field_bit used f i k)
      first i (suc j) h k = inr (j, omega arith, k)

-- ---- an entry

module _ (kind width : ℕ) (known : (kind ≡ 1) ⊎ (kind ≡ 6)) (e : Entry) where
  cycles_rule : (lawful_cycles kind e ≡ true) ↔ ((kind ≡ 6 → e.cycles ≤ 65535) × (kind ≡ 1 → e.cycles ≡ 0))
  unfolding lawful_cycles
  cycles_rule =
      ⊎_elim
      (λ k. rw k (λ l. ((λ q. absurd (omega arith)), λ q. eqb-true _ _ l), λ r. eq-eqb _ _ (r.1 refl)))
      (λ k. rw k (λ l. ((λ q. leb-true _ _ l), λ q. absurd (omega arith)), λ r. le-leb _ _ (r.0 refl)))
      known

  pub entry_rule : (lawful kind width e ≡ true) ↔ EntryRule kind width e
  unfolding lawful lawful_head
  entry_rule = (
    λ l.
        let head = and_l _ l in
        let a = and_r _ head in
        let b = and_r _ a in
        let c = and_r _ b in
        let t = and_r _ l in
        let u = and_r _ t in
        let v = and_r _ u in
        let most = leb-true e.size width (and_l _ b) in
        let opcode = (pattern_rule width e.size most e.opcode).0 (and_l _ t) in
        let fields = cover_there width e.size most e.fields e.opcode.mask opcode.mask (and_l _ v) in
        let cycles = cycles_rule.0 (and_l _ u) in
        record {
          label = ltb-true _ _ (and_l _ head);
          some = leb-true _ _ (and_l _ a);
          most = most;
          few_fields = leb-true _ _ (and_l _ c);
          few_conditions = leb-true _ _ (and_r _ c);
          opcode = opcode;
          cycles_six = cycles.0;
          cycles_one = cycles.1;
          fields = fields.0;
          cover = fields.1;
          conditions = λ j h. (condition_rule width e.size most (condition_number e.conditions j)).0 (all_of_at no_condition (lawful_condition (own_bits width e.size)) e.conditions (and_r _ v) j h);
        },
    λ r.
        and_i (and_i (lt-ltb _ _ r.label) (and_i (le-leb _ _ r.some) (and_i (le-leb _ _ r.most) (and_i (le-leb _ _ r.few_fields) (le-leb _ _ r.few_conditions)))))
        (and_i ((pattern_rule width e.size r.most e.opcode).1 r.opcode)
        (and_i (cycles_rule.1 (r.cycles_six, r.cycles_one))
        (and_i (cover_back width e.size r.most e.fields e.opcode.mask r.opcode.mask (r.fields, r.cover))
        (all_of_make no_condition (lawful_condition (own_bits width e.size)) e.conditions (λ j h. (condition_rule width e.size r.most (condition_number e.conditions j)).1 (r.conditions j h)))))),
  )
