-- Each answer of decoding and of encoding, by when it is given, of a table that reads. Assumes nothing.
use mathlib.Core.Path.{◌≡◌, refl, sym, ap, ◌∙◌}
use mathlib.Core.Logic.{◌↔◌, ⊎_elim}
use mathlib.Core.List.{List}
use Prim.Native.Nat.{ℕ, ◌^◌, ◌≤◌, ◌<◌}
use native.Mathlib.Nat.{zero-add}
use native.Mathlib.Omega.{arith}
use lib.Dec.{ltb, leb, eqb}
use lib.ListN.{length}
use borrow.Author.Tests.{ltb-true, ltb-false, lt-ltb, le-ltb, eqb-true, eq-eqb, leb-true, leb-false, le-leb, lt-leb}
use Rattle.words.specs.Tests.{◌and◌}
use Rattle.words.specs.Outcome.{Outcome, result, faulty, refused}
use Rattle.words.proofs.Logic.{cases, options, clash, is_false, and_l, and_r, and_i}
use Rattle.words.proofs.Outcomes.{not_refused, not_faulty, refused_not_faulty, other_number}
use Rattle.table.specs.Table.{Entry, Table, entry_number}
use Rattle.choice.specs.Rule.{Choice, names, nothing, ambiguous, selects}
use Rattle.choice.proofs.Judging.{selects_names, names_selects}
use Rattle.selection.specs.Selection.{select}
use Rattle.selection.proofs.Formula.{Selects, Contested, Unclaimed, names_exactly, nothing_exactly, ambiguous_exactly}
use Rattle.operands.specs.Fields.{placed, misfit}
use Rattle.operands.specs.Calls.{Decoded, entry_values, none_selected, decoded_as, decode_of, encoded_as, encoded_from, encode_of}
use Rattle.operands.proofs.Inverse.{Good, GoodTable, decoded, decodes}
use Rattle.operands.proofs.Held.{Values, Holds, Asked, AllFit, FirstMisfit, values_exactly, all_none, first_some, fit_or_first, holds_made, made_holds, held_fit}

-- ---- decoding, of a table that reads
pub told_refused : (es : List Entry) (w : ℕ) (c : Choice) (n p x : ℕ) → decoded_as es w c ≡ refused n p x → (c ≡ ambiguous) × (n ≡ 6)
unfolding decoded_as
told_refused es w (names e) n p x q = absurd (not_refused q)
told_refused es w nothing n p x q = absurd (not_refused q)
told_refused es w ambiguous n p x q = (refl, cc)

told_nothing : (es : List Entry) (w : ℕ) (c : Choice) → decoded_as es w c ≡ result none_selected → c ≡ nothing
unfolding decoded_as
told_nothing es w (names e) q = absurd (let z : ◌≡◌ {A = ℕ} 0 1 = cc in omega arith)
told_nothing es w nothing q = refl
told_nothing es w ambiguous q = absurd (let z : ◌≡◌ {A = ℕ} 0 1 = cc in omega arith)

told_own : (es : List Entry) (w : ℕ) (c : Choice) (n p : ℕ) → decoded_as es w c ≡ faulty n p → ⊥
unfolding decoded_as
told_own es w (names e) n p q = not_faulty q
told_own es w nothing n p q = not_faulty q
told_own es w ambiguous n p q = refused_not_faulty q

module _ (t : Table) (w room : ℕ) where
  abbrev answer : Outcome Decoded
  answer = decode_of (result t) w room

  short : room < 8 → answer ≡ refused 10 0 0
  unfolding decode_of
  short h = rw (lt-leb 8 room h)

  wide : 8 ≤ room → 2 ^ t.width ≤ w → answer ≡ refused 7 0 0
  unfolding decode_of
  wide h k = rw (le-leb 8 room h, le-ltb w _ k)

  chosen : 8 ≤ room → w < 2 ^ t.width → answer ≡ decoded_as t.entries w (select t.entries w)
  unfolding decode_of
  chosen h k = rw (le-leb 8 room h, lt-ltb w _ k)

  -- too little room, too wide, or by what selection says
  pub three : {G : Type 0} → (room < 8 → answer ≡ refused 10 0 0 → G) → (8 ≤ room → 2 ^ t.width ≤ w → answer ≡ refused 7 0 0 → G)
      → (8 ≤ room → w < 2 ^ t.width → answer ≡ decoded_as t.entries w (select t.entries w) → G) → G
  three a b c =
      cases (leb 8 room)
      (λ r. let h = leb-true 8 room r in cases (ltb w (2 ^ t.width))
      (λ s. let k = ltb-true w _ s in c h k (chosen h k))
      (λ s. let k = ltb-false w _ s in b h k (wide h k)))
      (λ r. let h = leb-false 8 room r in a h (short h))

  pub decode_own : (n p : ℕ) → answer ≡ faulty n p → ⊥
  decode_own n p e =
      three (λ h q. refused_not_faulty (sym q ∙ e)) (λ h k q. refused_not_faulty (sym q ∙ e)) (λ h k q. told_own t.entries w _ n p (sym q ∙ e))

  pub ten : (answer ≡ refused 10 0 0) ↔ (room < 8)
  ten = (
    λ e. three (λ h q. h)
        (λ h k q. absurd (other_number (sym q ∙ e) (λ z. omega arith)))
        (λ h k q. absurd (let z = (told_refused t.entries w _ 10 0 0 (sym q ∙ e)).1 in omega arith)),
    short,
  )

  pub seven : (answer ≡ refused 7 0 0) ↔ ((8 ≤ room) × (2 ^ t.width ≤ w))
  seven = (
    λ e. three (λ h q. absurd (other_number (sym q ∙ e) (λ z. omega arith)))
        (λ h k q. (h, k))
        (λ h k q. absurd (let z = (told_refused t.entries w _ 7 0 0 (sym q ∙ e)).1 in omega arith)),
    λ p. wide p.0 p.1,
  )

  pub six : (answer ≡ refused 6 0 w) ↔ ((8 ≤ room) × (w < 2 ^ t.width) × Contested t.entries w)
  unfolding decoded_as
  six = (
    λ e. three (λ h q. absurd (other_number (sym q ∙ e) (λ z. omega arith)))
        (λ h k q. absurd (other_number (sym q ∙ e) (λ z. omega arith)))
        (λ h k q. (h, k, (ambiguous_exactly t.entries w).0 (told_refused t.entries w _ 6 0 w (sym q ∙ e)).0)),
    λ p. chosen p.0 p.1 ∙ ap (decoded_as t.entries w) ((ambiguous_exactly t.entries w).1 p.2),
  )

  pub no_entry : (answer ≡ result none_selected) ↔ ((8 ≤ room) × (w < 2 ^ t.width) × Unclaimed t.entries w)
  unfolding decoded_as
  no_entry = (
    λ e. three (λ h q. absurd (not_refused (sym e ∙ q)))
        (λ h k q. absurd (not_refused (sym e ∙ q)))
        (λ h k q. (h, k, (nothing_exactly t.entries w).0 (told_nothing t.entries w _ (sym q ∙ e)))),
    λ p. chosen p.0 p.1 ∙ ap (decoded_as t.entries w) ((nothing_exactly t.entries w).1 p.2),
  )

  pub an_entry : (e : ℕ) (vs : List ℕ)
      → (answer ≡ result (entry_values e vs)) ↔ ((8 ≤ room) × (w < 2 ^ t.width) × Selects t.entries w e × Values (entry_number t.entries e).fields w vs)
  an_entry e vs = (
    λ q. let d = decoded t w room e vs q in
        (d.0, d.1, (names_exactly t.entries w e).0 d.2, (values_exactly (entry_number t.entries e).fields w vs).0 d.3),
    λ p. decodes t w room e vs p.0 p.1 ((names_exactly t.entries w e).1 p.2) ((values_exactly (entry_number t.entries e).fields w vs).1 p.3),
  )

-- ---- encoding, of a table that reads
pub encode_own : (t : Table) (e : ℕ) (vs : List ℕ) (n p : ℕ) → encode_of (result t) e vs ≡ faulty n p → ⊥
unfolding encode_of encoded_from encoded_as
encode_own t e vs n p q =
    cases (ltb e (length t.entries) and eqb (length vs) (length (entry_number t.entries e).fields))
    (λ a. options (misfit 0 (entry_number t.entries e).fields vs)
    (λ m. cases (selects (select t.entries (placed (entry_number t.entries e).opcode.value (entry_number t.entries e).fields vs)) e)
    (λ s. not_faulty (rw (a, m, s) at q))
    (λ s. refused_not_faulty (rw (a, m, s) at q)))
    (λ i m. refused_not_faulty (rw (a, m) at q)))
    (λ a. refused_not_faulty (rw a at q))

module _ (t : Table) (good : GoodTable t) (e : ℕ) (vs : List ℕ) where
  abbrev made : ℕ
  made = placed (entry_number t.entries e).opcode.value (entry_number t.entries e).fields vs

  abbrev entry : Entry
  entry = entry_number t.entries e

  abbrev code : Outcome ℕ
  code = encode_of (result t) e vs

  asks : Asked t.entries e vs → code ≡ encoded_from t.entries e vs (misfit 0 entry.fields vs)
  unfolding encode_of
  asks a = rw (and_i (lt-ltb _ _ a.entry) (eq-eqb _ _ a.count))

  unasked : (Asked t.entries e vs → ⊥) → code ≡ refused 11 0 0
  unfolding encode_of
  unasked n = rw (is_false {b = ltb e (length t.entries) and eqb (length vs) (length entry.fields)}
      (λ a. n (record { entry = ltb-true _ _ (and_l _ a); count = eqb-true _ _ (and_r _ a) })))

  misfits : Asked t.entries e vs → (k : ℕ) → FirstMisfit entry.fields vs k → code ≡ refused 12 k 0
  unfolding encoded_from
  misfits a k m = asks a ∙ rw (first_some 0 entry.fields vs k a.count m, zero-add k)

  all_fits : Asked t.entries e vs → AllFit entry.fields vs → code ≡ encoded_as t.entries e made
  unfolding encoded_from
  all_fits a f = asks a ∙ rw (all_none 0 entry.fields vs a.count f)

  selected : Asked t.entries e vs → AllFit entry.fields vs → Selects t.entries made e → code ≡ result made
  unfolding encoded_as
  selected a f s = all_fits a f ∙ rw (names_selects _ e ((names_exactly t.entries made e).1 s))

  unselected : Asked t.entries e vs → AllFit entry.fields vs → (Selects t.entries made e → ⊥) → code ≡ refused 13 0 made
  unfolding encoded_as
  unselected a f n = all_fits a f ∙ rw (is_false {b = selects (select t.entries made) e} (λ c. n ((names_exactly t.entries made e).0 (selects_names _ _ c))))

  -- one of the four
  pub four : {G : Type 0} → ((Asked t.entries e vs → ⊥) → code ≡ refused 11 0 0 → G)
      → (Asked t.entries e vs → (k : ℕ) → FirstMisfit entry.fields vs k → code ≡ refused 12 k 0 → G)
      → (Asked t.entries e vs → AllFit entry.fields vs → (Selects t.entries made e → ⊥) → code ≡ refused 13 0 made → G)
      → (Asked t.entries e vs → AllFit entry.fields vs → Selects t.entries made e → code ≡ result made → G) → G
  four f g h i =
      cases (ltb e (length t.entries) and eqb (length vs) (length entry.fields))
      (λ b.
      let a : Asked t.entries e vs = record { entry = ltb-true _ _ (and_l _ b); count = eqb-true _ _ (and_r _ b) } in
      ⊎_elim
      (λ m. cases (selects (select t.entries made) e)
      (λ c. let s = (names_exactly t.entries made e).0 (selects_names _ _ c) in i a m s (selected a m s))
      (λ c. let n : Selects t.entries made e → ⊥ = λ s. clash (names_selects _ e ((names_exactly t.entries made e).1 s)) c in h a m n (unselected a m n)))
      (λ m. g a m.0 m.1 (misfits a m.0 m.1))
      (fit_or_first entry.fields vs a.count))
      (λ b. let n : Asked t.entries e vs → ⊥ = λ a. clash (and_i (lt-ltb _ _ a.entry) (eq-eqb _ _ a.count)) b in f n (unasked n))

  pub eleven : (code ≡ refused 11 0 0) ↔ (Asked t.entries e vs → ⊥)
  eleven = (
    λ q. four (λ n p. n)
        (λ a k m p. absurd (other_number (sym p ∙ q) (λ z. omega arith)))
        (λ a f n p. absurd (other_number (sym p ∙ q) (λ z. omega arith)))
        (λ a f s p. absurd (not_refused (sym p ∙ q))),
    unasked,
  )

  pub twelve : (k : ℕ) → (code ≡ refused 12 k 0) ↔ (Asked t.entries e vs × FirstMisfit entry.fields vs k)
  twelve k = (
    λ q. four (λ n p. absurd (other_number (sym p ∙ q) (λ z. omega arith)))
        (λ a j m p. let z : j ≡ k = cc in (a, rw z at m))
        (λ a f n p. absurd (other_number (sym p ∙ q) (λ z. omega arith)))
        (λ a f s p. absurd (not_refused (sym p ∙ q))),
    λ p. misfits p.0 k p.1,
  )

  -- the word that holds the values, of an entry that is there
  module _ (w : ℕ) where
    good_entry_lem : e < length t.entries → Good t.width entry
    unfolding GoodTable
    good_entry_lem h = good e h

    held : e < length t.entries → Holds t.width entry vs w → (made ≡ w) × Asked t.entries e vs × AllFit entry.fields vs
    held h s = (
      holds_made t.width entry vs (good_entry_lem h) w s,
      record { entry = h; count = s.values.count },
      held_fit entry.fields w vs s.values,
    )

    holds : Asked t.entries e vs → AllFit entry.fields vs → made ≡ w → Holds t.width entry vs w
    holds a f q = rw q at (made_holds t.width entry vs (good_entry_lem a.entry) a.count f)

    pub thirteen : (code ≡ refused 13 0 w) ↔ ((e < length t.entries) × Holds t.width entry vs w × (Selects t.entries w e → ⊥))
    thirteen = (
      λ q. four (λ n p. absurd (other_number (sym p ∙ q) (λ z. omega arith)))
          (λ a j m p. absurd (other_number (sym p ∙ q) (λ z. omega arith)))
          (λ a f n p. let z : made ≡ w = cc in (a.entry, holds a f z, rw z at n))
          (λ a f s p. absurd (not_refused (sym p ∙ q))),
      λ p. let h = held p.0 p.1 in rw (← h.0) (unselected h.1 h.2 (rw h.0 p.2)),
    )

    pub the_word : (code ≡ result w) ↔ (Holds t.width entry vs w × Selects t.entries w e)
    the_word = (
      λ q. four (λ n p. absurd (not_refused (sym q ∙ p)))
          (λ a j m p. absurd (not_refused (sym q ∙ p)))
          (λ a f n p. absurd (not_refused (sym q ∙ p)))
          (λ a f s p. let z : made ≡ w = cc in (holds a f z, rw z at s)),
      λ p. let h = held p.1.entry p.0 in rw (← h.0) (selected h.1 h.2 (rw h.0 p.1)),
    )
