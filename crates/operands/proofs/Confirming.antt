-- Encoding: from the word made to the answer. Assumes nothing.
use mathlib.Core.Path.{◌≡◌, refl, sym, ap, ◌∙◌}
use mathlib.Core.List.{List}
use mathlib.Core.Bool.{true, cond}
use mathlib.Core.Option.{Option, none, some}
use Prim.Native.Nat.{ℕ, zero, suc, min, ◌+◌, ◌^◌, ◌≤◌, ◌<◌}
use native.Mathlib.Omega.{arith}
use lib.Dec.{eqb}
use lib.ListN.{length}
use borrow.Author.Tests.{eq-eqb, ne_eqb, lt-ltb, le-ltb}
use Rattle.words.specs.Tests.{◌and◌}
use Rattle.words.specs.Words.{word}
use lib.Bits.{bit_or}
use Rattle.std.specs.Prelude.{Result, Ok, Err}
use Rattle.std.specs.Prelude as code
use Rattle.words.specs.Outcome.{Outcome, result, refused, refused_as}
use Rattle.words.specs.declared.Refusal.{Refusal}
use Rattle.table.specs.Table.{Entry, Table, Field, entry_number, table_of, fields_at, fields_place, fields_of, field_bits, size_of, count_of, width_of}
use Rattle.table.specs.Check.{fine, table_check, fields_check, read_table}
use Rattle.table.specs.Answer.{Reads}
use Rattle.table.specs.declared.Table as Held
use Rattle.table.proofs.Laws.{then_l, then_r, length_entries, length_fields, first_width, field_some, field_below}
use Rattle.table.proofs.Views.{entry_field_check, read_refused}
use Rattle.choice.specs.Rule.{Choice, names, nothing, ambiguous, selects}
use Rattle.selection.specs.Selection.{select}
use Rattle.selection.specs.Lookup.{looked_up, look_of, said_found}
use Rattle.selection.specs.Places.{FindsAmong}
use Rattle.selection.specs.declared.Found.{Found}
use Rattle.selection.proofs.Finding.{among_finds}
use Rattle.operands.specs.Fields.{placed, misfit}
use Rattle.operands.specs.Calls.{encoded_as, encoded_from, encode_of}
use Rattle.operands.specs.Answers.{InWord, made_or, makes, confirmed, made_for}
use Rattle.operands.proofs.Cover.{placed_taken}
use Rattle.operands.proofs.Inverse.{Good, entry_good, own_lt}
use Rattle.operands.proofs.Answering.{by_refusal, Stands}

-- ---- by what lookup says of the word, in the entries of a table that was read
module _ (t : Held.Table) (e w : ℕ) (r : Result (code.Option Found) Refusal) (f : FindsAmong t.entries.words.now t.entries.places t.width (min t.entries.count 256) w r) where
  abbrev looked : Outcome (Option ℕ)
  looked = look_of (read_table t.entries.words.now) w

  is_looked : said_found r ≡ looked
  is_looked = (among_finds t.entries.words.now t.entries.places t.width t.entries.count w t.ready r f).answer

  pub confirmed_yes : (a : Found) → r ≡ Ok (code.Some a) → a.entry ≡ e → result w ≡ confirmed looked e w
  unfolding confirmed
  confirmed_yes a h q = let x : result (some a.entry) ≡ looked = rw h at is_looked in rw (← x, eq-eqb a.entry e q)

  pub confirmed_other : (a : Found) → r ≡ Ok (code.Some a) → (a.entry ≡ e → ⊥) → refused 13 0 w ≡ confirmed looked e w
  unfolding confirmed
  confirmed_other a h q = let x : result (some a.entry) ≡ looked = rw h at is_looked in rw (← x, ne_eqb a.entry e q)

  pub confirmed_nothing : r ≡ Ok code.None → refused 13 0 w ≡ confirmed looked e w
  unfolding confirmed
  confirmed_nothing h = let x : result none ≡ looked = rw h at is_looked in rw (← x)

  pub confirmed_refused : (a : Refusal) → r ≡ Err a → refused 13 0 w ≡ confirmed looked e w
  unfolding confirmed
  confirmed_refused a h =
      let x : refused_as a ≡ looked = rw h at is_looked in
      let P : Outcome (Option ℕ) → Outcome ℕ → Type 0 = λ o q. refused 13 0 w ≡ confirmed o e w in
      rw (← x) (by_refusal P (λ n p. refl) (λ n p v. refl) a)

-- ---- a misfit, or a word made; o is the opcode's value as the code has it
module _ (r : Outcome Table) (e o o' : ℕ) (fs : List Field) (vs : List ℕ) (q : o ≡ o') where
  pub made_refused : (a : Refusal) → refused_as a ≡ makes 0 o fs vs → refused_as a ≡ made_for r e (makes 0 o' fs vs)
  unfolding made_for
  made_refused a h =
      let P : Outcome ℕ → Outcome ℕ → Type 0 = λ x y. y ≡ made_for r e x in
      rw (← q, ← h) (by_refusal P (λ n p. refl) (λ n p x. refl) a)

  pub made_word : (w : ℕ) (a : Outcome ℕ) → result w ≡ makes 0 o fs vs → a ≡ confirmed (look_of r w) e w → a ≡ made_for r e (makes 0 o' fs vs)
  unfolding made_for
  made_word w a h t = rw (← q, ← h) t

-- ---- the answers of encoding
confirm_choice : (c : Choice) (e w : ℕ) → confirmed (looked_up w c) e w ≡ cond (selects c e) (result w) (refused 13 0 w)
unfolding confirmed selects
confirm_choice (names i) e w = refl
confirm_choice nothing e w = refl
confirm_choice ambiguous e w = refl

confirm_is : (t : Table) (e w : ℕ) → w < 2 ^ t.width → confirmed (look_of (result t) w) e w ≡ encoded_as t.entries e w
unfolding look_of encoded_as
confirm_is t e w h = rw (lt-ltb w _ h) (confirm_choice (select t.entries w) e w)

made_is : (t : Table) (e : ℕ) (vs : List ℕ) (o : Option ℕ)
    → (o ≡ none → placed (entry_number t.entries e).opcode.value (entry_number t.entries e).fields vs < 2 ^ t.width)
    → made_for (result t) e (made_or o (placed (entry_number t.entries e).opcode.value (entry_number t.entries e).fields vs)) ≡ encoded_from t.entries e vs o
unfolding made_for encoded_from
made_is t e vs (some i) h = refl
made_is t e vs none h = confirm_is t e _ (h refl)

pub encode_refused : (ws : List ℕ) (e : ℕ) (vs : List ℕ) (r : Refusal) → Reads ws (Err r) → refused_as r ≡ encode_of (read_table ws) e vs
unfolding encode_of
encode_refused ws e vs r reads = read_refused ws r reads (λ (o : Outcome Table). encode_of o e vs) (λ n p. refl)

module _ (ws : List ℕ) (t : table_check ws ≡ fine) (e : ℕ) (vs : List ℕ) where
  pub encode_none : count_of (word ws 0) ≤ e → refused 11 0 0 ≡ encode_of (read_table ws) e vs
  unfolding encode_of ◌and◌
  encode_none h = rw (t, length_entries ws (count_of (word ws 0)) 1, le-ltb e (count_of (word ws 0)) h)

  module _ (h : e < count_of (word ws 0)) (p : ℕ) (s : Stands ws e p) where
    fields_are : (entry_number (table_of ws).entries e).fields ≡ fields_at ws (fields_of (word ws p)) (fields_place ws p)
    fields_are = ap (λ (x : Entry). x.fields) s.is

    value_is : (entry_number (table_of ws).entries e).opcode.value ≡ word ws (p + 2)
    value_is = ap (λ (x : Entry). x.opcode.value) s.is ∙ ap (word ws) (let g : p + 1 + 1 ≡ p + 2 = omega arith in g)

    count_is : length (entry_number (table_of ws).entries e).fields ≡ fields_of (word ws p)
    count_is = ap length fields_are ∙ length_fields ws (fields_of (word ws p)) (fields_place ws p)

    pub encode_count : (length vs ≡ fields_of (word ws p) → ⊥) → refused 11 0 0 ≡ encode_of (read_table ws) e vs
    unfolding encode_of ◌and◌
    encode_count d =
        rw (t, length_entries ws (count_of (word ws 0)) 1, lt-ltb e (count_of (word ws 0)) h, count_is, ne_eqb _ _ d)

    made_small : length vs ≡ fields_of (word ws p) → misfit 0 (entry_number (table_of ws).entries e).fields vs ≡ none
        → placed (entry_number (table_of ws).entries e).opcode.value (entry_number (table_of ws).entries e).fields vs < 2 ^ width_of (word ws 0)
    made_small l m =
        let g : Good (width_of (word ws 0)) (entry_number (table_of ws).entries e) = rw s.is (entry_good ws _ p s.check) in
        own_lt _ _ _ g.short (placed_taken _ _ _ 0 (entry_number (table_of ws).entries e).fields vs g.cover g.value_in_lem (l ∙ sym count_is) m).inside

    pub encode_made : (a : Outcome ℕ) → length vs ≡ fields_of (word ws p)
        → a ≡ made_for (read_table ws) e (makes 0 (word ws (p + 2)) (fields_at ws (length vs) (fields_place ws p)) vs) → a ≡ encode_of (read_table ws) e vs
    unfolding encode_of ◌and◌ makes
    encode_made a l q =
        let es = (table_of ws).entries in
        let k : eqb (length vs) (length (entry_number es e).fields) ≡ true = eq-eqb _ _ (l ∙ sym count_is) in
        let y : (entry_number es e).fields ≡ fields_at ws (length vs) (fields_place ws p) = fields_are ∙ ap (λ (x : ℕ). fields_at ws x (fields_place ws p)) (sym l) in
        let m : made_for (read_table ws) e (makes 0 (word ws (p + 2)) (fields_at ws (length vs) (fields_place ws p)) vs) ≡ encoded_from es e vs (misfit 0 (entry_number es e).fields vs)
        = rw (t, ← value_is, ← y) (made_is (table_of ws) e vs (misfit 0 (entry_number es e).fields vs) (λ z. made_small l z)) in
        q ∙ m ∙ sym (encode_in k)
      where
        encode_in : eqb (length vs) (length (entry_number (table_of ws).entries e).fields) ≡ true
            → encode_of (read_table ws) e vs ≡ encoded_from (table_of ws).entries e vs (misfit 0 (entry_number (table_of ws).entries e).fields vs)
        encode_in k = rw (t, length_entries ws (count_of (word ws 0)) 1, lt-ltb e (count_of (word ws 0)) h, k)

-- ---- the fields of a table without fault lie in the word
in_word : (ws : List ℕ) (e width size used n p : ℕ) → width ≤ 32 → fields_check ws e width size used n p ≡ fine → InWord (fields_at ws n p)
unfolding fields_check fields_at InWord
in_word ws e width size used zero p h t = tt
in_word ws e width size used (suc n) p h t =
    let a = field_some ws width size used p (then_l _ _ t) in
    let b = field_below ws width size used p (then_l _ _ t) in
    (omega arith, omega arith, in_word ws e width size (bit_or used (field_bits (word ws p))) n (p + 1) h (then_r _ _ t))

pub entry_in_word : (ws : List ℕ) (e p n : ℕ) → table_check ws ≡ fine → Stands ws e p → n ≡ fields_of (word ws p) → InWord (fields_at ws n (fields_place ws p))
unfolding table_check
entry_in_word ws e p n t s q =
    rw q (in_word ws p (width_of (word ws 0)) (size_of (word ws p)) (word ws (p + 1)) _ (fields_place ws p) (first_width ws (then_l _ _ t)) (entry_field_check ws _ p s.check))
