-- Demand 2: decoding and encoding are each other's inverse. Assumes nothing.
use mathlib.Core.Path.{◌≡◌, refl, sym, ap, ◌∙◌}
use mathlib.Core.List.{List, [], ◌∷◌}
use mathlib.Core.Bool.{true}
use mathlib.Core.Option.{Option, none, some}
use Prim.Native.Nat.{ℕ, suc, ◌+◌, ◌-◌, ◌*◌, ◌/◌, ◌%◌, ◌^◌, ◌≤◌, ◌<◌}
use native.Mathlib.Nat.{add-zero}
use native.Mathlib.Omega.{arith}
use lib.Bits.{bit_and, and_le_r, and_comm}
use lib.Dec.{ltb, leb, eqb}
use lib.ListN.{length}
use lib.Pow.{recompose}
use borrow.Author.Tests.{ltb-true, lt-ltb, eqb-true, eq-eqb, leb-true, le-leb}
use Rattle.words.specs.Tests.{◌and◌}
use Rattle.words.proofs.Bits.{includes_true}
use Rattle.words.proofs.Parts.{part_lt, run_lt}
use Rattle.words.proofs.Logic.{cases, and_l, and_r, and_i, first_some}
use Rattle.words.specs.Words.{word, part}
use Rattle.table.specs.Table.{Entry, Table, Field, entry_number, table_of, own_bits, entry_at, count_of, width_of, size_of, fields_of, fields_place}
use Rattle.words.specs.Outcome.{result}
use Rattle.table.specs.Check.{Check, fine, fault, table_check, entry_check, pattern_check, reading, read_table}
use Rattle.table.proofs.Laws.{then_l, then_r, need_true, head_below, length_entries}
use Rattle.table.proofs.Views.{entry_check_lem, entry_at_lem, entry_field_check}
use Rattle.choice.proofs.Judging.{choice_names, selects_names, names_selects}
use Rattle.selection.specs.Lookup.{look_of}
use Rattle.choice.specs.Rule.{Choice, names, nothing, ambiguous, selects, judge, beats, matches, judge_at}
use Rattle.selection.specs.Selection.{select, claims}
use Rattle.operands.specs.Fields.{values_in, placed, misfit}
use Rattle.operands.specs.Calls.{Decoded, entry_values, decoded_as, decode_of, encoded_as, encoded_from, encode_of}
use Rattle.operands.proofs.Cover.{Covered, covered, and_run, taken_placed, Made, placed_taken}

-- what reading has found of an entry
pub record Good (width : ℕ) (e : Entry) : Type 0 where
  pub short : e.size ≤ width
  pub value_in_lem : bit_and e.opcode.value e.opcode.mask ≡ e.opcode.value
  pub cover : Covered (own_bits width e.size) e.opcode.mask e.fields

pub entry_good : (ws : List ℕ) (width p : ℕ) → entry_check ws width p ≡ fine → Good width (entry_at ws p)
unfolding entry_check pattern_check
entry_good ws width p e =
    let t = then_r _ _ e in
    record {
      short = head_below ws width p (then_l _ _ e);
      value_in_lem = and_comm (word ws (p + 1 + 1)) (word ws (p + 1)) ∙ includes_true _ _ (need_true _ _ _ (then_r _ _ (then_r _ _ (then_l _ _ t))));
      cover = covered ws p width (size_of (word ws p)) (word ws (p + 1)) (fields_of (word ws p)) (fields_place ws p) (entry_field_check ws width p e);
    }

unfoldable pub GoodTable : Table → Type 0
GoodTable t = (k : ℕ) → k < length t.entries → Good t.width (entry_number t.entries k)

pub table_good : (ws : List ℕ) → table_check ws ≡ fine → GoodTable (table_of ws)
unfolding table_check GoodTable
table_good ws e k h =
    let n = count_of (word ws 0) in
    let l : k < n = omega (arith, length_entries ws n 1) in
    rw (entry_at_lem ws (width_of (word ws 0)) k n _ l) (entry_good ws _ _ (entry_check_lem ws (width_of (word ws 0)) k n (then_r _ _ e) l))

-- ---- the values of a word
pub length_values : (fs : List Field) (w : ℕ) → length (values_in fs w) ≡ length fs
unfolding values_in
length_values [] w = refl
length_values (f ∷ fs) w = ap suc (length_values fs w)

pub values_fit : (fs : List Field) (w i : ℕ) → misfit i fs (values_in fs w) ≡ none
unfolding values_in misfit
values_fit [] w i = refl
values_fit (f ∷ fs) w i = rw (lt-ltb (part w f.low f.width) (2 ^ f.width) (part_lt w f.low f.width)) (values_fit fs w (i + 1))

-- ---- the selected entry
module _ (es : List Entry) (w e : ℕ) (s : select es w ≡ names e) where
  selected_first : (e < length es) × (claims w (entry_number es e) and beats es (claims w) e ≡ true)
  unfolding select judge judge_at
  selected_first = first_some (λ i. claims w (entry_number es i) and beats es (claims w) i) (length es) e (choice_names _ _ e s)

  pub selected_lt : e < length es
  selected_lt = selected_first.0

  pub selected_matches : bit_and w (entry_number es e).opcode.mask ≡ (entry_number es e).opcode.value
  unfolding claims matches
  selected_matches = eqb-true _ _ (and_l _ (and_l _ selected_first.1))

-- a word of the width with no bit below the own bits lies in them
pub own_all : (width size w : ℕ) → size ≤ width → w < 2 ^ width → w % 2 ^ (width - size) ≡ 0 → bit_and w (own_bits width size) ≡ w
unfolding part
own_all width size w h l z =
    let s : size + (width - size) ≡ width = omega arith in
    let g : w < 2 ^ (size + (width - size)) = rw s l in
    and_run w (width - size) size ∙ sym (add-zero _) ∙ ap (λ (x : ℕ). w / 2 ^ (width - size) % 2 ^ size * 2 ^ (width - size) + x) (sym z)
    ∙ recompose size (width - size) g

-- a word in the own bits is one of the width
pub own_lt : (width size w : ℕ) → size ≤ width → bit_and w (own_bits width size) ≡ w → w < 2 ^ width
own_lt width size w h e = omega (arith, and_le_r w (own_bits width size), run_lt width (width - size) size (omega arith))

-- ---- what an answer tells
decoded_names : (es : List Entry) (w : ℕ) (c : Choice) (e : ℕ) (vs : List ℕ) → decoded_as es w c ≡ result (entry_values e vs)
    → (c ≡ names e) × (values_in (entry_number es e).fields w ≡ vs)
unfolding decoded_as
decoded_names es w (names i) e vs h =
    let q : i ≡ e = cc in
    let v : values_in (entry_number es i).fields w ≡ vs = cc in
    (ap names q, ap (λ (j : ℕ). values_in (entry_number es j).fields w) (sym q) ∙ v)
decoded_names es w nothing e vs h = absurd (let z : ◌≡◌ {A = ℕ} 0 1 = cc in omega arith)
decoded_names es w ambiguous e vs h = absurd (let z : ◌≡◌ {A = ℕ} 0 1 = cc in omega arith)

module _ (t : Table) (w room e : ℕ) (vs : List ℕ) where
  pub decoded : decode_of (result t) w room ≡ result (entry_values e vs) → (8 ≤ room) × (w < 2 ^ t.width) × (select t.entries w ≡ names e) × (values_in (entry_number t.entries e).fields w ≡ vs)
  unfolding decode_of
  decoded h =
      cases (leb 8 room)
      (λ a. cases (ltb w (2 ^ t.width))
      (λ b. let d = decoded_names t.entries w (select t.entries w) e vs (rw (a, b) at h) in (leb-true 8 room a, ltb-true w _ b, d.0, d.1))
      (λ b. let g = rw (a, b) at h in absurd (let z : ◌≡◌ {A = ℕ} 0 1 = cc in omega arith)))
      (λ a. let g = rw a at h in absurd (let z : ◌≡◌ {A = ℕ} 0 1 = cc in omega arith))

  pub decodes : 8 ≤ room → w < 2 ^ t.width → select t.entries w ≡ names e → values_in (entry_number t.entries e).fields w ≡ vs → decode_of (result t) w room ≡ result (entry_values e vs)
  unfolding decode_of decoded_as
  decodes a b s v = rw (le-leb 8 room a, lt-ltb w _ b, s, v)

encoded_from_lem : (es : List Entry) (e : ℕ) (vs : List ℕ) (o : Option ℕ) (w : ℕ) → encoded_from es e vs o ≡ result w
    → (o ≡ none) × (encoded_as es e (placed (entry_number es e).opcode.value (entry_number es e).fields vs) ≡ result w)
unfolding encoded_from
encoded_from_lem es e vs (some i) w h = absurd (let z : ◌≡◌ {A = ℕ} 0 1 = cc in omega arith)
encoded_from_lem es e vs none w h = (refl, h)

encoded_as_lem : (es : List Entry) (e x w : ℕ) → encoded_as es e x ≡ result w → (x ≡ w) × (select es x ≡ names e)
unfolding encoded_as
encoded_as_lem es e x w h =
    cases (selects (select es x) e)
    (λ a. let g = rw a at h in let q : x ≡ w = cc in (q, selects_names _ _ a))
    (λ a. let g = rw a at h in absurd (let z : ◌≡◌ {A = ℕ} 0 1 = cc in omega arith))

pub record Encodes (t : Table) (e : ℕ) (vs : List ℕ) (w : ℕ) : Type 0 where
  pub entry : e < length t.entries
  pub count : length vs ≡ length (entry_number t.entries e).fields
  pub fits : misfit 0 (entry_number t.entries e).fields vs ≡ none
  pub word_made : placed (entry_number t.entries e).opcode.value (entry_number t.entries e).fields vs ≡ w
  pub selected : select t.entries w ≡ names e

module _ (t : Table) (e : ℕ) (vs : List ℕ) (w : ℕ) where
  pub encoded : encode_of (result t) e vs ≡ result w → Encodes t e vs w
  unfolding encode_of
  encoded h =
      cases (ltb e (length t.entries) and eqb (length vs) (length (entry_number t.entries e).fields))
      (λ a.
      let f = encoded_from_lem t.entries e vs _ w (rw a at h) in
      let g = encoded_as_lem t.entries e _ w f.1 in
      record { entry = ltb-true _ _ (and_l _ a); count = eqb-true _ _ (and_r _ a); fits = f.0; word_made = g.0; selected = rw g.0 at g.1 })
      (λ a. let g = rw a at h in absurd (let z : ◌≡◌ {A = ℕ} 0 1 = cc in omega arith))

  pub encodes : Encodes t e vs w → encode_of (result t) e vs ≡ result w
  unfolding encode_of encoded_from encoded_as
  encodes r = rw (and_i (lt-ltb _ _ r.entry) (eq-eqb _ _ r.count), r.fits, r.word_made, names_selects _ e r.selected)

-- ---- only a table that reads gives an entry or a word
read_fine : (v : Check) (t : Table) (w room : ℕ) (d : Decoded) → decode_of (reading v t) w room ≡ result d → v ≡ fine
unfolding decode_of
read_fine fine t w room d h = refl
read_fine (fault n p) t w room d h = absurd (let z : ◌≡◌ {A = ℕ} 0 1 = cc in omega arith)

pub decode_reads : (ws : List ℕ) (w room : ℕ) (d : Decoded) → decode_of (read_table ws) w room ≡ result d → table_check ws ≡ fine
decode_reads ws w room d h = read_fine (table_check ws) (table_of ws) w room d h

made_fine : (v : Check) (t : Table) (e : ℕ) (vs : List ℕ) (w : ℕ) → encode_of (reading v t) e vs ≡ result w → v ≡ fine
unfolding encode_of
made_fine fine t e vs w h = refl
made_fine (fault n p) t e vs w h = absurd (let z : ◌≡◌ {A = ℕ} 0 1 = cc in omega arith)

pub encode_reads : (ws : List ℕ) (e : ℕ) (vs : List ℕ) (w : ℕ) → encode_of (read_table ws) e vs ≡ result w → table_check ws ≡ fine
encode_reads ws e vs w h = made_fine (table_check ws) (table_of ws) e vs w h

-- a word that decodes to an entry looks it up
pub looked_up_lem : (t : Table) (w room e : ℕ) (vs : List ℕ) → decode_of (result t) w room ≡ result (entry_values e vs) → look_of (result t) w ≡ result (some e)
unfolding look_of
looked_up_lem t w room e vs h =
    let d = decoded t w room e vs h in
    rw (lt-ltb w _ d.1, d.2)

-- ---- the demand
module _ (t : Table) (good : GoodTable t) (w room e : ℕ) (vs : List ℕ) where
  pub decode_encode : w % 2 ^ (t.width - (entry_number t.entries e).size) ≡ 0 → decode_of (result t) w room ≡ result (entry_values e vs) → encode_of (result t) e vs ≡ result w
  unfolding GoodTable
  decode_encode z h =
      let d = decoded t w room e vs h in
      let es = t.entries in
      let i = selected_lt es w e d.2 in
      let g = good e i in
      let v = d.3 in
      let m : placed (entry_number es e).opcode.value (entry_number es e).fields vs ≡ w
      = rw (← v) (taken_placed _ _ _ w (entry_number es e).fields g.cover (selected_matches es w e d.2) ∙ own_all _ _ w g.short d.1 z) in
      encodes t e vs w (record {
        entry = i;
        count = rw (← v) (length_values (entry_number es e).fields w);
        fits = rw (← v) (values_fit (entry_number es e).fields w 0);
        word_made = m;
        selected = d.2;
      })

  pub encode_decode : 8 ≤ room → encode_of (result t) e vs ≡ result w → decode_of (result t) w room ≡ result (entry_values e vs)
  unfolding GoodTable
  encode_decode r h =
      let es = t.entries in
      let c = encoded t e vs w h in
      let g = good e c.entry in
      let m : Made (own_bits t.width (entry_number es e).size) (entry_number es e).opcode.mask (entry_number es e).opcode.value (entry_number es e).fields vs w
      = rw c.word_made at (placed_taken _ _ _ 0 (entry_number es e).fields vs g.cover g.value_in_lem c.count c.fits) in
      decodes t w room e vs r (own_lt _ _ w g.short m.inside) c.selected m.values
