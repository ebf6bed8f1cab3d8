-- Decoding: what lookup answers decides the answer and the buffer. Assumes nothing.
use mathlib.Core.Path.{◌≡◌, refl, sym, ap, ◌∙◌}
use mathlib.Core.List.{List, [], ◌∷◌, ◌++◌}
use mathlib.Core.Option.{Option, none, some}
use Prim.Native.Nat.{ℕ, ◌^◌, ◌≤◌, ◌<◌}
use native.Mathlib.Nat.{zero-add}
use native.Mathlib.Omega.{arith}
use lib.Dec.{ltb}
use lib.ListN.{length, get_or, drop}
use lib.Seq.{sets, sets-eq}
use borrow.Author.Tests.{le-leb, lt-leb, ltb-true}
use Rattle.words.specs.Words.{word}
use Rattle.words.proofs.Logic.{cases}
use Rattle.std.specs.Prelude.{Ok, Err, Some, None}
use Rattle.words.specs.Outcome.{Outcome, result, faulty, refused, number_of, refused_as}
use Rattle.words.specs.declared.Refusal.{Refusal}
use Rattle.words.specs.declared.Refusal.TheVariants as refusal
use Rattle.table.specs.Table.{Entry, Table, entry_number, table_of, entry_at, entry_place, fields_at, fields_place, fields_of, count_of, width_of}
use Rattle.table.specs.Check.{Check, fine, fault, table_check, entry_check, reading, read_table}
use Rattle.table.specs.Answer.{Reads}
use Rattle.table.specs.Ready.{Ready}
use Rattle.table.specs.declared.Table as Held
use Rattle.table.proofs.Laws.{then_r, length_entries, length_fields}
use Rattle.table.proofs.Views.{entry_check_lem, entry_at_lem, entry_few_fields, read_refused}
use Rattle.choice.specs.Rule.{Choice, names, nothing, ambiguous}
use Rattle.selection.specs.Selection.{select}
use Rattle.selection.specs.Lookup.{looked_up, look_of, Finds}
use Rattle.operands.specs.Fields.{values_in}
use Rattle.operands.specs.Calls.{Decoded, entry_values, none_selected, decoded_as, decode_of, buffer_after}
use Rattle.operands.specs.Answers.{first_words, Decodes}
use Rattle.operands.proofs.Inverse.{selected_lt, decodes, length_values}

-- ---- what refuses: a fault or another number, whatever it refuses
module _ {A B : Type 0} (P : Outcome A → Outcome B → Type 0) (f : (n p : ℕ) → P (faulty n p) (faulty n p)) (g : (n p w : ℕ) → P (refused n p w) (refused n p w)) where
  pub by_refusal : (r : Refusal) → P (refused_as r) (refused_as r)
  by_refusal (refusal.Faulty a p) = f (number_of a) p
  by_refusal refusal.NoFit = g 5 0 0
  by_refusal (refusal.Ambiguous w) = g 6 0 w
  by_refusal refusal.TooWide = g 7 0 0
  by_refusal refusal.BadHeader = g 8 0 0
  by_refusal (refusal.Damaged i) = g 9 i 0
  by_refusal refusal.ShortBuffer = g 10 0 0
  by_refusal refusal.NoEntry = g 11 0 0
  by_refusal (refusal.Misfit i) = g 12 i 0
  by_refusal (refusal.NotSelected w) = g 13 0 w
  by_refusal refusal.BadTree = g 14 0 0
  by_refusal refusal.BadTable = g 15 0 0
  by_refusal refusal.BadImage = g 16 0 0
  by_refusal (refusal.Full a) = g 17 a 0
  by_refusal refusal.NoRoom = g 18 0 0
  by_refusal (refusal.Unreached e) = g 19 e 0

-- it leaves the buffer as it was
module _ (ws : List ℕ) (w : ℕ) (out : List ℕ) where
  unwritten : (r : Refusal) → buffer_after (refused_as r) out ≡ out
  unfolding buffer_after
  unwritten = let P : Outcome Decoded → Outcome Decoded → Type 0 = λ o q. buffer_after o out ≡ out in by_refusal P (λ n p. refl) (λ n p x. refl)

  keeps : (r : Refusal) → refused_as r ≡ decode_of (read_table ws) w (length out) → Decodes ws w out out (Err r)
  keeps r e = record { answer = e; buffer = sym (ap (λ (o : Outcome Decoded). buffer_after o out) (sym e) ∙ unwritten r) }

  -- in a buffer under 8 words: the table's fault, else 10
  module _ (h : length out < 8) where
    pub short_faulty : (r : Refusal) → Reads ws (Err r) → Decodes ws w out out (Err r)
    unfolding decode_of
    short_faulty r reads = keeps r (read_refused ws r reads (λ (o : Outcome Table). decode_of o w (length out)) (λ n p. refl))

    pub short : (t : Table) → read_table ws ≡ result t → Decodes ws w out out (Err refusal.ShortBuffer)
    unfolding decode_of
    short t e = keeps refusal.ShortBuffer (rw (e, lt-leb 8 (length out) h))

-- ---- in a larger buffer, by what lookup says

decode_by : List Entry → ℕ → Outcome (Option ℕ) → Outcome Decoded
decode_by es w (result (some e)) = result (entry_values e (values_in (entry_number es e).fields w))
decode_by es w (result none) = result none_selected
decode_by es w (faulty n p) = faulty n p
decode_by es w (refused n p x) = refused n p x

entries_of : Outcome Table → List Entry
entries_of (faulty n p) = []
entries_of (refused n p x) = []
entries_of (result t) = t.entries

decode_choice : (es : List Entry) (w : ℕ) (c : Choice) → decoded_as es w c ≡ decode_by es w (looked_up w c)
unfolding decoded_as decode_by
decode_choice es w (names e) = refl
decode_choice es w nothing = refl
decode_choice es w ambiguous = refl

decode_look : (r : Outcome Table) (w room : ℕ) → 8 ≤ room → decode_of r w room ≡ decode_by (entries_of r) w (look_of r w)
unfolding decode_of decode_by look_of entries_of
decode_look (faulty n p) w room h = refl
decode_look (refused n p x) w room h = refl
decode_look (result t) w room h =
    rw (le-leb 8 room h)
    (cases (ltb w (2 ^ t.width)) (λ a. rw a (decode_choice t.entries w (select t.entries w))) (λ a. rw a))

module _ (ws : List ℕ) (w : ℕ) (out : List ℕ) (h : 8 ≤ length out) where
  -- a refusal of lookup is decoding's, and so is nothing
  pub decode_refused : (r : Refusal) → Finds ws w (Err r) → Decodes ws w out out (Err r)
  unfolding decode_by
  decode_refused r f =
      let es = entries_of (read_table ws) in
      let P : Outcome (Option ℕ) → Outcome Decoded → Type 0 = λ o q. decode_by es w o ≡ q in
      let passed : decode_by es w (refused_as r) ≡ refused_as r = by_refusal P (λ n p. refl) (λ n p x. refl) r in
      keeps ws w out r (sym (decode_look (read_table ws) w (length out) h ∙ ap (decode_by es w) (sym f.answer) ∙ passed))

  pub decode_nothing : Finds ws w (Ok None) → Decodes ws w out out (Ok None)
  unfolding buffer_after decode_by
  decode_nothing f =
      let e : decode_of (read_table ws) w (length out) ≡ result none_selected = rw (decode_look (read_table ws) w (length out) h, ← f.answer) in
      record { answer = sym e; buffer = rw e }

-- ---- an entry of a table without fault, by its place

pub record Stands (ws : List ℕ) (e place : ℕ) : Type 0 where
  pub few : fields_of (word ws place) ≤ 8
  pub is : entry_number (table_of ws).entries e ≡ entry_at ws place
  pub check : entry_check ws (width_of (word ws 0)) place ≡ fine

pub stands : (ws : List ℕ) (e place : ℕ) → table_check ws ≡ fine → e < count_of (word ws 0) → place ≡ entry_place ws e → Stands ws e place
unfolding table_check
stands ws e place t h q =
    let c : entry_check ws (width_of (word ws 0)) place ≡ fine = rw q (entry_check_lem ws (width_of (word ws 0)) e (count_of (word ws 0)) (then_r _ _ t) h) in
    record {
      few = entry_few_fields ws _ place c;
      is = rw q (entry_at_lem ws (width_of (word ws 0)) e (count_of (word ws 0)) _ h);
      check = c;
    }

-- of a table that was read
module _ (ws : List ℕ) (t : Held.Table) (reads : Reads ws (Ok t)) where
  pub read_ready : Ready ws t.entries.places t.width t.entries.count
  read_ready = rw reads.words at t.ready

  module _ (e : ℕ) (h : e < t.entries.count) where
    pub read_low : e < count_of (word ws 0)
    read_low = omega (arith, read_ready.number)

    pub read_stands : Stands ws e (get_or t.entries.places e 0)
    read_stands = stands ws e _ read_ready.good read_low (read_ready.each e h)

looked_names : (w e : ℕ) (c : Choice) → result (some e) ≡ looked_up w c → c ≡ names e
looked_names w e (names i) h = let q : i ≡ e = cc in ap names q
looked_names w e nothing h = absurd (let z : ◌≡◌ {A = ℕ} 0 1 = cc in omega arith)
looked_names w e ambiguous h = absurd (let z : ◌≡◌ {A = ℕ} 0 1 = cc in omega arith)

look_entry : (v : Check) (t : Table) (w e : ℕ) → result (some e) ≡ look_of (reading v t) w → (v ≡ fine) × (w < 2 ^ t.width) × (select t.entries w ≡ names e)
unfolding look_of
look_entry fine t w e h =
    cases (ltb w (2 ^ t.width))
    (λ a. (refl, ltb-true _ _ a, looked_names w e _ (rw a at h)))
    (λ a. let g = rw a at h in absurd (let z : ◌≡◌ {A = ℕ} 0 1 = cc in omega arith))
look_entry (fault n p) t w e h = absurd (let z : ◌≡◌ {A = ℕ} 0 1 = cc in omega arith)

-- the first words of values and what follows
firsts_are : (vs rest : List ℕ) → first_words (length vs) (vs ++ rest) ≡ vs
unfolding first_words
firsts_are [] rest = refl
firsts_are (v ∷ vs) rest = ap (λ (z : List ℕ). v ∷ z) (firsts_are vs rest)

module _ (ws : List ℕ) (w e place : ℕ) (l : result (some e) ≡ look_of (read_table ws) w) (q : place ≡ entry_place ws e) where
  pub entry_stands : Stands ws e place
  entry_stands =
      let x = look_entry (table_check ws) (table_of ws) w e l in
      stands ws e place x.0 (omega (arith, selected_lt (table_of ws).entries w e x.2, length_entries ws (count_of (word ws 0)) 1)) q

  -- the values written are those of the definition
  pub decode_entry : (before after : List ℕ) (n : ℕ) → n ≡ fields_of (word ws place) → 8 ≤ length before
      → after ≡ sets before 0 (values_in (fields_at ws n (fields_place ws place)) w) → Decodes ws w before after (Ok (Some (record { entry = e; count = n })))
  unfolding buffer_after
  decode_entry before after n c h a =
      let x = look_entry (table_check ws) (table_of ws) w e l in
      let s = entry_stands in
      let vs = values_in (fields_at ws n (fields_place ws place)) w in
      let k : length vs ≡ n = length_values (fields_at ws n (fields_place ws place)) w ∙ length_fields ws n (fields_place ws place) in
      let f : values_in (entry_number (table_of ws).entries e).fields w ≡ vs = ap (λ (z : Entry). values_in z.fields w) s.is ∙ rw c in
      let d : decode_of (read_table ws) w (length before) ≡ result (entry_values e vs)
      = rw x.0 (decodes (table_of ws) w (length before) e vs h x.1 x.2 f) in
      let b : after ≡ vs ++ drop (length vs) before
      = a ∙ sets-eq vs before 0 (omega (arith, s.few)) ∙ ap (λ (z : ℕ). vs ++ drop z before) (zero-add (length vs)) in
      record {
        answer = rw d (ap (λ (z : List ℕ). result (entry_values e z)) (ap (first_words n) b ∙ ap (λ (z : ℕ). first_words z (vs ++ drop (length vs) before)) (sym k) ∙ firsts_are vs _));
        buffer = rw d b;
      }
