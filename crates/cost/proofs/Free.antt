-- What does not depend on cycles, nor on the forms of fields: each definition gives for entries that are so changed what it gives for the
-- entries. Assumes nothing.
use mathlib.Core.Path.{◌≡◌, refl, sym, ap, ap₂, fun_ext, ◌∙◌}
use mathlib.Core.Bool.{not}
use mathlib.Core.List.{List, [], ◌∷◌, map}
use mathlib.Core.Option.{Option, none, some}
use Prim.Native.Nat.{ℕ, zero, suc, ◌^◌}
use lib.ListN.{length, length-map}
use Rattle.words.specs.Tests.{exists, first}
use Rattle.words.specs.Outcome.{Outcome, result, faulty, refused}
use Rattle.table.specs.Table.{Entry, Field, Table, entry_number}
use Rattle.table.specs.Check.{read_table}
use Rattle.choice.specs.Rule.{Choice, names, nothing, ambiguous, selects, more_specific, gives_way, beats_at, judge_at, judge}
use Rattle.selection.specs.Selection.{claims, select}
use Rattle.selection.specs.Lookup.{look_of}
use Rattle.cell.specs.Cell.{Cell, dead, live, sure, open_entry}
use Rattle.cell.specs.Step.{in_open, votes_at, wanted_at, tested_at, settled_at, step_at, step, Step}
use Rattle.tree.specs.Tree.{Tree, leaf, grow, tree_of, below, tree}
use Rattle.tree.specs.Reach.{reached, lowest_unreached}
use Rattle.tree.specs.Generate.{generate_of, left_by, buffer_of, survey_of, measure_of}
use Rattle.operands.specs.Fields.{values_in, placed, misfit}
use Rattle.operands.specs.Calls.{decoded_as, decode_of, encoded_as, encoded_from, encode_of}
use Rattle.cost.specs.Recosted.{uncosted, bare}

-- an entry with other cycles, and other fields that take out, place and refuse as its own do
pub record Kept (cycles : ℕ → ℕ) (fields : List Field → List Field) : Type 0 where
  pub no_cycles : cycles 0 ≡ 0
  pub no_fields : fields [] ≡ []
  pub count : (fs : List Field) → length (fields fs) ≡ length fs
  pub values : (fs : List Field) (w : ℕ) → values_in (fields fs) w ≡ values_in fs w
  pub placing : (fs : List Field) (w : ℕ) (vs : List ℕ) → placed w (fields fs) vs ≡ placed w fs vs
  pub fitting : (fs : List Field) (i : ℕ) (vs : List ℕ) → misfit i (fields fs) vs ≡ misfit i fs vs

unfoldable pub changed : (ℕ → ℕ) → (List Field → List Field) → Entry → Entry
changed cycles fields e =
    record { label = e.label; size = e.size; opcode = e.opcode; cycles = cycles e.cycles; fields = fields e.fields; conditions = e.conditions }

unfoldable pub changed_table : (ℕ → ℕ) → (List Field → List Field) → Table → Table
changed_table cycles fields t = record { width = t.width; entries = map (changed cycles fields) t.entries }

-- without its cycles
pub kept_bare : Kept (λ n. 0) (λ fs. fs)
kept_bare =
    record { no_cycles = refl; no_fields = refl; count = λ fs. refl; values = λ fs w. refl; placing = λ fs w vs. refl; fitting = λ fs i vs. refl }

pub bare_is : (t : Table) → changed_table (λ n. 0) (λ fs. fs) t ≡ bare t
unfolding changed_table changed bare uncosted
bare_is t = refl

module _ (cycles : ℕ → ℕ) (fields : List Field → List Field) (keep : Kept cycles fields) where
  abbrev change : Entry → Entry
  change e = changed cycles fields e

  -- ---- the entries by their numbers

  same_length : (es : List Entry) → length (map change es) ≡ length es
  same_length es = length-map es change

  same_entry : (es : List Entry) (i : ℕ) → entry_number (map change es) i ≡ change (entry_number es i)
  unfolding changed
  same_entry [] i = rw (keep.no_cycles, keep.no_fields)
  same_entry (e ∷ es) zero = refl
  same_entry (e ∷ es) (suc i) = same_entry es i

  -- ---- selection

  abbrev select_at : (ℕ → Entry) → ℕ → ℕ → Choice
  select_at entry n w = judge_at entry (λ i. claims w (entry i)) (λ i. claims w (entry i)) n

  pub select_free : (es : List Entry) (w : ℕ) → select (map change es) w ≡ select es w
  unfolding select judge judge_at beats_at gives_way more_specific claims changed
  select_free es w = ap₂ (λ (entry : ℕ → Entry) (n : ℕ). select_at entry n w) (fun_ext (same_entry es)) (same_length es)

  -- ---- the tree

  step_free : (es : List Entry) (width : ℕ) (c : Cell) → step (map change es) width c ≡ step es width c
  unfolding step step_at settled_at judge_at beats_at gives_way more_specific sure open_entry live dead tested_at votes_at wanted_at in_open changed
  step_free es width c = ap₂ (λ (entry : ℕ → Entry) (n : ℕ). step_at entry n width c) (fun_ext (same_entry es)) (same_length es)

  tree_of_free : (es : List Entry) (width n : ℕ) (c : Cell) → tree_of (map change es) width n c ≡ tree_of es width n c
  unfolding tree_of
  tree_of_free es width zero c = ap (λ (s : Step). grow s (λ d. leaf ambiguous) c) (step_free es width c)
  tree_of_free es width (suc n) c =
      ap₂ (λ (s : Step) (sub : Cell → Tree). grow s sub c) (step_free es width c) (fun_ext (λ d. tree_of_free es width n d))

  pub tree_free : (es : List Entry) (width : ℕ) → tree (map change es) width ≡ tree es width
  unfolding tree below
  tree_free es width = tree_of_free es width _ _

  lowest_free : (es : List Entry) (width : ℕ) → lowest_unreached (map change es) width ≡ lowest_unreached es width
  unfolding lowest_unreached reached
  lowest_free es width =
      ap₂ (λ (chosen : ℕ → Choice) (n : ℕ). first (λ e. not (exists (λ w. selects (chosen w) e) (2 ^ width))) n) (fun_ext (select_free es)) (same_length es)

  -- ---- the calls, on a table that is read

  module _ (t : Table) where
    pub lookup_free : (w : ℕ) → look_of (result (changed_table cycles fields t)) w ≡ look_of (result t) w
    unfolding look_of changed_table
    lookup_free w = rw (select_free t.entries w)

    pub generate_free : (room : ℕ) → generate_of (result (changed_table cycles fields t)) room ≡ generate_of (result t) room
    unfolding generate_of changed_table
    generate_free room = rw (tree_free t.entries t.width, lowest_free t.entries t.width)

    left_free : (o : Outcome ℕ) (out : List ℕ) → left_by (changed_table cycles fields t) o out ≡ left_by t o out
    unfolding left_by changed_table
    left_free (result n) out = rw (tree_free t.entries t.width)
    left_free (faulty n p) out = refl
    left_free (refused n p w) out = refl

    pub buffer_free : (out : List ℕ) → buffer_of (result (changed_table cycles fields t)) out ≡ buffer_of (result t) out
    unfolding buffer_of
    buffer_free out = rw (generate_free (length out)) (left_free _ out)

    pub measure_free : measure_of (result (changed_table cycles fields t)) ≡ measure_of (result t)
    unfolding measure_of survey_of changed_table
    measure_free = rw (tree_free t.entries t.width, lowest_free t.entries t.width)

    decoded_free : (w : ℕ) (c : Choice) → decoded_as (map change t.entries) w c ≡ decoded_as t.entries w c
    unfolding decoded_as changed
    decoded_free w (names e) = rw (same_entry t.entries e, keep.values (entry_number t.entries e).fields w)
    decoded_free w nothing = refl
    decoded_free w ambiguous = refl

    pub decode_free : (w room : ℕ) → decode_of (result (changed_table cycles fields t)) w room ≡ decode_of (result t) w room
    unfolding decode_of changed_table
    decode_free w room = rw (select_free t.entries w, decoded_free w (select t.entries w))

    encoded_free : (e : ℕ) (vs : List ℕ) (o : Option ℕ) → encoded_from (map change t.entries) e vs o ≡ encoded_from t.entries e vs o
    unfolding encoded_from encoded_as changed
    encoded_free e vs (some i) = refl
    encoded_free e vs none = rw (same_entry t.entries e, keep.placing (entry_number t.entries e).fields, select_free t.entries)

    pub encode_free : (e : ℕ) (vs : List ℕ) → encode_of (result (changed_table cycles fields t)) e vs ≡ encode_of (result t) e vs
    unfolding encode_of changed_table changed
    encode_free e vs = rw (same_length t.entries, same_entry t.entries e, keep.count (entry_number t.entries e).fields, keep.fitting (entry_number t.entries e).fields, encoded_free e vs)

  -- ---- two tables that read, and are the same when so changed
  module _ (ws vs : List ℕ) (t u : Table) (r : read_table ws ≡ result t) (s : read_table vs ≡ result u)
      (d : changed_table cycles fields t ≡ changed_table cycles fields u) where
    alike : {A : Type 0} (call : Outcome Table → A) → ((x : Table) → call (result (changed_table cycles fields x)) ≡ call (result x)) → call (read_table ws) ≡ call (read_table vs)
    alike call free = rw (r, s) (sym (free t) ∙ ap (λ (x : Table). call (result x)) d ∙ free u)

    pub lookup_same : (w : ℕ) → look_of (read_table ws) w ≡ look_of (read_table vs) w
    lookup_same w = alike (λ o. look_of o w) (λ x. lookup_free x w)

    pub generate_same : (room : ℕ) → generate_of (read_table ws) room ≡ generate_of (read_table vs) room
    generate_same room = alike (λ o. generate_of o room) (λ x. generate_free x room)

    pub buffer_same : (out : List ℕ) → buffer_of (read_table ws) out ≡ buffer_of (read_table vs) out
    buffer_same out = alike (λ o. buffer_of o out) (λ x. buffer_free x out)

    pub measure_same : measure_of (read_table ws) ≡ measure_of (read_table vs)
    measure_same = alike measure_of measure_free

    pub decode_same : (w room : ℕ) → decode_of (read_table ws) w room ≡ decode_of (read_table vs) w room
    decode_same w room = alike (λ o. decode_of o w room) (λ x. decode_free x w room)

    pub encode_same : (e : ℕ) (values : List ℕ) → encode_of (read_table ws) e values ≡ encode_of (read_table vs) e values
    encode_same e values = alike (λ o. encode_of o e values) (λ x. encode_free x e values)
