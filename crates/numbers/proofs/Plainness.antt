-- Plain fields take out, place and refuse as fields with forms do, and a table with plain fields has words. Assumes nothing.
use Prim.Native.Nat.{ℕ, ◌+◌, ◌^◌, zero-le}
use native.Mathlib.Omega.{arith}
use mathlib.Core.Bool.{true, cond}
use mathlib.Core.Path.{◌≡◌, refl, ap, ap₂}
use mathlib.Core.List.{List, [], ◌∷◌, map}
use mathlib.Core.Option.{Option, some}
use lib.Bits.{bit_or}
use lib.Dec.{ltb}
use lib.ListN.{length, length-map}
use borrow.Author.Tests.{le-leb}
use Rattle.words.specs.Tests.{◌and◌, ◌or◌, all_of}
use Rattle.words.specs.Words.{word}
use Rattle.words.specs.Outcome.{result}
use Rattle.words.proofs.Logic.{and_l, and_r, and_i}
use Rattle.table.specs.Table.{Field, Entry, Table, kind_of}
use Rattle.table.specs.Check.{read_table}
use Rattle.layout.specs.Layout.{table_words, total, entry_size}
use Rattle.layout.specs.Readable.{bits_of, lawful_form, lawful_field, lawful_fields, lawful_head, lawful_cycles, lawful, Small, Readable, Means}
use Rattle.layout.proofs.Lengths.{table_length}
use Rattle.layout.proofs.OneToOne.{read_readable, means}
use Rattle.operands.specs.Fields.{value_in, values_in, placed, misfit}
use Rattle.cost.proofs.Free.{Kept, changed, changed_table}
use Rattle.numbers.specs.Plain.{plain, plain_entry, plain_table}

count : (fs : List Field) → length (map plain fs) ≡ length fs
count fs = length-map fs plain

values : (fs : List Field) (w : ℕ) → values_in (map plain fs) w ≡ values_in fs w
unfolding values_in plain
values [] w = refl
values (f ∷ fs) w = ap (λ (vs : List ℕ). value_in f w ∷ vs) (values fs w)

placing : (fs : List Field) (w : ℕ) (vs : List ℕ) → placed w (map plain fs) vs ≡ placed w fs vs
unfolding placed plain
placing [] w vs = refl
placing (f ∷ fs) w [] = refl
placing (f ∷ fs) w (v ∷ vs) = placing fs _ vs

fitting : (fs : List Field) (i : ℕ) (vs : List ℕ) → misfit i (map plain fs) vs ≡ misfit i fs vs
unfolding misfit plain
fitting [] i vs = refl
fitting (f ∷ fs) i [] = refl
fitting (f ∷ fs) i (v ∷ vs) = ap (λ (o : Option ℕ). cond (ltb v (2 ^ f.width)) o (some i)) (fitting fs (i + 1) vs)

pub kept_plain : Kept (λ n. n) (map plain)
kept_plain = record { no_cycles = refl; no_fields = refl; count = count; values = values; placing = placing; fitting = fitting }

pub plain_is : (t : Table) → changed_table (λ n. n) (map plain) t ≡ plain_table t
unfolding changed_table changed plain_table plain_entry
plain_is t = refl

-- plain fields stay plain
fields_again : (fs : List Field) → map plain (map plain fs) ≡ map plain fs
unfolding plain
fields_again [] = refl
fields_again (f ∷ fs) = ap (λ (l : List Field). plain f ∷ l) (fields_again fs)

entries_again : (es : List Entry) → map plain_entry (map plain_entry es) ≡ map plain_entry es
unfolding plain_entry
entries_again [] = refl
entries_again (e ∷ es) =
    ap₂ (λ (fs : List Field) (l : List Entry). record { label = e.label; size = e.size; opcode = e.opcode; cycles = e.cycles; fields = fs; conditions = e.conditions } ∷ l)
    (fields_again e.fields) (entries_again es)

pub plain_again : (t : Table) → plain_table (plain_table t) ≡ plain_table t
unfolding plain_table
plain_again t = ap (λ (l : List Entry). record { width = t.width; entries = l }) (entries_again t.entries)

-- ---- the words of a table with plain fields

form_lawful : (f : Field) → lawful_form (plain f) ≡ true
unfolding lawful_form plain ◌and◌ ◌or◌
form_lawful f = le-leb 0 f.width zero-le

module _ (width size : ℕ) where
  field_lawful : (used : ℕ) (f : Field) → lawful_field width size used f ≡ true → lawful_field width size used (plain f) ≡ true
  unfolding lawful_field plain
  field_lawful used f l = and_i (form_lawful f) (and_r (lawful_form f) l)

  fields_lawful : (used : ℕ) (fs : List Field) → lawful_fields width size used fs ≡ true → lawful_fields width size used (map plain fs) ≡ true
  unfolding lawful_fields plain
  fields_lawful used [] l = l
  fields_lawful used (f ∷ fs) l = and_i (field_lawful used f (and_l _ l)) (fields_lawful (bit_or used (bits_of f)) fs (and_r _ l))

module _ (kind width : ℕ) where
  entry_lawful : (e : Entry) → lawful kind width e ≡ true → lawful kind width (plain_entry e) ≡ true
  unfolding lawful lawful_head lawful_cycles plain_entry
  entry_lawful e l =
      let t = and_r _ l in
      let u = and_r _ t in
      let v = and_r _ u in
      and_i (rw (count e.fields) (and_l _ l)) (and_i (and_l _ t) (and_i (and_l _ u) (and_i (fields_lawful width e.size _ e.fields (and_l _ v)) (and_r _ v))))

  all_lawful : (es : List Entry) → all_of (lawful kind width) es ≡ true → all_of (lawful kind width) (map plain_entry es) ≡ true
  unfolding all_of
  all_lawful [] l = refl
  all_lawful (e ∷ es) l = and_i (entry_lawful e (and_l _ l)) (all_lawful es (and_r _ l))

  same_size : (es : List Entry) → total (entry_size kind) (map plain_entry es) ≡ total (entry_size kind) es
  unfolding total entry_size plain_entry
  same_size [] = refl
  same_size (e ∷ es) = omega (arith, count e.fields, same_size es)

  plain_readable : (es : List Entry) → Readable kind width es → Readable kind width (map plain_entry es)
  plain_readable es r =
      record {
        known = r.known;
        some = r.some;
        wide = r.wide;
        few = rw (length-map es plain_entry) r.few;
        short = omega (arith, r.short, table_length kind width es, table_length kind width (map plain_entry es), same_size es);
        each = all_lawful es r.each;
      }

pub plain_means : (ws : List ℕ) (t : Table) → read_table ws ≡ result t → Small ws
    → Means (kind_of (word ws 0)) t.width (plain_table t).entries (table_words (kind_of (word ws 0)) t.width (plain_table t).entries)
unfolding plain_table
plain_means ws t reads s = means (plain_readable (kind_of (word ws 0)) t.width t.entries (read_readable ws t reads s))
