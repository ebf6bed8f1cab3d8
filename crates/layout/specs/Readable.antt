-- The entries whose words read without fault ('The pattern table'; 'Causes, numbers, places').
use Rattle.std.specs.Prelude.{ℕ, ◌+◌, ◌-◌, ◌^◌, ◌≤◌, ◌<◌, ◌≡◌, Bool, true, cond, List, [], ◌∷◌, eqb, leb, ltb, length}
use Rattle.std.specs.Int.Bits.{bit_and, bit_or}
use Rattle.words.specs.Tests.{◌and◌, ◌or◌, all_of}
use Rattle.words.specs.Words.{word, run, includes}
use Rattle.words.specs.Outcome.{result}
use Rattle.table.specs.Table.{Pattern, Field, Condition, Entry, kind_of, own_bits}
use Rattle.table.specs.Check.{read_table}
use Rattle.layout.specs.Layout.{table_words}

-- ---- an entry

-- "Every mask of an entry lies in its own bits, and a value has no bit outside its mask"
unfoldable pub lawful_pattern : ℕ → Pattern → Bool
lawful_pattern own p = includes own p.mask and includes p.mask p.value

-- unmatching patterns "(0–8)"
unfoldable pub lawful_condition : ℕ → Condition → Bool
lawful_condition own k = leb (length k.unmatching) 8 and (lawful_pattern own k.matching and all_of (lawful_pattern own) k.unmatching)

abbrev pub bits_of : Field → ℕ
bits_of f = run f.low f.width

-- "bits 23–16 stay spare for all other forms"; not "A form over 2, or fraction bits over 16 or over the field's width" (document 02, No. 7)
unfoldable pub lawful_form : Field → Bool
lawful_form f = (eqb f.form 2 or eqb f.fraction 0) and (leb f.form 2 and leb f.fraction 16 and leb f.fraction f.width)

-- not "of width 0, outside own bits, or overlapping mask or earlier field"; `used` has the bits of the opcode mask and of the earlier fields
unfoldable pub lawful_field : ℕ → ℕ → ℕ → Field → Bool
lawful_field width size used f =
    lawful_form f and (leb 1 f.width and (leb (width - size) f.low and (leb (f.low + f.width) width and eqb (bit_and used (bits_of f)) 0)))

-- "Opcode mask and fields together cover each own bit once"
unfoldable pub lawful_fields : ℕ → ℕ → ℕ → List Field → Bool
lawful_fields width size used [] = eqb used (own_bits width size)
lawful_fields width size used (f ∷ fs) = lawful_field width size used f and lawful_fields width size (bit_or used (bits_of f)) fs

-- a label of 12 bits, length "1 to width", fields and conditions "(0–8)"
unfoldable pub lawful_head : ℕ → Entry → Bool
lawful_head width e =
    ltb e.label (2 ^ 12) and (leb 1 e.size and (leb e.size width and (leb (length e.fields) 8 and leb (length e.conditions) 8)))

-- "0 to 65,535"; "Kind 1 tables are still read, with cycles 0" (document 02, No. 3)
unfoldable pub lawful_cycles : ℕ → Entry → Bool
lawful_cycles kind e = cond (eqb kind 6) (leb e.cycles 65535) (eqb e.cycles 0)

unfoldable pub lawful : ℕ → ℕ → Entry → Bool
lawful kind width e =
    lawful_head width e
    and (lawful_pattern (own_bits width e.size) e.opcode
    and (lawful_cycles kind e
    and (lawful_fields width e.size e.opcode.mask e.fields
    and all_of (lawful_condition (own_bits width e.size)) e.conditions)))

-- ---- a table

-- "kind 6 in place of kind 1"
unfoldable pub good_kind : ℕ → Bool
good_kind kind = eqb kind 1 or eqb kind 6

-- width "(1–32)", entries "(0–256)", "at most 16,384" words
pub record Readable (kind width : ℕ) (es : List Entry) : Type 0 where
  pub known : good_kind kind ≡ true
  pub some : 1 ≤ width
  pub wide : width ≤ 32
  pub few : length es ≤ 256
  pub short : length (table_words kind width es) ≤ 16384
  pub each : all_of (lawful kind width) es ≡ true

-- ---- words that say a table

-- "32-bit words", as all words that are lent to a call are
abbrev pub Small : List ℕ → Type 0
Small ws = (i : ℕ) → word ws i < 2 ^ 32

-- words of 32 bits that read without fault, as this width and these entries, in a table of this kind
pub record Means (kind width : ℕ) (es : List Entry) (ws : List ℕ) : Type 0 where
  pub small : Small ws
  pub kind_is : kind_of (word ws 0) ≡ kind
  pub reads : read_table ws ≡ result (record { width = width; entries = es })
