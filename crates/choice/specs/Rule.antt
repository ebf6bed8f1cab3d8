-- The most-specific rule: which entry is chosen among those that pass a test ('Selection').
use Rattle.std.specs.Prelude.{ℕ, Bool, true, false, not, List, eqb, length}
use Rattle.std.proofs.Math.Option.{Option, none, some}
use Rattle.std.specs.Int.Bits.{bit_and}
use Rattle.words.specs.Tests.{◌and◌, ◌or◌, every, exists, first}
use Rattle.words.specs.Words.{includes}
use Rattle.table.specs.Table.{Pattern, Entry, entry_number}

-- "A word matches a pattern when word AND mask equals value."
unfoldable pub matches : ℕ → Pattern → Bool
matches w p = eqb (bit_and w p.mask) p.value

-- "Entry e is more specific than f when e's opcode mask holds every bit of f's and at least one more, and the values agree on f's mask."
unfoldable pub more_specific : Entry → Entry → Bool
more_specific e f =
    includes e.opcode.mask f.opcode.mask and not (eqb e.opcode.mask f.opcode.mask) and matches e.opcode.value f.opcode

-- what a word selects, and what a leaf of a tree says: an entry by its number, nothing, or that there is no one answer
pub data Choice : Type 0 where
  names : ℕ → Choice
  nothing : Choice
  ambiguous : Choice

-- it is entry e; it is nothing; it is ambiguous
unfoldable pub selects : Choice → ℕ → Bool
selects (names i) e = eqb i e
selects nothing e = false
selects ambiguous e = false

unfoldable pub is_nothing : Choice → Bool
is_nothing (names i) = false
is_nothing nothing = true
is_nothing ambiguous = false

unfoldable pub is_ambiguous : Choice → Bool
is_ambiguous (names i) = false
is_ambiguous nothing = false
is_ambiguous ambiguous = true

-- two choices are the same
unfoldable pub same_choice : Choice → Choice → Bool
same_choice (names e) a = selects a e
same_choice nothing a = is_nothing a
same_choice ambiguous a = is_ambiguous a

-- the choice where entry i has the number (to i)
abbrev pub moved_choice : (ℕ → ℕ) → Choice → Choice
moved_choice to (names i) = names (to i)
moved_choice to nothing = nothing
moved_choice to ambiguous = ambiguous

abbrev pub choice_of : Option ℕ → Bool → Choice
choice_of (some i) b = names i
choice_of none true = ambiguous
choice_of none false = nothing

-- ---- n entries by their numbers: `entry j` is entry number j, `sure j` and `live j` are tests of it

-- entry j does not stand against entry i: it is the same, or not live, or less specific
unfoldable pub gives_way : (ℕ → Entry) → (ℕ → Bool) → ℕ → ℕ → Bool
gives_way entry live i j = eqb j i or not (live j) or more_specific (entry i) (entry j)

-- entry i is more specific than every other live one
unfoldable pub beats_at : (ℕ → Entry) → (ℕ → Bool) → ℕ → ℕ → Bool
beats_at entry live n i = every (gives_way entry live i) n

-- the sure entry that is more specific than every other live one; if there is none: nothing if no entry is live, else ambiguous
unfoldable pub judge_at : (ℕ → Entry) → (ℕ → Bool) → (ℕ → Bool) → ℕ → Choice
judge_at entry sure live n = choice_of (first (λ i. sure i and beats_at entry live n i) n) (exists live n)

-- ---- the entries of a table: those that pass p are sure, those that pass q are live

abbrev pub beats : List Entry → (Entry → Bool) → ℕ → Bool
beats es q i = beats_at (entry_number es) (λ j. q (entry_number es j)) (length es) i

unfoldable pub judge : List Entry → (Entry → Bool) → (Entry → Bool) → Choice
judge es p q = judge_at (entry_number es) (λ i. p (entry_number es i)) (λ i. q (entry_number es i)) (length es)
