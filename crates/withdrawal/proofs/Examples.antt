-- Withdrawals, computed on document 01's tables, and on the smallest where an entry takes the number of the one withdrawn. Assumes nothing.
use mathlib.Core.Path.{◌≡◌, refl}
use mathlib.Core.List.{List, [], ◌∷◌, map}
use Prim.Native.Nat.{ℕ}
use Rattle.words.specs.Tests.{how_many}
use Rattle.words.specs.Outcome.{Outcome, result, refused}
use Rattle.table.specs.Table.{table_of}
use Rattle.table.specs.Check.{read_table}
use Rattle.table.specs.Worked.{worked}
use Rattle.choice.specs.Rule.{selects, is_nothing, is_ambiguous, same_choice}
use Rattle.selection.proofs.Examples.{looks, two, three}
use Rattle.withdrawal.specs.Withdrawn.{without, formerly, changes}
use Rattle.withdrawal.specs.Counted.{unfit, unfit_at, counted_in, changed_of}

-- how many words of a list change, for each of these entries withdrawn, with every definition open
unfoldable counts : List ℕ → List ℕ → List ℕ → List (Outcome ℕ)
unfolding looks how_many selects is_nothing is_ambiguous same_choice without formerly changes unfit unfit_at counted_in changed_of
counts ws list entries = map (λ k. changed_of (read_table ws) k list) entries

-- 0--, --0 and 0-0, all words of the width: without the first, 1 and 3 select nothing, and 0 and 2 the same entry under another number; without
-- the second, 4 and 6 select nothing; without the third, 0 and 2 are ambiguous
first_middle_last : counts three (0 ∷ 1 ∷ 2 ∷ 3 ∷ 4 ∷ 5 ∷ 6 ∷ 7 ∷ []) (0 ∷ 1 ∷ 2 ∷ 3 ∷ []) ≡ result 2 ∷ result 2 ∷ result 2 ∷ refused 11 0 0 ∷ []
unfolding counts
first_middle_last = refl

-- the third is what 0-- and --0 lack: what Changing.antt says of two tables holds of these
lacks : table_of two ≡ record { width = 3; entries = without 2 (table_of three).entries }
unfolding counts
lacks = refl

-- no word; a word that is there three times
none_and_again : changed_of (read_table three) 2 [] ∷ changed_of (read_table three) 2 (0 ∷ 5 ∷ 0 ∷ 0 ∷ []) ∷ [] ≡ result 0 ∷ result 3 ∷ []
unfolding counts
none_and_again = refl

-- 0-- and --0: of 0, which is ambiguous, and 9, which is too wide, the first is answered; without them there is a count; no such entry comes first
first_unfit : changed_of (read_table two) 0 (1 ∷ 0 ∷ 9 ∷ []) ∷ changed_of (read_table two) 0 (1 ∷ 9 ∷ 0 ∷ []) ∷ changed_of (read_table two) 0 (1 ∷ 3 ∷ 4 ∷ []) ∷ changed_of (read_table two) 2 (9 ∷ 0 ∷ []) ∷ []
    ≡ refused 6 0 0 ∷ refused 7 0 0 ∷ result 2 ∷ refused 11 0 0 ∷ []
unfolding counts
first_unfit = refl

-- 0-0 and 0--: without the first, 0 and 2 select the second, which is then the first
takes_its_number : changed_of (read_table (0x10020003 ∷ 0x20000310 ∷ 5 ∷ 0 ∷ 0x30000101 ∷ 0x20000310 ∷ 4 ∷ 0 ∷ 0x30000002 ∷ [])) 0 (0 ∷ 1 ∷ 2 ∷ 3 ∷ []) ≡ result 2
unfolding counts
takes_its_number = refl

-- the marked twelve of the worked table, A to G withdrawn one by one
twelve : counts worked (0x00 ∷ 0x01 ∷ 0x02 ∷ 0x03 ∷ 0x11 ∷ 0x30 ∷ 0x40 ∷ 0x70 ∷ 0x80 ∷ 0x81 ∷ 0x82 ∷ 0xC0 ∷ []) (0 ∷ 1 ∷ 2 ∷ 3 ∷ 4 ∷ 5 ∷ 6 ∷ [])
    ≡ result 3 ∷ result 1 ∷ result 1 ∷ result 1 ∷ result 1 ∷ result 1 ∷ result 2 ∷ []
unfolding counts
twelve = refl
