-- How many words of a list change their answer when an entry is withdrawn (document 02, No. 13).
use Rattle.std.specs.Prelude.{ℕ, ◌^◌, Bool, not, cond, List, ltb, length}
use Rattle.std.proofs.Math.Option.{Option, none, some}
use Rattle.words.specs.Tests.{◌or◌, how_many, first}
use Rattle.words.specs.Words.{word}
use Rattle.words.specs.Outcome.{Outcome, result, faulty, refused}
use Rattle.table.specs.Table.{Table}
use Rattle.choice.specs.Rule.{is_ambiguous}
use Rattle.selection.specs.Selection.{select}
use Rattle.withdrawal.specs.Withdrawn.{changes}

-- an "unfit word": it has a bit at or above the width, or it "was ambiguous before the withdrawal"; one that stands at an index of the list
unfoldable pub unfit : Table → ℕ → Bool
unfit t w = not (ltb w (2 ^ t.width)) or is_ambiguous (select t.entries w)

unfoldable pub unfit_at : Table → List ℕ → ℕ → Bool
unfit_at t list i = unfit t (word list i)

-- what is said of an unfit word: "7, or 6 if it was ambiguous", with the word
abbrev pub refused_for : Table → ℕ → Outcome ℕ
refused_for t w = cond (ltb w (2 ^ t.width)) (refused 6 0 w) (refused 7 0 0)

-- "how many change their answer"; or what is said of the unfit word at an index of the list
abbrev pub counted_unless : Option ℕ → Table → ℕ → List ℕ → Outcome ℕ
counted_unless none t k list = result (how_many (λ i. changes t.entries k (word list i)) (length list))
counted_unless (some i) t k list = refused_for t (word list i)

-- "for the first unfit word of the list"
unfoldable pub counted_in : Table → ℕ → List ℕ → Outcome ℕ
counted_in t k list = counted_unless (first (unfit_at t list) (length list)) t k list

-- "After the table's faults it gives 11 for no such entry"
unfoldable pub changed_of : Outcome Table → ℕ → List ℕ → Outcome ℕ
changed_of (faulty n p) k list = faulty n p
changed_of (refused n p w) k list = refused n p w
changed_of (result t) k list = cond (ltb k (length t.entries)) (counted_in t k list) (refused 11 0 0)
