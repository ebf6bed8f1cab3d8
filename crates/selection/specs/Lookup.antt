-- What lookup answers.
use Rattle.std.specs.Prelude.{ℕ, ◌^◌, cond, ◌≡◌, List, ltb, Result, IfOk, IfSome}
use Rattle.std.specs.Prelude as code
use Rattle.std.proofs.Math.Option.{Option, none, some}
use Rattle.words.specs.Outcome.{Outcome, result, faulty, refused, maybe_of, said_as}
use Rattle.words.specs.declared.Refusal.{Refusal}
use Rattle.table.specs.Table.{Table, entry_place}
use Rattle.table.specs.Check.{read_table}
use Rattle.choice.specs.Rule.{Choice, names, nothing, ambiguous}
use Rattle.selection.specs.Selection.{select}
use Rattle.selection.specs.declared.Found.{Found}

-- the entry's number, or none for the answer nothing; "ambiguous", 6 with "the word"
abbrev pub looked_up : ℕ → Choice → Outcome (Option ℕ)
looked_up w (names e) = result (some e)
looked_up w nothing = result none
looked_up w ambiguous = refused 6 0 w

-- "lookup 7, 6": "word has a bit at or above the width": 7
abbrev pub looked_in : ℕ → ℕ → Choice → Outcome (Option ℕ)
looked_in width w a = cond (ltb w (2 ^ width)) (looked_up w a) (refused 7 0 0)

-- after the table's faults
unfoldable pub look_of : Outcome Table → ℕ → Outcome (Option ℕ)
look_of (faulty n p) w = faulty n p
look_of (refused n p x) w = refused n p x
look_of (result t) w = looked_in t.width w (select t.entries w)

-- the paper's number and values for each case of the answer
abbrev pub said : Result (code.Option ℕ) Refusal → Outcome (Option ℕ)
said = said_as maybe_of

-- the same of an entry with its place
abbrev pub entry_found : code.Option Found → Option ℕ
entry_found (code.Some f) = some f.entry
entry_found code.None = none

abbrev pub said_found : Result (code.Option Found) Refusal → Outcome (Option ℕ)
said_found = said_as entry_found

-- what holds of the entry that is answered, where one is
abbrev pub IfFound : Result (code.Option Found) Refusal → (Found → Type 0) → Type 0
IfFound r P = IfOk r (λ o. IfSome o P)

-- lookup's answer, with the place of the selected entry
pub record Finds (ws : List ℕ) (w : ℕ) (r : Result (code.Option Found) Refusal) : Type 0 where
  pub answer : said_found r ≡ look_of (read_table ws) w
  pub place : IfFound r (λ f. f.place ≡ entry_place ws f.entry)
