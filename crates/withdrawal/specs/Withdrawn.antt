-- A list of entries that lacks one of them, and the words whose answer that changes (document 02, No. 13).
use Rattle.std.specs.Prelude.{ℕ, ◌+◌, ◌-◌, Bool, not, cond, List, ◌++◌, ltb, take, drop}
use Rattle.table.specs.Table.{Entry}
use Rattle.choice.specs.Rule.{Choice, same_choice, moved_choice}
use Rattle.selection.specs.Selection.{select}

-- "the one that lacks a single entry": the entries but number k
unfoldable pub without : ℕ → List Entry → List Entry
without k es = take k es ++ drop (k + 1) es

-- the number that entry i, which is not k, has without k; the number that entry i of those without k had before
unfoldable pub lowered : ℕ → ℕ → ℕ
lowered k i = cond (ltb i k) i (i - 1)

unfoldable pub formerly : ℕ → ℕ → ℕ
formerly k i = cond (ltb i k) i (i + 1)

-- "the same entry as before, renumbered, or nothing as before"
abbrev pub renumbered : ℕ → Choice → Choice
renumbered k a = moved_choice (lowered k) a

-- a word changes its answer, "turning ambiguous included, renumbering not": what it selects without entry k, in the old numbers, is not what
-- it selected
unfoldable pub changes : List Entry → ℕ → ℕ → Bool
changes es k w = not (same_choice (moved_choice (formerly k) (select (without k es) w)) (select es w))
