-- The kinds of words: "Bits 31–28 of a head word are its kind".
use Rattle.std.specs.Prelude.{ℕ, cond, eqb, Option, Some, None}
use Rattle.words.specs.declared.Kind.{Kind}
use Rattle.words.specs.declared.Kind.TheVariants as kind

abbrev pub kind_number : Kind → ℕ
kind_number kind.Table = 1
kind_number kind.Entry = 2
kind_number kind.Field = 3
kind_number kind.Condition = 4
kind_number kind.Unmatching = 5
kind_number kind.TableWithCycles = 6
kind_number kind.Tree = 7
kind_number kind.Test = 8
kind_number kind.Names = 9
kind_number kind.Nothing = 10
kind_number kind.FoundItem = 12
kind_number kind.NothingItem = 13
kind_number kind.CutItem = 14

-- the kind of a number, if it has one
abbrev pub later_kind_at : ℕ → Option Kind
later_kind_at n = cond (eqb n 8) (Some kind.Test) (cond (eqb n 9) (Some kind.Names) (cond (eqb n 10) (Some kind.Nothing) (cond (eqb n 12) (Some kind.FoundItem) (cond (eqb n 13) (Some kind.NothingItem) (cond (eqb n 14) (Some kind.CutItem) None)))))

unfoldable pub kind_at : ℕ → Option Kind
kind_at n = cond (eqb n 1) (Some kind.Table) (cond (eqb n 2) (Some kind.Entry) (cond (eqb n 3) (Some kind.Field) (cond (eqb n 4) (Some kind.Condition) (cond (eqb n 5) (Some kind.Unmatching) (cond (eqb n 6) (Some kind.TableWithCycles) (cond (eqb n 7) (Some kind.Tree) (later_kind_at n)))))))
