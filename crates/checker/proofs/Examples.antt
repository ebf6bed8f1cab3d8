-- The checker's rule, computed on the table that document 01 prints. Assumes nothing.
use Prim.Native.Nat.{ℕ}
use mathlib.Core.Path.{◌≡◌, refl}
use mathlib.Core.List.{List, [], ◌∷◌}
use Rattle.words.specs.Outcome.{Outcome, result, faulty, refused}
use Rattle.table.specs.Check.{read_table}
use Rattle.table.specs.Worked.{printed}
use Rattle.choice.specs.Rule.{selects}
use Rattle.tree.proofs.Examples.{answered, walked, printed_tree}
use Rattle.checker.specs.Checker.{is_step_two, check_from, check_below, accepts_by, accepts, check_of}

-- what the checker says of these words for the printed table, with every definition open
unfoldable pub verdict : List ℕ → Outcome Unit
unfolding answered walked selects is_step_two check_from check_below accepts_by accepts check_of
verdict words = check_of (read_table printed) words

pub record Verdicts : Type 0 where
  -- the printed tree, any word lent after it, and a tree that tests bit 0 first
  pub yes : verdict printed_tree ≡ result tt
  pub lent_after : verdict (0x70020003 ∷ 0x80800003 ∷ 0xa0000000 ∷ 0x90000000 ∷ 7 ∷ []) ≡ result tt
  pub other_bit_first : verdict (0x70020007 ∷ 0x80000005 ∷ 0x80800004 ∷ 0xa0000000 ∷ 0x90000000 ∷ 0x80800007 ∷ 0xa0000000 ∷ 0x90000000 ∷ []) ≡ result tt
  -- one tree against each part of the rule
  pub header : verdict (0x70020003 ∷ 0x80800003 ∷ 0xa0000000 ∷ []) ≡ refused 14 0 0
  pub widths : verdict (0x70030003 ∷ 0x80800003 ∷ 0xa0000000 ∷ 0x90000000 ∷ []) ≡ refused 14 0 0
  pub damaged : verdict (0x70020003 ∷ 0x80800003 ∷ 0xa0000000 ∷ 0x90000100 ∷ []) ≡ refused 14 0 0
  pub sides_apart : verdict (0x70020004 ∷ 0x80800004 ∷ 0xa0000000 ∷ 0xa0000000 ∷ 0x90000000 ∷ []) ≡ refused 14 0 0
  pub left_over : verdict (0x70020004 ∷ 0x80800003 ∷ 0xa0000000 ∷ 0x90000000 ∷ 0xa0000000 ∷ []) ≡ refused 14 0 0
  pub tested_twice : verdict (0x70020005 ∷ 0x80800003 ∷ 0xa0000000 ∷ 0x80800005 ∷ 0xa0000000 ∷ 0x90000000 ∷ []) ≡ refused 14 0 0
  pub only_live : verdict (0x70020001 ∷ 0x90000000 ∷ []) ≡ refused 14 0 0
  pub still_live : verdict (0x70020003 ∷ 0x80800003 ∷ 0xa0000000 ∷ 0xa0000000 ∷ []) ≡ refused 14 0 0

pub verdicts : Verdicts
unfolding verdict
verdicts =
    record {
      yes = refl;
      lent_after = refl;
      other_bit_first = refl;
      header = refl;
      widths = refl;
      damaged = refl;
      sides_apart = refl;
      left_over = refl;
      tested_twice = refl;
      only_live = refl;
      still_live = refl;
    }

-- a table at fault comes before the tree
pub check_empty : check_of (read_table []) [] ≡ faulty 1 0
unfolding verdict
check_empty = refl
