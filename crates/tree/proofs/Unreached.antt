-- Document 02, No. 8, sentence by sentence, over the definitions that the calls' contracts cite. Assumes nothing.
--   `maker::generate` answers `generate_of (read_table ws) (length out)` and leaves `buffer_of (read_table ws) out`; `maker::measure` answers
--   `measure_of (read_table ws)`.
--     leaf_exactly (Reach.antt)     a leaf of the tree names an entry exactly when some word of the width selects it
--     lowest_refused, some_refused     when generating is refused with 19, and its place
--     after_six, all_zero     what 19 comes after, and what it leaves
--     sized_lowest, sized_some, sized_after     the same of sizing
--     walks_asked     the third demand, of every table that is refused neither by 6 nor by 19
use Prim.Native.Nat.{ℕ, ◌^◌, ◌<◌}
use mathlib.Core.Path.{◌≡◌, sym, ◌∙◌}
use mathlib.Core.Bool.{true}
use mathlib.Core.Logic.{◌↔◌}
use mathlib.Core.List.{List}
use lib.ListN.{length, take, replicate}
use Rattle.words.specs.Outcome.{result, refused}
use Rattle.words.proofs.Logic.{options}
use Rattle.words.proofs.Outcomes.{not_refused}
use Rattle.table.specs.Table.{Table}
use Rattle.table.specs.Check.{read_table}
use Rattle.selection.proofs.Formula.{Contested, ambiguous_exactly}
use Rattle.tree.specs.Tree.{tree, size}
use Rattle.tree.specs.Reach.{lowest_unreached}
use Rattle.tree.specs.Generate.{fits, judged, generate_of, buffer_of, measure_of}
use Rattle.tree.proofs.Theorem.{tree_sound}
use Rattle.tree.proofs.Reach.{Reached, Lowest, none_exactly, lowest_exactly}
use Rattle.tree.proofs.Demand.{Right, read_sane, clear_judged, nineteen_judged, neither_generated, refused_zero, walk_right}
use Rattle.tree.proofs.Sizing.{refused_alike}

-- a table that reads, and a buffer of so many words
module _ (ws : List ℕ) (t : Table) (reads : read_table ws ≡ result t) (room : ℕ) where
  -- "This happens exactly when some entry is selected by no word of the width": of a table whose tree fits and which has no ambiguous word
  module _ (f : fits (tree t.entries t.width) room ≡ true) (clear : (w : ℕ) → w < 2 ^ t.width → Contested t.entries w → ⊥) where
    -- "19, with the lowest such entry as place"
    pub lowest_refused : (e : ℕ) → (generate_of (read_table ws) room ≡ refused 19 e 0) ↔ Lowest t.entries t.width e
    unfolding judged
    lowest_refused e = (
      λ q. (lowest_exactly t.entries t.width e).0 (nineteen_judged ws t reads room e q).2,
      λ l. clear_judged ws t reads room f clear ((lowest_exactly t.entries t.width e).1 l),
    )

    pub some_refused :
        ((e : ℕ) × (generate_of (read_table ws) room ≡ refused 19 e 0)) ↔ ((e : ℕ) × (e < length t.entries) × (Reached t.entries t.width e → ⊥))
    some_refused = (
      λ r. let l = (lowest_refused r.0).0 r.1 in (r.0, l.entry, l.unreached),
      λ r.
          options (lowest_unreached t.entries t.width)
          (λ q. absurd (r.2 ((none_exactly t.entries t.width).0 q r.0 r.1)))
          (λ e q. (e, (lowest_refused e).1 ((lowest_exactly t.entries t.width e).0 q))),
    )

  -- "after 6", which is after 5: the tree fits, and no word is ambiguous
  pub after_six : (e : ℕ) → generate_of (read_table ws) room ≡ refused 19 e 0
      → (fits (tree t.entries t.width) room ≡ true) × ((w : ℕ) → Contested t.entries w → ⊥)
  after_six e lost =
      let (f, clean, q) = nineteen_judged ws t reads room e lost in
      (f, λ w c. tree_sound t.entries t.width (read_sane ws t reads).good clean w ((ambiguous_exactly t.entries w).1 c))

-- "what the third demand says of walking is asked of every table that is refused neither by 6 nor by 19": its tree fits, so it is written
-- (Demand.antt, neither_generated), and every word of the width walks right, in the whole buffer and in the words that were answered
pub walks_asked : (ws out : List ℕ) (t : Table) → read_table ws ≡ result t → fits (tree t.entries t.width) (length out) ≡ true
    → ((w : ℕ) → generate_of (read_table ws) (length out) ≡ refused 6 0 w → ⊥) → ((e : ℕ) → generate_of (read_table ws) (length out) ≡ refused 19 e 0 → ⊥)
    → (n : ℕ) × (generate_of (read_table ws) (length out) ≡ result n) × ((w : ℕ) → w < 2 ^ t.width
    → Right t.entries t.width (size (tree t.entries t.width)) (buffer_of (read_table ws) out) w
    × Right t.entries t.width (size (tree t.entries t.width)) (take n (buffer_of (read_table ws) out)) w)
walks_asked ws out t reads f six nineteen =
    let g = neither_generated ws out t reads f six nineteen in
    (_, g, walk_right ws out t reads _ g)

-- "the tree buffer is all zero"
pub all_zero : (ws out : List ℕ) (t : Table) → read_table ws ≡ result t → (e : ℕ) → generate_of (read_table ws) (length out) ≡ refused 19 e 0
    → buffer_of (read_table ws) out ≡ replicate (length out) 0
all_zero ws out t reads e lost = refused_zero ws out t reads (λ n q. not_refused (sym q ∙ lost))

-- "Generating and sizing now refuse such a table": sizing as generating into 16,384 words is
module _ (ws : List ℕ) (t : Table) (reads : read_table ws ≡ result t) where
  module _ (f : fits (tree t.entries t.width) 16384 ≡ true) (clear : (w : ℕ) → w < 2 ^ t.width → Contested t.entries w → ⊥) where
    pub sized_lowest : (e : ℕ) → (measure_of (read_table ws) ≡ refused 19 e 0) ↔ Lowest t.entries t.width e
    sized_lowest e =
        let sizes = refused_alike ws 19 e 0 in
        let makes = lowest_refused ws t reads 16384 f clear e in
        (λ q. makes.0 (sizes.0 q), λ l. sizes.1 (makes.1 l))

    pub sized_some : ((e : ℕ) × (measure_of (read_table ws) ≡ refused 19 e 0)) ↔ ((e : ℕ) × (e < length t.entries) × (Reached t.entries t.width e → ⊥))
    sized_some =
        let makes = some_refused ws t reads 16384 f clear in (
          λ r. makes.0 (r.0, (refused_alike ws 19 r.0 0).0 r.1),
          λ r. let m = makes.1 r in (m.0, (refused_alike ws 19 m.0 0).1 m.1),
        )

  -- "after 6", which is after 5
  pub sized_after : (e : ℕ) → measure_of (read_table ws) ≡ refused 19 e 0
      → (fits (tree t.entries t.width) 16384 ≡ true) × ((w : ℕ) → Contested t.entries w → ⊥)
  sized_after e lost = after_six ws t reads 16384 e ((refused_alike ws 19 e 0).0 lost)
