use mathlib.Core.Bool.{false}
use mathlib.Core.List.{List}
use mathlib.Core.Path.{◌≡◌, sym, ◌∙◌}
use native.Mathlib.Omega.{arith}
use Prim.Native.Nat.{ℕ, ◌+◌, ◌-◌, ◌*◌, ◌<◌}
use Rattle.words.proofs.Parts.{part_of, part_lt}
use Rattle.words.specs.Tests.{any_of}
use Rattle.words.specs.Words.{word}
use Rattle.table.specs.Table.{condition_at, conditions_at, unmatching_of}
use Rattle.selection.specs.Selection.{satisfied}
use Rattle.selection.proofs.Exclusion.{unmatching_pass, unmatching_found, unmatching_none, condition_pass, condition_found, condition_none, satisfies, fails_unmatching, fails_matching}
use Rattle.selection.proofs.excluded.Goals as goal

-- one condition further on: m is its number of unmatching patterns
on : (ws : List ℕ) (w n i p m : ℕ) → i < n → m ≡ unmatching_of (word ws p) → satisfied w (condition_at ws p) ≡ false
    → any_of (satisfied w) (conditions_at ws (n - i) p) ≡ any_of (satisfied w) (conditions_at ws (n - (i + 1)) (p + 3 + 3 * m))
on ws w n i p m h c f =
    let g : n - (i + 1) ≡ n - i - 1 = omega arith in
    rw (g, c) (condition_pass ws w (n - i) p (omega arith) f)

pub search-preserved-then-not-matched : goal.search-preserved-then-not-matched
search-preserved-then-not-matched c =
    let i = c.search.invariant in
    record {
      near = omega (arith, i.near, c.part-unmatchings.ensures, part_lt c.word_at.result 0 4);
      none = i.none;
      rest = i.rest
          ∙ on _ _ _ _ _ _ c.search-test.true (part_of _ _ _ 0 4 c.part-unmatchings.ensures c.word_at.ensures) (fails_matching c.args.ws.now _ c.search.next (sym c.matches-matched.ensures ∙ c.if-not-matched.true));
    }

pub search-preserved : goal.search-preserved
search-preserved c =
    let i = c.search.invariant in
    let m = part_of _ _ _ 0 4 c.part-unmatchings.ensures c.word_at.ensures in
    record {
      near = omega (arith, i.near, c.part-unmatchings.ensures, part_lt c.word_at.result 0 4);
      none = i.none;
      rest = i.rest
          ∙ on _ _ _ _ _ _ c.search-test.true m
          (fails_unmatching _ _ _ _ m (sym c.matches-matched.ensures ∙ c.if-not-matched.false) (c.loop-u.invariant ∙ unmatching_found _ _ _ _ (omega (arith, c.loop-u-test.true)) (sym c.matches.ensures ∙ c.if-matches.true)));
    }

pub loop-u-preserved : goal.loop-u-preserved
loop-u-preserved c =
    let l = c.loop-u in
    let g : c.part-unmatchings.result - (l.u + 1) ≡ c.part-unmatchings.result - l.u - 1 = omega arith in
    let q : c.search.next + 3 + 3 * (l.u + 1) ≡ c.search.next + 3 + 3 * l.u + 3 = omega arith in
    l.invariant ∙ rw (g, q) (unmatching_pass _ _ _ _ (omega (arith, c.loop-u-test.true)) (sym c.matches.ensures ∙ c.if-matches.false))

pub returns-after-search : goal.returns-after-search
returns-after-search c = let i = c.search.invariant in i.none ∙ sym (i.rest ∙ condition_none _ _ _ _ (omega (arith, c.search-test.false)))

pub returns-after-loop-u : goal.returns-after-loop-u
returns-after-loop-u c =
    let m = part_of _ _ _ 0 4 c.part-unmatchings.ensures c.word_at.ensures in
    sym
    (c.search.invariant.rest
    ∙ condition_found _ _ _ _ (omega (arith, c.search-test.true))
    (satisfies _ _ _ _ m (sym c.matches-matched.ensures ∙ c.if-not-matched.false) (c.loop-u.invariant ∙ unmatching_none _ _ _ _ (omega (arith, c.loop-u-test.false)))))
