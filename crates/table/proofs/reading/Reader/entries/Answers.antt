use Rattle.table.proofs.Laws.{passed_on, entries_on, entries_stop, entries_done, place_next, places_none, places_more, placed_all}
use Rattle.words.proofs.Lists.{get_d_zeros}
use Rattle.table.specs.Table.{entry_place}
use native.Mathlib.Nat.{sub-zero as sub_zero}
use lib.ListN.{length-set, replicate}
use mathlib.Core.Path.{refl, sym, ◌∙◌}
use native.Mathlib.Omega.{arith}
use Rattle.table.proofs.reading.Reader.entries.Goals as goal

pub loop-k-init : goal.loop-k-init
unfolding entry_place
loop-k-init c = record { check = rw sub_zero; place = refl; size = refl; placed = places_none _ (replicate 256 0) (λ j. get_d_zeros 256 j) }

pub returns-in_err-p-clause-check : goal.returns-in_err-p-clause-check
returns-in_err-p-clause-check c =
    passed_on _ _ c.from_residual.ensures.1 ∙ sym (c.loop-k.invariant.check ∙ entries_stop _ _ _ _ _ _ _ c.loop-k-test.true c.in_err-p.ensures.check)

pub loop-k-preserved : goal.loop-k-preserved
loop-k-preserved c =
    let i = c.loop-k.invariant in
    let e = c.in_ok-p.ensures in
    record {
      check = i.check ∙ rw e.end (entries_on _ _ _ _ _ c.loop-k-test.true e.check);
      place = place_next _ _ _ _ i.place e.end;
      size = simp length-set i.size;
      placed = places_more _ c.loop-k.at _ _ i.place i.placed (omega (arith, i.size));
    }

pub returns-in_err-need-clause-check : goal.returns-in_err-need-clause-check
returns-in_err-need-clause-check c =
    passed_on _ _ c.from_residual-in_err-need.ensures.1
    ∙ c.in_err-need.ensures.check ∙ sym (c.loop-k.invariant.check ∙ entries_done _ _ _ _ _ c.loop-k-test.false)

pub returns : goal.returns
returns c =
    record {
      check = c.in_ok-need.ensures.check ∙ sym (c.loop-k.invariant.check ∙ entries_done _ _ _ _ _ c.loop-k-test.false);
      places = placed_all _ c.loop-k.at _ _ c.loop-k.auto.k-end c.loop-k-test.false c.loop-k.invariant.placed;
    }
