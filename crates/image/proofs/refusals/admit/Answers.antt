use mathlib.Core.Path.{◌≡◌, refl, sym, ◌∙◌}
use mathlib.Core.Bool.{true}
use Rattle.std.proofs.lemmas.Result.{err_from_is_err_and}
use Rattle.words.specs.Outcome.{Outcome}
use Rattle.table.specs.Table.{Table, table_of}
use Rattle.table.specs.Check.{fine, table_check}
use Rattle.table.proofs.Views.{read_refused}
use Rattle.image.specs.Listing.{image_table, admitted}
use Rattle.image.proofs.Admitting.{table_wide, good_even, good_short, checked_yes, checked_no, chain_table, chain_image, chain_tree, chain_ready}
use Rattle.image.proofs.refusals.admit.Goals as goal

pub returns-in_err-held-clause-answer : goal.returns-in_err-held-clause-answer
unfolding admitted
returns-in_err-held-clause-answer c =
    let p = err_from_is_err_and c.from_residual.result c.from_residual.ensures.1 in
    rw (p.1, p.2) (read_refused _ _ c.in_err-held.ensures (λ (o : Outcome Table). admitted o c.args.tree.now c.args.image.now) (λ n q. refl))

pub returns-then-not-image_table-clause-answer : goal.returns-then-not-image_table-clause-answer
returns-then-not-image_table-clause-answer c =
    let w = c.in_ok-held.ensures.words in
    chain_table _ _ _ (rw w at c.in_ok-held.held.ready.good) (rw w at (sym c.image_table.ensures ∙ c.if-not-image_table.true))

pub returns-then-not-image_good-clause-answer : goal.returns-then-not-image_good-clause-answer
returns-then-not-image_good-clause-answer c =
    let w = c.in_ok-held.ensures.words in
    chain_image _ _ _ (rw w at c.in_ok-held.held.ready.good) (rw w at (sym c.image_table.ensures ∙ c.if-not-image_table.false))
    (sym c.image_good.ensures ∙ c.if-not-image_good.true)

pub returns-then-is_err-clause-answer : goal.returns-then-is_err-clause-answer
returns-then-is_err-clause-answer c =
    let w = c.in_ok-held.ensures.words in
    let good : table_check c.args.table.now ≡ fine = rw w at c.in_ok-held.held.ready.good in
    chain_tree _ _ _ good (rw w at (sym c.image_table.ensures ∙ c.if-not-image_table.false)) (sym c.image_good.ensures ∙ c.if-not-image_good.false)
    (checked_no c.args.table.now c.args.tree.now good _ c.check.ensures (sym c.is_err.ensures.value ∙ c.if-is_err.true))

pub invariant_of-result : goal.invariant_of-result
invariant_of-result c =
    let w = c.in_ok-held.ensures.words in
    let held = c.in_ok-held.held in
    let good : table_check c.args.table.now ≡ fine = rw w at held.ready.good in
    let t : image_table (table_of held.entries.words.now) ≡ true = sym c.image_table.ensures ∙ c.if-not-image_table.false in
    let g = sym c.image_good.ensures ∙ c.if-not-image_good.false in
    let t' : image_table (table_of c.args.table.now) ≡ true = rw w at t in
    record {
      wide = held.ready.wide ∙ table_wide _ t;
      right = rw w (rw (table_wide _ t') at (checked_yes c.args.table.now c.args.tree.now good _ c.check.ensures (sym c.is_err.ensures.value ∙ c.if-is_err.false)));
      even = good_even _ g;
      short = good_short _ g;
    }

pub returns-clause-answer : goal.returns-clause-answer
returns-clause-answer c =
    let w = c.in_ok-held.ensures.words in
    let good : table_check c.args.table.now ≡ fine = rw w at c.in_ok-held.held.ready.good in
    rw w
    (chain_ready _ _ _ good (rw w at (sym c.image_table.ensures ∙ c.if-not-image_table.false)) (sym c.image_good.ensures ∙ c.if-not-image_good.false)
    (checked_yes c.args.table.now c.args.tree.now good _ c.check.ensures (sym c.is_err.ensures.value ∙ c.if-is_err.false)))
