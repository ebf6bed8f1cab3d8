use Rattle.words.proofs.Parts.{part_lt}
use Rattle.table.proofs.Laws.{passed_on, goes_on, stops, pattern_fits, head_fits, head_below}
use Rattle.table.specs.Check.{entry_check}
use mathlib.Core.Path.{sym, ◌∙◌}
use native.Mathlib.Omega.{arith}
use Rattle.table.proofs.reading.Reader.entry.Goals as goal

pub returns-in_err-head-clause-check : goal.returns-in_err-head-clause-check
unfolding entry_check
returns-in_err-head-clause-check c = passed_on _ _ c.from_residual.ensures.1 ∙ stops _ _ _ _ c.in_err-head.ensures

pub returns-in_err-pattern-clause-check : goal.returns-in_err-pattern-clause-check
unfolding entry_check
returns-in_err-pattern-clause-check c =
    passed_on _ _ c.from_residual-in_err-pattern.ensures.1
    ∙ simp (← c.word-w.ensures, ← c.part-size.ensures, ← c.own_bits-own.ensures) (goes_on _ _ _ c.in_ok-head.ensures (stops _ _ _ _ c.in_err-pattern.ensures))

pub returns-in_err-cycles-clause-check : goal.returns-in_err-cycles-clause-check
unfolding entry_check
returns-in_err-cycles-clause-check c =
    passed_on _ _ c.from_residual-in_err-cycles.ensures.1
    ∙ simp (← c.word-w.ensures, ← c.part-size.ensures, ← c.own_bits-own.ensures)
    (goes_on _ _ _ c.in_ok-head.ensures (goes_on _ _ _ c.in_ok-pattern.ensures (stops _ _ _ _ c.in_err-cycles.ensures)))

pub returns-in_err-fields-clause-check : goal.returns-in_err-fields-clause-check
unfolding entry_check
returns-in_err-fields-clause-check c =
    passed_on _ _ c.from_residual-in_err-fields.ensures.1
    ∙ simp (← c.word-w.ensures, ← c.part-size.ensures, ← c.own_bits-own.ensures, ← c.fields_at-first.ensures.0, ← c.part-n.ensures, ← c.word.ensures)
    (goes_on _ _ _ c.in_ok-head.ensures (goes_on _ _ _ c.in_ok-pattern.ensures (goes_on _ _ _ c.in_ok-cycles.ensures (stops _ _ _ _ c.in_err-fields.ensures))))

pub returns-clause-check : goal.returns-clause-check
unfolding entry_check
returns-clause-check c =
    simp (← c.word-w.ensures, ← c.part-size.ensures, ← c.own_bits-own.ensures, ← c.fields_at-first.ensures.0, ← c.part-n.ensures, ← c.word.ensures, ← c.part.ensures)
    (goes_on _ _ _ c.in_ok-head.ensures (goes_on _ _ _ c.in_ok-pattern.ensures (goes_on _ _ _ c.in_ok-cycles.ensures (goes_on _ _ _ c.in_ok-fields.ensures c.conditions.ensures.check))))

pub own_bits-own-requires : goal.own_bits-own-requires
own_bits-own-requires c = (rw (c.part-size.ensures, c.word-w.ensures) (head_below _ _ _ (sym c.in_ok-head.ensures)), c.args.self.now.small.1)

pub overflow_add-p : goal.overflow_add-p
overflow_add-p c = omega (arith, head_fits _ _ _ (sym c.in_ok-head.ensures), c.args.self.now.small)

pub cycles-requires : goal.cycles-requires
cycles-requires c = omega (arith, pattern_fits _ _ _ (sym c.in_ok-pattern.ensures))

pub overflow_cast-first : goal.overflow_cast-first
overflow_cast-first c = omega (arith, c.fields_at-first.ensures.1, head_fits _ _ _ (sym c.in_ok-head.ensures), c.args.self.now.small)

pub overflow_add-p-2 : goal.overflow_add-p-2
overflow_add-p-2 c = omega (arith, head_fits _ _ _ (sym c.in_ok-head.ensures), c.args.self.now.small)

pub fields-requires : goal.fields-requires
fields-requires c = rw (c.part-size.ensures, c.word-w.ensures) (head_below _ _ _ (sym c.in_ok-head.ensures))

pub overflow_add-first : goal.overflow_add-first
overflow_add-first c = omega (arith, c.fields_at-first.ensures.1, c.part-n.ensures, part_lt c.word-w.result 4 4, head_fits _ _ _ (sym c.in_ok-head.ensures), c.args.self.now.small)

pub returns-clause-end : goal.returns-clause-end
returns-clause-end c = rw (← c.word-w.ensures, ← c.fields_at-first.ensures.0, ← c.part-n.ensures, ← c.part.ensures) c.conditions.ensures.end
