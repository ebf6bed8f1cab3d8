use Rattle.words.specs.Outcome.{number_of}
use Rattle.words.specs.declared.Fault.{Fault}
use Rattle.words.specs.declared.Fault.TheVariants.{FirstWord, Structure, Pattern, Field}
use Rattle.table.proofs.Laws.{passed_on, goes_on, stops, word_stops, word_passes, rule_some, rule_below}
use Rattle.table.specs.Check.{fine, fault, field_word, field_check}
use Prim.Native.Nat.{ℕ}
use mathlib.Core.Path.{◌≡◌, sym, ap, ◌∙◌}
use native.Mathlib.Omega.{arith}
use Rattle.table.proofs.reading.Reader.field.Goals as goal

some_number : (f : Fault) → number_of f ≡ 0 → ⊥
some_number FirstWord e = omega (arith, e)
some_number Structure e = omega (arith, e)
some_number Pattern e = omega (arith, e)
some_number Field e = omega (arith, e)

pub returns-in_err-has-clause-check : goal.returns-in_err-has-clause-check
unfolding field_check
returns-in_err-has-clause-check c = passed_on _ _ c.from_residual.ensures.1 ∙ stops _ _ _ _ c.in_err-has.ensures.check

pub returns-in-Err-clause-check : goal.returns-in-Err-clause-check
unfolding field_check
returns-in-Err-clause-check c =
    let n = c.in-Err.ensures in
    let e : fault (number_of c.in-Err.fault) c.args.p ≡ field_word c.word-w.result c.args.p =
    sym (word_stops _ _ (λ z. some_number c.in-Err.fault (n ∙ z)) ∙ ap (λ (n : ℕ). fault n c.args.p) (sym n)) in
    rw (← c.word-w.ensures) (goes_on _ _ _ c.in_ok-has.ensures.check (stops _ _ _ _ e))

pub returns-in_err-field_rule-clause-check : goal.returns-in_err-field_rule-clause-check
unfolding field_check
returns-in_err-field_rule-clause-check c =
    let e : fine ≡ field_word c.word-w.result c.args.p = sym (word_passes _ _ 0 (sym c.in_default.ensures)) in
    passed_on _ _ c.from_residual-in_err-field_rule.ensures.1
    ∙ rw (← c.word-w.ensures) (goes_on _ _ _ c.in_ok-has.ensures.check (goes_on _ _ _ e c.in_err-field_rule.ensures))

pub field_bits-requires : goal.field_bits-requires
field_bits-requires c =
    (rule_some _ _ _ _ _ (sym c.in_ok-field_rule.ensures), omega (arith, rule_below _ _ _ _ _ (sym c.in_ok-field_rule.ensures), c.args.self.now.small))

pub returns-clause-check : goal.returns-clause-check
unfolding field_check
returns-clause-check c =
    let e : fine ≡ field_word c.word-w.result c.args.p = sym (word_passes _ _ 0 (sym c.in_default.ensures)) in
    rw (← c.word-w.ensures) (goes_on _ _ _ c.in_ok-has.ensures.check (goes_on _ _ _ e c.in_ok-field_rule.ensures))
