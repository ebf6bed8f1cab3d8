use Rattle.table.proofs.Laws.{checks, number_of_fine, word_plain}
use Rattle.table.specs.Check.{field_word}
use Rattle.table.specs.Answer.{fault_number}
use mathlib.Core.Path.{◌≡◌, sym, ap, ◌∙◌}
use native.Mathlib.Omega.{arith}
use Rattle.table.proofs.reading.field_fault.Goals as goal

pub returns-then-part-eq-PLAIN : goal.returns-then-part-eq-PLAIN
returns-then-part-eq-PLAIN c =
    let plain : c.part.result ≡ 0x3000 = omega (arith, c.if-part-eq-PLAIN.true) in
    sym (ap fault_number (word_plain _ (sym c.part.ensures ∙ plain)) ∙ number_of_fine)

pub returns-then-not-is_of : goal.returns-then-not-is_of
unfolding field_word
returns-then-not-is_of c = simp (← c.is_of.ensures, c.if-not-is_of.true, checks)

pub returns-then-not-spare_clear : goal.returns-then-not-spare_clear
unfolding field_word
returns-then-not-spare_clear c = simp (← c.is_of.ensures, c.if-not-is_of.false, ← c.spare_clear.ensures, c.if-not-spare_clear.true, checks)

pub returns-then-not-form_fits : goal.returns-then-not-form_fits
unfolding field_word
returns-then-not-form_fits c = simp (← c.is_of.ensures, c.if-not-is_of.false, ← c.spare_clear.ensures, c.if-not-spare_clear.false, ← c.form_fits.ensures, c.if-not-form_fits.true, checks)

pub returns : goal.returns
unfolding field_word
returns c = simp (← c.is_of.ensures, c.if-not-is_of.false, ← c.spare_clear.ensures, c.if-not-spare_clear.false, ← c.form_fits.ensures, c.if-not-form_fits.false, checks)
