-- What a field's word tells the calls: its kind, form, fraction bits and width, and no other bit. Assumes nothing.
use Prim.Native.Nat.{ℕ, ◌/◌, ◌%◌, ◌^◌}
use mathlib.Core.Path.{◌≡◌, sym, ap, ◌∙◌}
use lib.Pow.{field, mod-mod-pow, shr-shr}
use Rattle.words.specs.Words.{part, bits}
use Rattle.table.specs.Table.{kind_of, form_of, fraction_of}

-- the parts of a word's upper half
module _ (w : ℕ) where
  kind_is : kind_of w ≡ bits 31 16 w / 2 ^ 12
  unfolding part
  kind_is = sym (field (w / 2 ^ 16) 4 12 ∙ ap (λ (n : ℕ). n % 2 ^ 4) (shr-shr w 16 12))

  form_is : form_of w ≡ bits 31 16 w / 2 ^ 8 % 2 ^ 4
  unfolding part
  form_is = sym (ap (λ (n : ℕ). n % 2 ^ 4) (field (w / 2 ^ 16) 8 8) ∙ mod-mod-pow (w / 2 ^ 16 / 2 ^ 8) 4 4 ∙ ap (λ (n : ℕ). n % 2 ^ 4) (shr-shr w 16 8))

  fraction_is : fraction_of w ≡ bits 31 16 w % 2 ^ 8
  unfolding part
  fraction_is = sym (mod-mod-pow (w / 2 ^ 16) 8 8)

-- two words whose upper halves and lowest bytes are the same
module _ (w x : ℕ) (upper : bits 31 16 w ≡ bits 31 16 x) where
  pub same_kind : kind_of w ≡ kind_of x
  same_kind = kind_is w ∙ ap (λ (n : ℕ). n / 2 ^ 12) upper ∙ sym (kind_is x)

  pub same_form : form_of w ≡ form_of x
  same_form = form_is w ∙ ap (λ (n : ℕ). n / 2 ^ 8 % 2 ^ 4) upper ∙ sym (form_is x)

  pub same_fraction : fraction_of w ≡ fraction_of x
  same_fraction = fraction_is w ∙ ap (λ (n : ℕ). n % 2 ^ 8) upper ∙ sym (fraction_is x)
