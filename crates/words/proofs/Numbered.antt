-- A kind and its number are one for one. Assumes nothing.
use mathlib.Core.Path.{◌≡◌, refl, sym, ap, ◌∙◌}
use Prim.Native.Nat.{ℕ, ◌<◌, zero, suc}
use native.Mathlib.Omega.{arith}
use lib.Dec.{eqb}
use mathlib.Core.Bool.{false}
use borrow.Author.Tests.{ne_eqb}
use Rattle.std.specs.Prelude.{Option, Some, None}
use Rattle.words.specs.Kinds.{kind_number, kind_at}
use Rattle.words.specs.declared.Kind.{Kind}
use Rattle.words.specs.declared.Kind.TheVariants as kind

kind_of_number : (k : Kind) → kind_at (kind_number k) ≡ Some k
unfolding kind_at
kind_of_number kind.Table = refl
kind_of_number kind.Entry = refl
kind_of_number kind.Field = refl
kind_of_number kind.Condition = refl
kind_of_number kind.Unmatching = refl
kind_of_number kind.TableWithCycles = refl
kind_of_number kind.Tree = refl
kind_of_number kind.Test = refl
kind_of_number kind.Names = refl
kind_of_number kind.Nothing = refl
kind_of_number kind.FoundItem = refl
kind_of_number kind.NothingItem = refl
kind_of_number kind.CutItem = refl

-- its number, and 16 of none
number : Option Kind → ℕ
number None = 16
number (Some k) = kind_number k

below_16 : (k : Kind) → kind_number k ≡ 16 → ⊥
below_16 kind.Table e = omega (arith, e)
below_16 kind.Entry e = omega (arith, e)
below_16 kind.Field e = omega (arith, e)
below_16 kind.Condition e = omega (arith, e)
below_16 kind.Unmatching e = omega (arith, e)
below_16 kind.TableWithCycles e = omega (arith, e)
below_16 kind.Tree e = omega (arith, e)
below_16 kind.Test e = omega (arith, e)
below_16 kind.Names e = omega (arith, e)
below_16 kind.Nothing e = omega (arith, e)
below_16 kind.FoundItem e = omega (arith, e)
below_16 kind.NothingItem e = omega (arith, e)
below_16 kind.CutItem e = omega (arith, e)

pub number_at : (n : ℕ) (k : Kind) → n < 16 → kind_at n ≡ Some k → n ≡ kind_number k
unfolding kind_at number
number_at zero k h e = absurd (below_16 k (sym (ap number e)))
number_at (suc zero) k h e = ap number e
number_at (suc (suc zero)) k h e = ap number e
number_at (suc (suc (suc zero))) k h e = ap number e
number_at (suc (suc (suc (suc zero)))) k h e = ap number e
number_at (suc (suc (suc (suc (suc zero))))) k h e = ap number e
number_at (suc (suc (suc (suc (suc (suc zero)))))) k h e = ap number e
number_at (suc (suc (suc (suc (suc (suc (suc zero))))))) k h e = ap number e
number_at (suc (suc (suc (suc (suc (suc (suc (suc zero)))))))) k h e = ap number e
number_at (suc (suc (suc (suc (suc (suc (suc (suc (suc zero))))))))) k h e = ap number e
number_at (suc (suc (suc (suc (suc (suc (suc (suc (suc (suc zero)))))))))) k h e = ap number e
number_at (suc (suc (suc (suc (suc (suc (suc (suc (suc (suc (suc zero))))))))))) k h e = absurd (below_16 k (sym (ap number e)))
number_at (suc (suc (suc (suc (suc (suc (suc (suc (suc (suc (suc (suc zero)))))))))))) k h e = ap number e
number_at (suc (suc (suc (suc (suc (suc (suc (suc (suc (suc (suc (suc (suc zero))))))))))))) k h e = ap number e
number_at (suc (suc (suc (suc (suc (suc (suc (suc (suc (suc (suc (suc (suc (suc zero)))))))))))))) k h e = ap number e
number_at (suc (suc (suc (suc (suc (suc (suc (suc (suc (suc (suc (suc (suc (suc (suc zero))))))))))))))) k h e = absurd (below_16 k (sym (ap number e)))
number_at (suc (suc (suc (suc (suc (suc (suc (suc (suc (suc (suc (suc (suc (suc (suc (suc n)))))))))))))))) k h e = absurd (omega arith)

some_not_none : (k : Kind) → Some k ≡ None → ⊥
unfolding number
some_not_none k e = below_16 k (ap number e)

pub other_number : (n : ℕ) (k : Kind) → kind_at n ≡ None → eqb n (kind_number k) ≡ false
other_number n k e = ne_eqb _ _ (λ t. some_not_none k (sym (kind_of_number k) ∙ ap kind_at (sym t) ∙ e))
