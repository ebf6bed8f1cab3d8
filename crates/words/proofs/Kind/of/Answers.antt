use mathlib.Core.Path.{◌≡◌, sym, ap, ◌∙◌}
use native.Mathlib.Omega.{arith}
use Rattle.words.specs.Kinds.{kind_at}
use Rattle.words.proofs.Parts.{part_lt}
use Rattle.words.proofs.Kind.of.Goals as goal

pub returns-in-0 : goal.returns-in-0
unfolding kind_at
returns-in-0 c = ap kind_at (sym c.in-0.is ∙ c.part-kind.ensures)

pub returns-in-1 : goal.returns-in-1
unfolding kind_at
returns-in-1 c = ap kind_at (sym c.in-1.is ∙ c.part-kind.ensures)

pub returns-in-2 : goal.returns-in-2
unfolding kind_at
returns-in-2 c = ap kind_at (sym c.in-2.is ∙ c.part-kind.ensures)

pub returns-in-3 : goal.returns-in-3
unfolding kind_at
returns-in-3 c = ap kind_at (sym c.in-3.is ∙ c.part-kind.ensures)

pub returns-in-4 : goal.returns-in-4
unfolding kind_at
returns-in-4 c = ap kind_at (sym c.in-4.is ∙ c.part-kind.ensures)

pub returns-in-5 : goal.returns-in-5
unfolding kind_at
returns-in-5 c = ap kind_at (sym c.in-5.is ∙ c.part-kind.ensures)

pub returns-in-6 : goal.returns-in-6
unfolding kind_at
returns-in-6 c = ap kind_at (sym c.in-6.is ∙ c.part-kind.ensures)

pub returns-in-7 : goal.returns-in-7
unfolding kind_at
returns-in-7 c = ap kind_at (sym c.in-7.is ∙ c.part-kind.ensures)

pub returns-in-8 : goal.returns-in-8
unfolding kind_at
returns-in-8 c = ap kind_at (sym c.in-8.is ∙ c.part-kind.ensures)

pub returns-in-9 : goal.returns-in-9
unfolding kind_at
returns-in-9 c = ap kind_at (sym c.in-9.is ∙ c.part-kind.ensures)

pub returns-in-10 : goal.returns-in-10
unfolding kind_at
returns-in-10 c = ap kind_at (sym c.in-10.is ∙ c.part-kind.ensures)

pub returns-in-11 : goal.returns-in-11
unfolding kind_at
returns-in-11 c = ap kind_at (sym c.in-11.is ∙ c.part-kind.ensures)

pub returns-in-12 : goal.returns-in-12
unfolding kind_at
returns-in-12 c = ap kind_at (sym c.in-12.is ∙ c.part-kind.ensures)

pub returns-in-13 : goal.returns-in-13
unfolding kind_at
returns-in-13 c = ap kind_at (sym c.in-13.is ∙ c.part-kind.ensures)

pub returns-in-14 : goal.returns-in-14
unfolding kind_at
returns-in-14 c = ap kind_at (sym c.in-14.is ∙ c.part-kind.ensures)

pub returns-in-15-to-4294967295 : goal.returns-in-15-to-4294967295
unfolding kind_at
returns-in-15-to-4294967295 c =
    let e : c.part-kind.result ≡ 15 = omega (arith, c.part-kind.ensures, part_lt c.args.w 28 4) in
    ap kind_at (sym e ∙ c.part-kind.ensures)
