use Rattle.text.proofs.Lining.{Begins}
use Rattle.numbers.specs.Whole.{on_side}
use Rattle.numbers.specs.Decimals.{number_text}
use Rattle.numbers.proofs.Writing.{number_line}
use Rattle.numbers.proofs.Form.make_line.Goals as goal

pub returns : goal.returns
returns c =
    let b : Begins 28 28 c.put_fraction.new.line (number_text c.args.self.fraction (on_side c.args.side.below c.args.side.size)) c.put_fraction.result =
    number_line c.args.self.fraction _ _ c.told-line c.args.self.few c.requires c.distance-steps.ensures c.put_sign-first.ensures c.put_decimal-point.ensures c.put_fraction.ensures in
    record { text = b.text_is; short = b.short }
