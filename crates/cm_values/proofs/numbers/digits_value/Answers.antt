use Rattle.std.proofs.Common.{◌≡◌, sym, ◌∙◌, arith}
use Rattle.cm_values.specs.Words.{read_on}
use Rattle.cm_values.proofs.NumberLaws.{read_end}
use Rattle.cm_values.proofs.numbers.digits_value.Goals as goal

pub returns : goal.returns
returns c =
    let e : read_on c.args.base 0 c.args.digits.now ≡ c.loop-digit.number = c.loop-digit.invariant.same ∙ read_end c.args.base c.loop-digit.number c.args.digits.now c.loop-digit.digit-index c.loop-digit-test.false in
    (omega (arith, e, c.loop-digit.invariant.fits), sym e)
