use Rattle.std.proofs.Common.{◌-◌, arith}
use Rattle.cm_leb.proofs.Powers.{pow_less, pow_five, pow_one}
use Rattle.cm_leb.proofs.reading.+group.Goals as goal

pub returns-then-byte-lt128-clause-small : goal.returns-then-byte-lt128-clause-small
returns-then-byte-lt128-clause-small t c = omega (arith, pow_one c.args.room (omega arith))

pub overflow_mul-result : goal.overflow_mul-result
overflow_mul-result t c = omega (arith, pow_five (c.args.room - 1) (omega arith), c.in_ok-high-in-len1-up.ensures.small)

pub overflow_add-result : goal.overflow_add-result
overflow_add-result t c = omega (arith, pow_five (c.args.room - 1) (omega arith), c.type_inv.bytes 0, c.in_ok-high-in-len1-up.ensures.small)

pub returns-in_ok-high-in-len1-up-clause-small : goal.returns-in_ok-high-in-len1-up-clause-small
returns-in_ok-high-in-len1-up-clause-small t c = omega (arith, pow_less c.args.room (omega arith), c.type_inv.bytes 0, c.in_ok-high-in-len1-up.ensures.small)
