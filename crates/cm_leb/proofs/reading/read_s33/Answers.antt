use Rattle.std.proofs.Common.{arith, ◌∙◌}
use Rattle.cm_leb.specs.declared.fault.LebFault.TheVariants.{Truncated, TooLong, BadLastBits}
use Rattle.cm_leb.proofs.SignedLaws.{from_is_found, stands_from, from_is_fault}
use Rattle.cm_leb.proofs.reading.read_s33.Goals as goal

pub returns-clause-found : goal.returns-clause-found
returns-clause-found c = from_is_found 33 c.args.bytes.now c.args.at c.signed_from.result (λ i. omega (arith, c.type_inv.bytes i)) c.signed_from.ensures

pub returns-clause-only : goal.returns-clause-only
returns-clause-only c = λ n end s. c.signed_from.ensures ∙ stands_from 33 c.args.bytes.now c.args.at n end s

pub returns-clause-truncated : goal.returns-clause-truncated
returns-clause-truncated c = from_is_fault 33 c.args.bytes.now c.args.at c.signed_from.result Truncated (λ i. omega (arith, c.type_inv.bytes i)) c.signed_from.ensures

pub returns-clause-too_long : goal.returns-clause-too_long
returns-clause-too_long c = from_is_fault 33 c.args.bytes.now c.args.at c.signed_from.result TooLong (λ i. omega (arith, c.type_inv.bytes i)) c.signed_from.ensures

pub returns-clause-bad_last_bits : goal.returns-clause-bad_last_bits
returns-clause-bad_last_bits c = from_is_fault 33 c.args.bytes.now c.args.at c.signed_from.result BadLastBits (λ i. omega (arith, c.type_inv.bytes i)) c.signed_from.ensures
