use Rattle.std.proofs.Common.{arith}
use Rattle.cm_leb.specs.declared.fault.LebFault.TheVariants.{Truncated, TooLong, BadLastBits}
use Rattle.cm_leb.proofs.SignedLaws.{is_found, is_only, is_fault}
use Rattle.cm_leb.proofs.reading.front_s33.Goals as goal

pub returns-clause-found : goal.returns-clause-found
returns-clause-found c = is_found 33 c.args.bytes.now (λ x. (x.0, x.1.now)) c.signed_front.result (λ i. omega (arith, c.type_inv.bytes i)) c.signed_front.ensures.read

pub returns-clause-only : goal.returns-clause-only
returns-clause-only c = λ n rest b. is_only 33 c.args.bytes.now (λ x. (x.0, x.1.now)) c.signed_front.result c.signed_front.ensures.read n rest b

pub returns-clause-truncated : goal.returns-clause-truncated
returns-clause-truncated c = is_fault 33 c.args.bytes.now (λ x. (x.0, x.1.now)) c.signed_front.result Truncated (λ i. omega (arith, c.type_inv.bytes i)) c.signed_front.ensures.read

pub returns-clause-too_long : goal.returns-clause-too_long
returns-clause-too_long c = is_fault 33 c.args.bytes.now (λ x. (x.0, x.1.now)) c.signed_front.result TooLong (λ i. omega (arith, c.type_inv.bytes i)) c.signed_front.ensures.read

pub returns-clause-bad_last_bits : goal.returns-clause-bad_last_bits
returns-clause-bad_last_bits c = is_fault 33 c.args.bytes.now (λ x. (x.0, x.1.now)) c.signed_front.result BadLastBits (λ i. omega (arith, c.type_inv.bytes i)) c.signed_front.ensures.read
