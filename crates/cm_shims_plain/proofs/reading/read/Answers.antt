use Rattle.std.proofs.Common.{arith}
use Rattle.cm_shims_plain.proofs.ReadLaws.{is_right, is_only}
use Rattle.cm_shims_plain.proofs.reading.read.Goals as goal

pub returns-clause-right : goal.returns-clause-right
returns-clause-right c = is_right c.args.bytes.now c.read_component.result (λ i. omega (arith, c.type_inv.bytes i)) c.read_component.ensures

pub returns-clause-only : goal.returns-clause-only
returns-clause-only c = is_only c.args.bytes.now c.read_component.result c.read_component.ensures
