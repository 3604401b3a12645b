use Rattle.std.proofs.Common.{arith}
use Rattle.cm_bundle.proofs.ReadLaws.{is_bundle, is_spelled, is_only, is_fault, is_first}
use Rattle.cm_bundle.proofs.reading.read.Goals as goal

pub returns-clause-bundle : goal.returns-clause-bundle
returns-clause-bundle c = is_bundle c.args.bytes.now c.read_short_file.result (λ i. omega (arith, c.type_inv.bytes i)) (omega arith) c.read_short_file.ensures

pub returns-clause-spelled : goal.returns-clause-spelled
returns-clause-spelled c = is_spelled c.args.bytes.now c.read_short_file.result (λ i. omega (arith, c.type_inv.bytes i)) (omega arith) c.read_short_file.ensures

pub returns-clause-only : goal.returns-clause-only
returns-clause-only c = is_only c.args.bytes.now c.read_short_file.result c.read_short_file.ensures

pub returns-clause-fault : goal.returns-clause-fault
returns-clause-fault c = is_fault c.args.bytes.now c.read_short_file.result (λ i. omega (arith, c.type_inv.bytes i)) (omega arith) c.read_short_file.ensures

pub returns-clause-first : goal.returns-clause-first
returns-clause-first c = is_first c.args.bytes.now c.read_short_file.result (omega arith) c.read_short_file.ensures
