use Rattle.std.proofs.Common.{arith}
use Rattle.cm_binary.proofs.DecodeLaws.{is_found, is_only, is_fault, is_first}
use Rattle.cm_binary.proofs.decoding.decode.Goals as goal

pub returns-clause-found : goal.returns-clause-found
returns-clause-found c = is_found c.args.bytes.now c.read_component.result (λ i. omega (arith, c.type_inv.bytes i)) c.read_component.ensures

pub returns-clause-only : goal.returns-clause-only
returns-clause-only c = is_only c.args.bytes.now c.read_component.result c.read_component.ensures

pub returns-clause-fault : goal.returns-clause-fault
returns-clause-fault c = is_fault c.args.bytes.now c.read_component.result (λ i. omega (arith, c.type_inv.bytes i)) c.read_component.ensures

pub returns-clause-first : goal.returns-clause-first
returns-clause-first c = is_first c.args.bytes.now c.read_component.result c.read_component.ensures
