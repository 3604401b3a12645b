use Rattle.std.proofs.Common.{arith, inr}
use Rattle.cm_binary_grammar.specs.declared.fault.End.TheVariants as end
use Rattle.cm_binary_forms.specs.declared.fault.DecodeReason.TheVariants.{Truncated}
use Rattle.cm_binary_forms.proofs.LawfulFile.{file_lawful}
use Rattle.cm_binary.proofs.File.{spelled_within}
use Rattle.cm_binary.proofs.PartPasses.{file_holds}
use Rattle.cm_binary.proofs.decoding.read_component.Goals as goal

pub component_within_limits-requires-clause-limits : goal.component_within_limits-requires-clause-limits
component_within_limits-requires-clause-limits c = spelled_within _ c.args.bytes.now (file_lawful.takes (end.Cut Truncated) c.args.bytes.now _ (λ i. omega (arith, c.type_inv.bytes i)) c.in-Ok.ensures.read)

pub component_within_limits-requires-clause-parts : goal.component_within_limits-requires-clause-parts
component_within_limits-requires-clause-parts c = file_holds _ c.args.bytes.now (file_lawful.takes (end.Cut Truncated) c.args.bytes.now _ (λ i. omega (arith, c.type_inv.bytes i)) c.in-Ok.ensures.read)

pub returns-in-Err-Fault : goal.returns-in-Err-Fault
returns-in-Err-Fault c =
    let given = rw c.in-Err-Fault.field-0-is at c.in-Err-Fault.ensures.inside in
    let read = rw c.in-Err-Fault.field-0-is at c.in-Err-Fault.ensures.read in
    inr (c.in-Err-Fault.fault.left, omega (arith, given), read)
