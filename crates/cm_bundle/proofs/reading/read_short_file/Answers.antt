use Rattle.std.proofs.Common.{arith, inr}
use Rattle.cm_bundle.proofs.reading.read_short_file.Goals as goal

pub returns-in-Err-Fault : goal.returns-in-Err-Fault
returns-in-Err-Fault c =
    let given = rw c.in-Err-Fault.field-0-is at c.in-Err-Fault.ensures.inside in
    let read = rw c.in-Err-Fault.field-0-is at c.in-Err-Fault.ensures.read in
    inr (c.in-Err-Fault.fault.left, omega (arith, given), read)
