use Rattle.std.proofs.Common.{ap}
use Rattle.cm_abi_programs.specs.CodedPuts.{puts_in}
use Rattle.cm_abi_programs.proofs.listed_puts.one_put.Goals as goal

pub returns : goal.returns
returns c = ap puts_in c.in_ok-vec.ensures.items
