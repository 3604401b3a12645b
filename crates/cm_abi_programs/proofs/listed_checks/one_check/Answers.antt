use Rattle.std.proofs.Common.{ap}
use Rattle.cm_abi_programs.specs.Coded.{checks_in}
use Rattle.cm_abi_programs.proofs.listed_checks.one_check.Goals as goal

pub returns : goal.returns
returns c = ap checks_in c.in_ok-vec.ensures.items
