use Rattle.std.proofs.Common.{ap}
use Rattle.cm_abi_programs.specs.Checks.{one_check}
use Rattle.cm_abi_programs.specs.Coded.{checks_in}
use Rattle.cm_abi_programs.proofs.CheckForms.{seen_List}
use Rattle.cm_abi_programs.proofs.ShapeLemmas.{becomes}
use Rattle.cm_abi_programs.proofs.listed_checks.list_checks.Goals as goal

pub returns : goal.returns
returns c = becomes checks_in c.one_check.result _ _ (ap one_check (seen_List 0 c.args.element c.args.checks)) c.one_check.ensures
