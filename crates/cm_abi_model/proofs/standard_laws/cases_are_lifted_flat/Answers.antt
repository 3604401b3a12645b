use Rattle.cm_abi_model.proofs.PassedLaws.{bare_pass, bare_passed, bearing_pass, bearing_passed}
use Rattle.cm_abi_model.proofs.standard_laws.cases_are_lifted_flat.Goals as goal

pub returns-clause-bare : goal.returns-clause-bare
returns-clause-bare c = bare_passed

pub returns-clause-bare_only : goal.returns-clause-bare_only
returns-clause-bare_only c = bare_pass

pub returns-clause-bearing : goal.returns-clause-bearing
returns-clause-bearing c = bearing_passed

pub returns-clause-bearing_only : goal.returns-clause-bearing_only
returns-clause-bearing_only c = bearing_pass
