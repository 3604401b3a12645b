use Rattle.cm_validate_instances.proofs.ItemFaultLaws.{names_before, names_told}
use Rattle.cm_validate_instances.proofs.name_laws.names_are_sketched.Goals as goal

pub returns-clause-least : goal.returns-clause-least
returns-clause-least c = names_told c.least_of_both.ensures

pub returns-clause-before : goal.returns-clause-before
returns-clause-before c = names_before
