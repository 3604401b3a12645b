use Rattle.cm_validate_instances.proofs.BrokenLaws.{none_first, some_first}
use Rattle.cm_validate_instances.proofs.declaration_laws.first_reasons.Goals as goal

pub returns-clause-none : goal.returns-clause-none
returns-clause-none c = none_first

pub returns-clause-some : goal.returns-clause-some
returns-clause-some c = some_first
