use Rattle.cm_validate_entries.proofs.GrowLaws.{no_types, one_type}
use Rattle.cm_validate_entries.proofs.laws.types_after.Goals as goal

pub returns-clause-none : goal.returns-clause-none
returns-clause-none c = no_types

pub returns-clause-one : goal.returns-clause-one
returns-clause-one c = one_type
