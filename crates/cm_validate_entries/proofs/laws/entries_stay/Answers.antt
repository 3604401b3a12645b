use Rattle.cm_validate_entries.proofs.GrowLaws.{component_grows, types_grow}
use Rattle.cm_validate_entries.proofs.laws.entries_stay.Goals as goal

pub returns-clause-component : goal.returns-clause-component
returns-clause-component c = component_grows

pub returns-clause-types : goal.returns-clause-types
returns-clause-types c = types_grow
