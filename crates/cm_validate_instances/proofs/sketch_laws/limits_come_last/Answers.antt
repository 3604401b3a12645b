use Rattle.cm_validate_instances.proofs.DefinitionFaultLaws.{all_stay, limits_last}
use Rattle.cm_validate_instances.proofs.sketch_laws.limits_come_last.Goals as goal

pub returns-clause-others : goal.returns-clause-others
returns-clause-others c = all_stay

pub returns-clause-least : goal.returns-clause-least
returns-clause-least c = limits_last
