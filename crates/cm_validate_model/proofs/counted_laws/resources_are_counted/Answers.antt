use Rattle.cm_validate_model.proofs.SpaceLaws.{before_all, whole}
use Rattle.cm_validate_model.proofs.counted_laws.resources_are_counted.Goals as goal

pub returns-clause-before : goal.returns-clause-before
returns-clause-before c = before_all

pub returns-clause-whole : goal.returns-clause-whole
returns-clause-whole c = whole
