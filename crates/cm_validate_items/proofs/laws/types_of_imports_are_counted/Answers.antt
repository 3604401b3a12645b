use Rattle.cm_validate_items.proofs.SharedLaws.{imports_counted}
use Rattle.cm_validate_items.proofs.laws.types_of_imports_are_counted.Goals as goal

pub returns : goal.returns
returns c = imports_counted c.resources_are_counted.ensures.whole
