use Rattle.cm_validate_instances.proofs.SketchLaws.{borrow_told, func_def_told, sorts_told, value_def_told}
use Rattle.cm_validate_instances.proofs.sketch_laws.definitions_are_sketched.Goals as goal

pub returns-clause-sorts : goal.returns-clause-sorts
returns-clause-sorts c = sorts_told

pub returns-clause-borrow : goal.returns-clause-borrow
returns-clause-borrow c = borrow_told

pub returns-clause-value : goal.returns-clause-value
returns-clause-value c = value_def_told

pub returns-clause-func : goal.returns-clause-func
returns-clause-func c = func_def_told
