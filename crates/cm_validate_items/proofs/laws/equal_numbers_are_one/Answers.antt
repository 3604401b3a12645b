use Rattle.cm_validate_items.proofs.SharedLaws.{exports_are_one, imports_are_one}
use Rattle.cm_validate_items.proofs.laws.equal_numbers_are_one.Goals as goal

pub returns-clause-imports : goal.returns-clause-imports
returns-clause-imports c = imports_are_one

pub returns-clause-exports : goal.returns-clause-exports
returns-clause-exports c = exports_are_one
