use Rattle.cm_validate_spaces.specs.Checked.{spaces_in}
use Rattle.cm_validate_spaces.proofs.SetLaws.{exports_set, held, imports_set, test_set}
use Rattle.cm_validate_spaces.proofs.checked.Checked.into_externs.Goals as goal

pub returns-clause-imports : goal.returns-clause-imports
returns-clause-imports c = held imports_set _ _ c.args.self.indexed (c.into_externs.ensures.imports (spaces_in c.args.self))

pub returns-clause-exports : goal.returns-clause-exports
returns-clause-exports c = held exports_set _ _ c.args.self.indexed (c.into_externs.ensures.exports (spaces_in c.args.self))

pub returns-clause-imports_there : goal.returns-clause-imports_there
returns-clause-imports_there c = held test_set _ _ c.args.self.indexed (c.into_externs.ensures.imports_there (spaces_in c.args.self))

pub returns-clause-exports_there : goal.returns-clause-exports_there
returns-clause-exports_there c = held test_set _ _ c.args.self.indexed (c.into_externs.ensures.exports_there (spaces_in c.args.self))
