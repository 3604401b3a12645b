use Rattle.std.proofs.Common.{length}
use Rattle.cm_validate_spaces.specs.Made.{is_core_func_there}
use Rattle.cm_validate_spaces.specs.Checked.{funcs_in, spaces_in}
use Rattle.cm_validate_spaces.proofs.SetLaws.{core_func_set, held, held_of}
use Rattle.cm_validate_spaces.proofs.checked.Checked.core.Goals as goal

pub returns-clause-is : goal.returns-clause-is
returns-clause-is c = held core_func_set _ _ c.args.self.now.indexed (c.core_func.ensures.is (spaces_in c.args.self.now))

pub returns-clause-there : goal.returns-clause-there
returns-clause-there c = held_of (is_core_func_there (length (funcs_in c.args.self.now))) c.core_func.result c.args.self.now.indexed (c.core_func.ensures.there (spaces_in c.args.self.now))
