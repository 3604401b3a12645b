use Rattle.cm_validate_spaces.specs.Checked.{funcs_in, spaces_in}
use Rattle.cm_validate_spaces.proofs.SetLaws.{held}
use Rattle.cm_validate_functions.specs.Lifts.{lifts_of}
use Rattle.cm_validate_functions.proofs.HeldLaws.{lift_set}
use Rattle.cm_validate_functions.proofs.functions.Functions.lifted.Goals as goal

pub returns : goal.returns
returns c = let checked = c.args.self.now.checked.now in held lift_set _ _ c.args.self.now.kept (c.lifting.ensures (funcs_in checked) (lifts_of (spaces_in checked)))
