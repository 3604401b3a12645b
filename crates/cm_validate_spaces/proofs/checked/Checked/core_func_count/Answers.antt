use Rattle.cm_validate_spaces.specs.Checked.{spaces_in}
use Rattle.cm_validate_spaces.proofs.SetLaws.{held, number_set}
use Rattle.cm_validate_spaces.proofs.checked.Checked.core_func_count.Goals as goal

pub returns : goal.returns
returns c = held number_set _ _ c.args.self.now.indexed (c.core_func_count.ensures (spaces_in c.args.self.now))
