use Rattle.cm_validate_spaces.specs.Checked.{spaces_in}
use Rattle.cm_validate_spaces.proofs.SetLaws.{held, resource_set}
use Rattle.cm_validate_spaces.proofs.checked.Checked.resource.Goals as goal

pub returns : goal.returns
returns c = held resource_set _ _ c.args.self.now.indexed (c.resource.ensures (spaces_in c.args.self.now))
