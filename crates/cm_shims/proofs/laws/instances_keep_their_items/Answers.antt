use Rattle.cm_shims.proofs.InstanceLaws.{items_kept}
use Rattle.cm_shims.proofs.laws.instances_keep_their_items.Goals as goal

pub returns : goal.returns
returns c = items_kept
