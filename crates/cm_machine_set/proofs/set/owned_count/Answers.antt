use Rattle.std.proofs.Common.{◌∙◌}
use Rattle.cm_machine_set.proofs.Counts.{owned_are}
use Rattle.cm_machine_set.proofs.set.owned_count.Goals as goal

pub returns : goal.returns
returns c = c.count_owned.ensures ∙ owned_are c.args.handles.now
