use Rattle.cm_machine_set.proofs.Kept.{kept_of}
use Rattle.cm_machine_set.proofs.set.what_is_kept.Goals as goal

pub returns : goal.returns
returns c = kept_of c.args.state.now.passing c.has_value-value.ensures.order
