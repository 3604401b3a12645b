use Rattle.cm_host_values.proofs.LeafLaws.{no_call_leaves}
use Rattle.cm_host_values.proofs.laws.what_a_host_sees_has_no_handles.Goals as goal

pub returns : goal.returns
returns c = no_call_leaves
