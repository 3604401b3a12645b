use Rattle.cm_abi_model.proofs.StoredRegions.{call_inside}
use Rattle.cm_abi_model.proofs.laws.what_is_stored_lies_in_regions.Goals as goal

pub returns : goal.returns
returns c = call_inside
