use Rattle.cm_abi_model.proofs.SizesAskedFor.{ends_exact}
use Rattle.cm_abi_model.proofs.laws.requests_end_exact.Goals as goal

pub returns : goal.returns
returns c = ends_exact
