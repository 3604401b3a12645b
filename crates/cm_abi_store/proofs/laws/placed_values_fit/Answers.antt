use Rattle.cm_abi_store.proofs.FittingLaws.{value_fits}
use Rattle.cm_abi_store.proofs.laws.placed_values_fit.Goals as goal

pub returns : goal.returns
returns c = λ target n g t v k h typed is placed parts handles. value_fits target n g is t v k h typed placed parts handles
