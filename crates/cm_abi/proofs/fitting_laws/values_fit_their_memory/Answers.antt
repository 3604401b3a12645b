use Rattle.cm_abi.proofs.InsideLaws.{value_inside}
use Rattle.cm_abi.proofs.fitting_laws.values_fit_their_memory.Goals as goal

pub returns : goal.returns
returns c = λ target n g t v k h typed is fits. value_inside target n g is t v k h typed fits
