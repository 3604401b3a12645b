use Rattle.cm_validate_canons.proofs.PassingLaws.{pointers_held}
use Rattle.cm_validate_canons.proofs.laws.pointers.Goals as goal

pub returns : goal.returns
returns c = pointers_held
