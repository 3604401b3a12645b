use Rattle.cm_abi_store.proofs.PassedLaws.{is_passed}
use Rattle.cm_abi_store.proofs.laws.layouts_are_passed.Goals as goal

pub returns : goal.returns
returns c = is_passed c.layouts.ensures.laid
