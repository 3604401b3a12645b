use Rattle.cm_abi_store.proofs.LayoutLaws.{same_stored}
use Rattle.cm_abi_store.proofs.laws.layouts_store_what_types_do.Goals as goal

pub returns : goal.returns
returns c = λ g t v p k h typed. same_stored g t v p k h typed
