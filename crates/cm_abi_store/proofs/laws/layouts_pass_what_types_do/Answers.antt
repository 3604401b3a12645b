use Rattle.cm_abi_store.proofs.FlatLaws.{same_behind, same_slots}
use Rattle.cm_abi_store.proofs.laws.layouts_pass_what_types_do.Goals as goal

pub returns-clause-slots : goal.returns-clause-slots
returns-clause-slots c = λ g t v s k h typed. same_slots g t v s k h typed

pub returns-clause-behind : goal.returns-clause-behind
returns-clause-behind c = λ g t v k h typed. same_behind g t v k h typed
