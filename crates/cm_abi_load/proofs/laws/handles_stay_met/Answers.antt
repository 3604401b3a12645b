use Rattle.cm_abi_load.specs.Reading.{read_at}
use Rattle.cm_abi_load.proofs.HandleLemmas.{keeps_at, keeps_elements, keeps_handle, keeps_leaf, keeps_text}
use Rattle.cm_abi_load.proofs.laws.handles_stay_met.Goals as goal

pub returns-clause-value : goal.returns-clause-value
returns-clause-value c = keeps_at

pub returns-clause-leaf : goal.returns-clause-leaf
returns-clause-leaf c = keeps_leaf

pub returns-clause-text : goal.returns-clause-text
returns-clause-text c = keeps_text

pub returns-clause-elements : goal.returns-clause-elements
returns-clause-elements c = λ w sh memory e at n s. keeps_elements (read_at w sh) memory e at n s (λ q z. keeps_at w sh q z)

pub returns-clause-handle : goal.returns-clause-handle
returns-clause-handle c = keeps_handle
