use Rattle.cm_abi_copy.proofs.SizeLaws.{call_sizes, value_sizes}
use Rattle.cm_abi_copy.proofs.laws.records_tell_sizes.Goals as goal

pub returns-clause-value : goal.returns-clause-value
returns-clause-value c = value_sizes

pub returns-clause-call : goal.returns-clause-call
returns-clause-call c = call_sizes
