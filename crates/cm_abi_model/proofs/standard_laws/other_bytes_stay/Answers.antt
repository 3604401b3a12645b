use Rattle.cm_abi_model.proofs.FrameLaws.{around_stays, length_stays, others_stay, padding_stays}
use Rattle.cm_abi_model.proofs.standard_laws.other_bytes_stay.Goals as goal

pub returns-clause-length : goal.returns-clause-length
returns-clause-length c = length_stays

pub returns-clause-values : goal.returns-clause-values
returns-clause-values c = others_stay

pub returns-clause-numbers : goal.returns-clause-numbers
returns-clause-numbers c = around_stays

pub returns-clause-padding : goal.returns-clause-padding
returns-clause-padding c = padding_stays
