use Rattle.cm_binary.proofs.DecodeLaws.{stays}
use Rattle.cm_binary.proofs.laws.first_fault_stays.Goals as goal

pub returns : goal.returns
returns c = λ bytes more at reason fits other f. stays bytes more at reason fits other f
