use Rattle.cm_binary.proofs.OneAnswer.{want_at_end}
use Rattle.cm_binary.proofs.laws.truncated_stands_at_the_end.Goals as goal

pub returns : goal.returns
returns c = want_at_end
