use Rattle.cm_binary.proofs.OneAnswer.{one_answer}
use Rattle.cm_binary.proofs.laws.files_are_told_apart.Goals as goal

pub returns : goal.returns
returns c = one_answer
