use Rattle.cm_machine_calls.proofs.GivingLaws.{few_borrows}
use Rattle.cm_machine_calls.proofs.laws.few_borrows.Goals as goal

pub returns : goal.returns
returns c = few_borrows
