use Rattle.cm_machine_laws.proofs.Dangling.{nothing_dangles}
use Rattle.cm_machine_laws.proofs.valid_laws.what_is_borrowed_is_backed.Goals as goal

pub returns : goal.returns
returns c = nothing_dangles
