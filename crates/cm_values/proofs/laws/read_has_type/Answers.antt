use Rattle.cm_values.proofs.Typed.{text_typed}
use Rattle.cm_values.proofs.laws.read_has_type.Goals as goal

pub returns : goal.returns
returns c = λ t text v s. text_typed t text v s
