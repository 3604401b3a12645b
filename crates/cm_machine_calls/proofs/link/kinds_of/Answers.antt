use Rattle.std.proofs.Common.{◌∙◌}
use Rattle.cm_machine_calls.proofs.link.kinds_of.Goals as goal

pub returns : goal.returns
returns c = λ l is. c.as_slice.ensures.value ∙ (c.types_of-types.ensures l is).kinds_are
