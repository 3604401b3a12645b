use Rattle.cm_machine_calls.proofs.link.layout_of.Goals as goal

pub returns : goal.returns
returns c = λ l is. (c.types_of-types.ensures l is).layout_is
