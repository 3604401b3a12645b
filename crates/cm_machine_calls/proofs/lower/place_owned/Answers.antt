use Rattle.std.proofs.Common.{sym, ◌∙◌}
use Rattle.cm_machine_calls.proofs.OwnerLaws.{none_given}
use Rattle.cm_machine_calls.proofs.lower.place_owned.Goals as goal

pub returns-in_default : goal.returns-in_default
returns-in_default c = sym (none_given c.args.instance _ c.loop-leaf.rest.now c.loop-leaf.owners.items c.in_default.ensures.cases) ∙ c.loop-leaf.invariant
