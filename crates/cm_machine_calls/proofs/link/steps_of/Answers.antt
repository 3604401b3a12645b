use Rattle.std.proofs.Common.{sym, subst, List}
use Rattle.cm_abi_model.specs.Ways.{way_of}
use Rattle.cm_abi_slots.specs.Steps.{AreStepsOf}
use Rattle.cm_abi_slots.specs.declared.steps.SlotStep.{SlotStep}
use Rattle.cm_machine_model.specs.Plan.{types_of}
use Rattle.cm_machine_calls.proofs.link.steps_of.Goals as goal

pub returns-in-Some : goal.returns-in-Some
returns-in-Some c = λ l is.
    subst (λ (steps : List SlotStep). AreStepsOf (way_of c.args.way) (types_of l (way_of c.args.way)) steps) (sym c.as_slice.ensures.value) (rw c.in-Some.is at (c.types_of-types.ensures l is).steps_are)
