-- Laws of what Rows defines, for this crate and those above it.
use Rattle.std.proofs.Common.{Result, List, Ok, Err}
use Rattle.cm_machine_model.specs.State.{State, after_trap}
use Rattle.cm_machine_model.specs.declared.event.Event.{Event}
use Rattle.cm_machine_model.specs.declared.event.Event.TheVariants as event
use Rattle.cm_machine_model.specs.declared.event.Trap.{Trap}
use Rattle.cm_machine_parts.specs.Rows.{MeetsRow, event_of}
use Rattle.cm_machine_parts.specs.declared.outcome.Outcome.{Outcome}
use Rattle.cm_types.specs.declared.core_value.CoreValue.{CoreValue}

-- a row that is another's too
pub meets_by : (Q R : Event → State → Type 0) (result : Result Outcome Trap) (values : List CoreValue) (new : State) → ((e : Event) (x : State) → Q e x → R e x) → MeetsRow Q result values new → MeetsRow R result values new
meets_by Q R (Ok o) values new step row = step (event_of o values) new row
meets_by Q R (Err t) values new step row = step (event.Trapped t) (after_trap new) row
