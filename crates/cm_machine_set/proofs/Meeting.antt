-- A row that says more is met where one that says less is.
use Rattle.std.proofs.Common.{List, Result, Ok, Err}
use Rattle.cm_types.specs.declared.core_value.CoreValue.{CoreValue}
use Rattle.cm_machine_model.specs.declared.event.Event.{Event}
use Rattle.cm_machine_model.specs.declared.event.Event.TheVariants as event
use Rattle.cm_machine_model.specs.declared.event.Trap.{Trap}
use Rattle.cm_machine_model.specs.State.{State, after_trap}
use Rattle.cm_machine_parts.specs.declared.outcome.Outcome.{Outcome}
use Rattle.cm_machine_parts.specs.Rows.{MeetsRow, event_of}

pub meets_by : (row more : Event → State → Type 0) → ((e : Event) (s : State) → row e s → more e s) → (r : Result Outcome Trap) (values : List CoreValue) (new : State) → MeetsRow row r values new → MeetsRow more r values new
meets_by row more by (Ok o) values new h = by (event_of o values) new h
meets_by row more by (Err t) values new h = by (event.Trapped t) (after_trap new) h
