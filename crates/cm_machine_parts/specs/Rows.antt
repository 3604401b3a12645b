-- What a function promises that makes a move: what it answers and leaves is a row of the rules.
use Rattle.std.specs.Prelude.{List, Result, Ok, Err}
use Rattle.cm_types.specs.declared.core_value.CoreValue.{CoreValue}
use Rattle.cm_machine_model.specs.declared.event.Event.{Event}
use Rattle.cm_machine_model.specs.declared.event.Event.TheVariants as event
use Rattle.cm_machine_model.specs.declared.event.Trap.{Trap}
use Rattle.cm_machine_model.specs.State.{State, after_trap}
use Rattle.cm_machine_parts.specs.declared.outcome.Outcome.{Outcome}
use Rattle.cm_machine_parts.specs.declared.outcome.Outcome.TheVariants as outcome

-- the event of an outcome, with these core values
abbrev pub event_of : Outcome → List CoreValue → Event
event_of outcome.Done values = event.Done
event_of (outcome.Grown pages) values = event.Grown pages
event_of (outcome.Enter instance func) values = event.Enter instance func values
event_of (outcome.Realloc instance func) values = event.Realloc instance func values
event_of (outcome.Resume instance) values = event.Resume instance values
event_of (outcome.PostReturn instance func) values = event.PostReturn instance func values
event_of (outcome.Dtor instance func rep) values = event.Dtor instance func rep
event_of (outcome.Trapped t) values = event.Trapped t
event_of outcome.Ended values = event.Ended

-- The answer and what it leaves are of the row: an outcome with its core values; or a trap, which
-- then still has to empty the stack.
abbrev pub MeetsRow : (Event → State → Type 0) → Result Outcome Trap → List CoreValue → State
    → Type 0
MeetsRow row (Ok o) values new = row (event_of o values) new
MeetsRow row (Err t) values new = row (event.Trapped t) (after_trap new)
