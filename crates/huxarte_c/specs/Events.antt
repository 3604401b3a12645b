-- Events in numbers (this project's own choice).
use Rattle.std.specs.Prelude.{ℕ, List, [], Option, None, Some, length, min}
use Rattle.cm_types.specs.declared.core_value.CoreValue.{CoreValue}
use Rattle.cm_machine_model.specs.Numbers.{trap_number}
use Rattle.cm_machine_model.specs.declared.event.Event.{Event}
use Rattle.cm_machine_model.specs.declared.event.Event.TheVariants as event
use Rattle.huxarte_c.specs.Cores.{placed}
use Rattle.huxarte_c.specs.declared.event.HuxEvent.{HuxEvent}

-- an event that hands core values
abbrev pub event_with : ℕ → ℕ → ℕ → List CoreValue → HuxEvent
event_with kind instance func values = record {
  kind = kind;
  instance = instance;
  func = func;
  number = 0;
  count = min (length values) 16;
  values = placed values;
}

-- an event that hands none
abbrev pub plain_event : ℕ → ℕ → ℕ → ℕ → HuxEvent
plain_event kind instance func number = record {
  kind = kind;
  instance = instance;
  func = func;
  number = number;
  count = 0;
  values = placed [];
}

-- the pages before, or a number that no memory has
abbrev pub grown_number : Option ℕ → ℕ
grown_number None = 4294967295
grown_number (Some pages) = pages

-- an event in numbers
abbrev pub event_in : Event → HuxEvent
event_in event.Done = plain_event 0 0 0 0
event_in (event.Grown pages) = plain_event 1 0 0 (grown_number pages)
event_in (event.Enter instance func args) = event_with 2 instance func args
event_in (event.Realloc instance func args) = event_with 3 instance func args
event_in (event.Resume instance values) = event_with 4 instance 0 values
event_in (event.PostReturn instance func args) = event_with 5 instance func args
event_in (event.Dtor instance func rep) = plain_event 6 instance func rep
event_in (event.Trapped t) = plain_event 7 0 0 (trap_number t)
event_in event.Ended = plain_event 8 0 0 0
