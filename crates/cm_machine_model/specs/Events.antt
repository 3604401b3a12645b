-- What events say of a run (this project's own choice).
use Rattle.std.specs.Prelude.{Bool, true, false, List, [], ◌∷◌}
use Rattle.cm_types.specs.declared.core_value.CoreValue.{CoreValue}
use Rattle.cm_types.specs.declared.core_value.CoreValue.TheVariants.{I32}
use Rattle.cm_machine_model.specs.declared.event.Event.{Event}
use Rattle.cm_machine_model.specs.declared.event.Event.TheVariants as event

-- whether a run stops after this event
abbrev pub is_last : Event → Bool
is_last event.Ended = true
is_last (event.Trapped t) = true
is_last event.Done = false
is_last (event.Grown pages) = false
is_last (event.Enter instance func args) = false
is_last (event.Realloc instance func args) = false
is_last (event.Resume instance values) = false
is_last (event.PostReturn instance func args) = false
is_last (event.Dtor instance func rep) = false

-- the core values that an event hands to the instance that acts next
abbrev pub values_in : Event → List CoreValue
values_in (event.Enter instance func args) = args
values_in (event.Realloc instance func args) = args
values_in (event.Resume instance values) = values
values_in (event.PostReturn instance func args) = args
values_in (event.Dtor instance func rep) = I32 rep ∷ []
values_in event.Done = []
values_in (event.Grown pages) = []
values_in (event.Trapped t) = []
values_in event.Ended = []
