-- The core values with which an instance went on last, event by event.
use Rattle.std.proofs.Common.{◌≡◌, ℕ, List, [], ◌∷◌, refl}
use Rattle.cm_types.specs.declared.core_value.CoreValue.{CoreValue}
use Rattle.cm_machine.specs.cm_machine_model.declared.event.Event.{Event}
use Rattle.cm_machine.specs.cm_machine_model.declared.event.Event.TheVariants as event
use Rattle.cm_host.specs.Calls.{resumed_last}

pub one_more : (root : ℕ) (kept : List CoreValue) (e : Event) (es : List Event) → resumed_last root kept (e ∷ es) ≡ resumed_last root (resumed_last root kept (e ∷ [])) es
one_more root kept (event.Resume i values) es = refl
one_more root kept e es = refl
