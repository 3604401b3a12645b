use Rattle.std.proofs.Common.{◌≡◌, drop}
use Rattle.cm_abi_model.specs.HandleLeaves.{owned_in}
use Rattle.cm_abi_model.specs.HandleLeaves.{leaves_of}
use Rattle.cm_machine_model.specs.State.{with_places}
use Rattle.cm_machine_parts.proofs.owners.put_owners.Given as goal

abbrev pub invariant-loop-handle : goal.invariant-loop-handle
invariant-loop-handle l =
    with_places l.place (owned_in (leaves_of (drop l.handle-index l.handles))) l.owners.items
    ≡ with_places l.place (owned_in (leaves_of l.handles)) l.fn.owners.items
