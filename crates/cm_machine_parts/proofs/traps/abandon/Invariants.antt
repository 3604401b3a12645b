use Rattle.std.proofs.Common.{◌≡◌, ◌++◌, map, take, drop}
use Rattle.cm_machine_model.specs.State.{place_after_trap}
use Rattle.cm_machine_parts.proofs.traps.abandon.Given as goal

abbrev pub invariant-loop-place : goal.invariant-loop-place
invariant-loop-place l =
    l.place-items ≡ map place_after_trap (take l.place-index l.fn.owners.items) ++ drop l.place-index l.fn.owners.items
