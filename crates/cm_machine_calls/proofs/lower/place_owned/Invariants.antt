use Rattle.std.proofs.Common.{◌≡◌, drop}
use Rattle.cm_abi_model.specs.HandleLeaves.{leaves_of}
use Rattle.cm_machine_model.specs.Step.{owners_given}
use Rattle.cm_machine_calls.proofs.lower.place_owned.Given as goal

abbrev pub invariant-loop-leaf : goal.invariant-loop-leaf
invariant-loop-leaf l =
    owners_given l.instance (leaves_of (drop l.leaf-index l.handles)) l.rest l.owners.items ≡ owners_given l.instance (leaves_of l.handles) l.numbers l.fn.owners.items
