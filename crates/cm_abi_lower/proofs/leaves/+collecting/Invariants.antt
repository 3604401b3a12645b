use Rattle.std.proofs.Common.{◌≡◌, ◌++◌, drop, map}
use Rattle.cm_layout.specs.Layouts.{layout_of, part_of}
use Rattle.cm_layout.specs.Shapes.{parts_from}
use Rattle.cm_types.specs.ValueTrees.{values_of}
use Rattle.cm_abi_model.specs.Receives.{leaves_each}
use Rattle.cm_abi_lower.specs.Leaves.{leaves_by, leaves_by_fields}
use Rattle.cm_abi_model.specs.HandleLeaves.{leaves_of}
use Rattle.cm_abi_lower.proofs.leaves.+collecting.Given as goal

-- the handles so far, and those of what is left, are all of them
abbrev pub invariant-collect_each-loop-value : goal.invariant-collect_each-loop-value
invariant-collect_each-loop-value l =
    leaves_of l.leaves.items ++ leaves_each (leaves_by (layout_of l.element).shape) (values_of (drop l.value-index l.values))
    ≡ leaves_of l.initial.leaves.items ++ leaves_each (leaves_by (layout_of l.element).shape) (values_of l.values)

abbrev pub invariant-collect_fields-loop-i : goal.invariant-collect_fields-loop-i
invariant-collect_fields-loop-i l =
    leaves_of l.leaves.items ++ leaves_by_fields (parts_from (map part_of (drop l.i l.parts))) (values_of (drop l.i l.values))
    ≡ leaves_of l.initial.leaves.items ++ leaves_by_fields (parts_from (map part_of l.parts)) (values_of l.values)
