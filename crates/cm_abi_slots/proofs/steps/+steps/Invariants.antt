use Rattle.std.proofs.Common.{◌≡◌, ◌++◌, ◌-◌, drop, map}
use Rattle.cm_layout.specs.Layouts.{layout_of, part_of}
use Rattle.cm_layout.specs.Shapes.{parts_from}
use Rattle.cm_abi_slots.specs.Steps.{repeated, steps_of, steps_of_parts}
use Rattle.cm_abi_slots.proofs.steps.+steps.Given as goal

-- with the steps to come, these are all
abbrev pub invariant-push_each-loop : goal.invariant-push_each-loop
invariant-push_each-loop l =
    let one = steps_of (layout_of l.element).shape in
    l.steps.items ++ repeated (l.count - l.counter) one ≡ l.fn.steps.items ++ repeated l.count one

abbrev pub invariant-push_fields-loop-part : goal.invariant-push_fields-loop-part
invariant-push_fields-loop-part l =
    l.steps.items ++ steps_of_parts (parts_from (map part_of (drop l.part-index l.parts)))
    ≡ l.fn.steps.items ++ steps_of_parts (parts_from (map part_of l.parts))
