use Rattle.std.proofs.Common.{◌≡◌, ◌+◌, drop, map}
use Rattle.cm_layout.specs.Layouts.{layout_of, part_of}
use Rattle.cm_layout.specs.Shapes.{parts_from}
use Rattle.cm_types.specs.ValueTrees.{values_of}
use Rattle.cm_abi_model.specs.Parts.{parts_each}
use Rattle.cm_abi_requests.specs.Asking.{parts_by, parts_by_fields}
use Rattle.cm_host_values.specs.Content.{content_in}
use Rattle.cm_host_values.proofs.content.+content.Given as goal

-- what was taken so far is the content of all values without that of those that are left
abbrev pub invariant-left_after_each-loop-value : goal.invariant-left_after_each-loop-value
invariant-left_after_each-loop-value l =
    content_in (parts_each (parts_by (layout_of l.element).shape) (values_of l.values)) + l.left
    ≡ content_in (parts_each (parts_by (layout_of l.element).shape) (values_of (drop l.value-index l.values))) + l.initial.left

abbrev pub invariant-left_after_fields-loop-i : goal.invariant-left_after_fields-loop-i
invariant-left_after_fields-loop-i l =
    content_in (parts_by_fields (parts_from (map part_of l.row)) (values_of l.values)) + l.left
    ≡ content_in (parts_by_fields (parts_from (map part_of (drop l.i l.row))) (values_of (drop l.i l.values))) + l.initial.left
