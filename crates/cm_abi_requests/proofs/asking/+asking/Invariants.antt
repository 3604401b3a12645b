use Rattle.std.proofs.Common.{◌≡◌, drop, map}
use Rattle.cm_layout.specs.Layouts.{layout_of, part_of}
use Rattle.cm_layout.specs.Shapes.{parts_from}
use Rattle.cm_types.specs.ValueTrees.{values_of}
use Rattle.cm_abi_model.specs.Parts.{parts_each}
use Rattle.cm_abi_requests.specs.Asking.{AreSmall, ask_by, asking_of, parts_by, parts_by_fields}
use Rattle.cm_abi_requests.proofs.asking.+asking.Given as goal

-- what was asked for, and what is still to be asked for, are all of it
abbrev pub invariant-ask_each-loop-value : goal.invariant-ask_each-loop-value
invariant-ask_each-loop-value l =
    AreSmall l.to.source (asking_of l.to l.asked).tags (parts_each (parts_by (layout_of l.element).shape) (values_of (drop l.value-index l.values)))
    × (ask_by l.to (parts_each (parts_by (layout_of l.element).shape) (values_of (drop l.value-index l.values))) (asking_of l.to l.asked)
    ≡ ask_by l.to (parts_each (parts_by (layout_of l.element).shape) (values_of l.values)) (asking_of l.to l.initial.asked))

abbrev pub invariant-ask_fields-loop-i : goal.invariant-ask_fields-loop-i
invariant-ask_fields-loop-i l =
    AreSmall l.to.source (asking_of l.to l.asked).tags (parts_by_fields (parts_from (map part_of (drop l.i l.parts))) (values_of (drop l.i l.values)))
    × (ask_by l.to (parts_by_fields (parts_from (map part_of (drop l.i l.parts))) (values_of (drop l.i l.values))) (asking_of l.to l.asked)
    ≡ ask_by l.to (parts_by_fields (parts_from (map part_of l.parts)) (values_of l.values)) (asking_of l.to l.initial.asked))
