use Rattle.std.specs.List.{flat_map}
use Rattle.cm_binary_model.specs.Trees.{core_instance_tree}
use Rattle.cm_lemmas.proofs.Lists.{Makes}
use Rattle.huxarte_c_components.specs.Plans.{instance_parts, part_tree}
use Rattle.huxarte_c_components.proofs.planned.add_instances.Given as goal

abbrev pub invariant-loop-instance : goal.invariant-loop-instance
invariant-loop-instance l =
    Makes core_instance_tree (λ i. flat_map instance_parts) part_tree l.instances l.instance-index l.initial.parts.items l.parts.items
