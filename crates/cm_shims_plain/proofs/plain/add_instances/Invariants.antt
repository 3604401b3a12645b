use Rattle.std.proofs.Common.{◌≡◌, drop, map}
use Rattle.cm_shims_plain.specs.Trees.{shim_tree, wide_instance_tree}
use Rattle.cm_shims_plain.specs.Plain.{instance_step, item_fault}
use Rattle.cm_shims_plain.specs.PlainViews.{instances_of}
use Rattle.cm_shims_plain.specs.Steps.{each_numbered}
use Rattle.cm_shims_plain.proofs.plain.add_instances.Given as goal

abbrev pub invariant-loop-item : goal.invariant-loop-item
invariant-loop-item l =
    each_numbered item_fault (instance_step (map shim_tree l.shims)) l.item (instances_of l.done) (map wide_instance_tree (drop l.item l.instances)) ≡ each_numbered item_fault (instance_step (map shim_tree l.shims)) 0 (instances_of l.fn.start) (map wide_instance_tree l.instances)
