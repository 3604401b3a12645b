use Rattle.std.proofs.Common.{◌≡◌, drop, map}
use Rattle.cm_binary_model.specs.Trees.{instance_tree}
use Rattle.cm_validate_model.specs.Items.{instance_item}
use Rattle.cm_validate_items.specs.Numbers.{numbers_after_all}
use Rattle.cm_validate_items.specs.Shared.{numbers_in}
use Rattle.cm_validate_items.proofs.pass.add_instances.Given as goal

-- those so far, and then what is left, make all
abbrev pub invariant-loop : goal.invariant-loop
invariant-loop l =
    numbers_after_all (numbers_in l.shared) (map instance_item (map instance_tree (drop l.index l.instances)))
    ≡ numbers_after_all (numbers_in l.fn.shared) (map instance_item (map instance_tree l.instances))
