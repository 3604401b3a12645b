use Rattle.std.proofs.Common.{◌≡◌, ◌++◌, map, drop}
use Rattle.std.specs.Prelude.{◌↔◌}
use Rattle.std.specs.List.{AllByRecursion, flat_map}
use Rattle.cm_bundle.specs.Fronts.{group_spelled, IsGroup}
use Rattle.cm_bundle.specs.Trees.{group_tree}
use Rattle.cm_bundle.proofs.fronts.write_groups.Given as goal

abbrev pub invariant-loop-group : goal.invariant-loop-group
invariant-loop-group l =
    (l.out.items ++ flat_map group_spelled (map group_tree (drop l.group-index l.front)) ≡ l.fn.out.items ++ flat_map group_spelled (map group_tree l.front))
    × (AllByRecursion IsGroup (map group_tree (drop l.group-index l.front)) ↔ AllByRecursion IsGroup (map group_tree l.front))
