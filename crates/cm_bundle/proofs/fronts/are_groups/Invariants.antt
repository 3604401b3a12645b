use Rattle.std.proofs.Common.{map, drop}
use Rattle.std.specs.Prelude.{◌↔◌}
use Rattle.std.specs.List.{AllByRecursion}
use Rattle.cm_bundle.specs.Fronts.{IsGroup}
use Rattle.cm_bundle.specs.Trees.{group_tree}
use Rattle.cm_bundle.proofs.fronts.are_groups.Given as goal

abbrev pub invariant-loop-group : goal.invariant-loop-group
invariant-loop-group l =
    AllByRecursion IsGroup (map group_tree (drop l.group-index l.front)) ↔ AllByRecursion IsGroup (map group_tree l.front)
