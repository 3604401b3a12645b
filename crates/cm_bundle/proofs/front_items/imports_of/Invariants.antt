use Rattle.std.proofs.Common.{◌≡◌, ◌++◌, ◌*◌, ◌^◌, ◌≤◌, length, map, drop}
use Rattle.cm_bundle.specs.Fronts.{imports_of}
use Rattle.cm_bundle.specs.Trees.{group_tree, import_tree}
use Rattle.cm_bundle.proofs.front_items.imports_of.Given as goal

abbrev pub invariant-loop-group : goal.invariant-loop-group
invariant-loop-group l =
    (map import_tree l.imports.items ++ imports_of (map group_tree (drop l.group-index l.front)) ≡ imports_of (map group_tree l.front))
    × (length l.imports.items ≤ l.group-index * 2 ^ 32)
