use Rattle.std.proofs.Common.{◌≡◌, ◌++◌, length, map, drop}
use Rattle.cm_bundle.specs.Fronts.{passed_on}
use Rattle.cm_bundle.specs.Trees.{import_tree, supply_tree}
use Rattle.cm_bundle.proofs.front_items.passed_on.Given as goal

abbrev pub invariant-loop-import : goal.invariant-loop-import
invariant-loop-import l =
    (map supply_tree l.supplies.items ++ map passed_on (map import_tree (drop l.import-index l.imports)) ≡ map passed_on (map import_tree l.imports))
    × (length l.supplies.items ≡ l.import-index)
