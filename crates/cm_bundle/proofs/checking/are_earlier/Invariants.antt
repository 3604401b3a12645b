use Rattle.std.proofs.Common.{map, drop}
use Rattle.std.specs.Prelude.{◌↔◌}
use Rattle.std.specs.List.{AllByRecursion}
use Rattle.cm_bundle.specs.Spelled.{IsSupply}
use Rattle.cm_bundle.specs.Trees.{supply_tree}
use Rattle.cm_bundle.proofs.checking.are_earlier.Given as goal

abbrev pub invariant-loop-supply : goal.invariant-loop-supply
invariant-loop-supply l =
    AllByRecursion (IsSupply l.parts) (map supply_tree (drop l.supply-index l.supplies)) ↔ AllByRecursion (IsSupply l.parts) (map supply_tree l.supplies)
