use Rattle.std.proofs.Common.{◌≡◌, ◌++◌, ◌-◌, length, map, drop}
use Rattle.cm_bundle.specs.Room.{HasRoom}
use Rattle.cm_bundle.specs.Spelled.{supplies_spelled}
use Rattle.cm_bundle.specs.Trees.{supply_tree}
use Rattle.cm_bundle.proofs.sections.write_supplies.Given as goal

abbrev pub invariant-loop-supply : goal.invariant-loop-supply
invariant-loop-supply l =
    (l.out.items ++ supplies_spelled l.lead l.tail l.counts (map supply_tree (drop l.supply-index l.supplies)) ≡ l.fn.out.items ++ supplies_spelled l.lead l.tail l.fn.counts (map supply_tree l.supplies))
    × HasRoom l.counts (length l.supplies - l.supply-index)
