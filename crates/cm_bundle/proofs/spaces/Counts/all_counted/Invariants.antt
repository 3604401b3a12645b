use Rattle.std.proofs.Common.{◌≡◌, ◌+◌, ◌≤◌, map, drop}
use Rattle.cm_bundle.specs.Spelled.{all_counted, exports_of}
use Rattle.cm_bundle.specs.Trees.{supply_tree}
use Rattle.cm_bundle.proofs.spaces.Counts.all_counted.Given as goal

abbrev pub invariant-loop-supply : goal.invariant-loop-supply
invariant-loop-supply l =
    (all_counted l.counts (exports_of (map supply_tree (drop l.supply-index l.supplies))) ≡ all_counted l.fn.self (exports_of (map supply_tree l.supplies)))
    × (l.counts.functions ≤ l.fn.self.functions + l.supply-index)
    × (l.counts.instances ≤ l.fn.self.instances + l.supply-index)
