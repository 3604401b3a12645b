use Rattle.std.proofs.Common.{◌≡◌, map, drop}
use Rattle.std.specs.Prelude.{◌↔◌}
use Rattle.cm_bundle.specs.Trees.{supply_tree}
use Rattle.cm_bundle.proofs.fitting.are_same.Given as goal

abbrev pub invariant-loop-number : goal.invariant-loop-number
invariant-loop-number l =
    (map supply_tree (drop l.number l.one) ≡ map supply_tree (drop l.number l.other)) ↔ (map supply_tree l.one ≡ map supply_tree l.other)
