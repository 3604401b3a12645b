use Rattle.std.proofs.Common.{◌≡◌, ◌≤◌, drop, map}
use Rattle.cm_types.specs.Limits.{nodes_of_cases}
use Rattle.cm_types.specs.declared.limits.TheConstants.{MAX_NODES}
use Rattle.cm_types.specs.TypeTrees.{cases_of}
use Rattle.cm_layout.specs.Layouts.{IsLayingCases, layout_of}
use Rattle.cm_types_arena.specs.Arena.{payload_types}
use Rattle.cm_types_arena.specs.Replaced.{Standing, replaced_cases}
use Rattle.cm_layout_placed.specs.Placed.{AreOf}
use Rattle.cm_layout_placed.proofs.nodes.cases_layout.Given as goal

abbrev pub invariant-loop-case : goal.invariant-loop-case
invariant-loop-case l =
    (l.next ≤ l.case-index)
    × ((s : Standing) → nodes_of_cases (replaced_cases s (cases_of l.row)) ≤ MAX_NODES
    → AreOf (map layout_of l.layouts) l.places (payload_types (replaced_cases s (cases_of l.row)))
    → IsLayingCases (replaced_cases s (cases_of l.row)) (replaced_cases s (cases_of (drop l.case-index l.row))) l.builder
    × (drop l.next (payload_types (replaced_cases s (cases_of l.row))) ≡ payload_types (replaced_cases s (cases_of (drop l.case-index l.row)))))
