use Rattle.std.proofs.Common.{◌≤◌, map}
use Rattle.cm_types.specs.Limits.{nodes_of_fields}
use Rattle.cm_types.specs.declared.limits.TheConstants.{MAX_NODES}
use Rattle.cm_types.specs.Types.{Fields}
use Rattle.cm_layout.specs.Layouts.{IsLayingFields, layout_of}
use Rattle.cm_types_arena.specs.Arena.{field_types}
use Rattle.cm_layout_placed.specs.Placed.{AreOf}
use Rattle.cm_layout_placed.proofs.PlacedLaws.{behind}
use Rattle.cm_layout_placed.proofs.nodes.fields_layout.Given as goal

abbrev pub invariant-loop-place : goal.invariant-loop-place
invariant-loop-place l =
    (all : Fields) → nodes_of_fields all ≤ MAX_NODES → AreOf (map layout_of l.layouts) l.places (field_types all)
    → IsLayingFields all (behind l.place-index all) l.builder
