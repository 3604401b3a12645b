use Rattle.std.proofs.Common.{◌≡◌, map, take}
use Rattle.cm_layout.specs.Layouts.{layout_of}
use Rattle.cm_layout.specs.Shapes.{layout_at}
use Rattle.cm_types_arena.specs.Places.{types_of}
use Rattle.cm_layout_placed.specs.Placed.{types_by}
use Rattle.cm_layout_placed.proofs.layouts.Layouts.of_replaced.Given as goal

abbrev pub invariant-loop-place : goal.invariant-loop-place
invariant-loop-place g l =
    map layout_of l.by_place.items ≡ take l.place (map layout_at (types_by (g.R.Replacement.replacement l.by) (types_of l.types)))
