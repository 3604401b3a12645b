use Rattle.std.proofs.Common.{◌≡◌, map, take}
use Rattle.cm_layout.specs.Shapes.{layout_at}
use Rattle.cm_types_arena.specs.Places.{types_of}
use Rattle.cm_layout_placed.specs.Placed.{layouts_in}
use Rattle.cm_layout_placed.proofs.layouts.Layouts.extend.Given as goal

abbrev pub invariant-loop-place : goal.invariant-loop-place
invariant-loop-place l = layouts_in l.self ≡ take l.place (map layout_at (types_of l.types))
