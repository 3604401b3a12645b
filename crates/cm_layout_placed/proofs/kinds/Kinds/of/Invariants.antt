use Rattle.std.proofs.Common.{◌≡◌, map, take}
use Rattle.cm_types_arena.specs.Places.{types_of}
use Rattle.cm_layout_placed.specs.Placed.{first_kinds}
use Rattle.cm_layout_placed.proofs.kinds.Kinds.of.Given as goal

abbrev pub invariant-loop-place : goal.invariant-loop-place
invariant-loop-place l = map (λ v. v.items) l.by_place.items ≡ take l.place (map first_kinds (types_of l.types))
