use Rattle.std.proofs.Common.{◌≡◌, map, take}
use Rattle.cm_types.specs.TypeTrees.{type_of}
use Rattle.cm_types_arena.specs.Arena.{types_in}
use Rattle.cm_types_arena.specs.TypeDefs.{type_at}
use Rattle.cm_types_arena.proofs.building.build_parts.Given as goal

-- those that are made so far are of the places so far
abbrev pub invariant-loop-place : goal.invariant-loop-place
invariant-loop-place l = map type_of l.parts.items ≡ map (type_at (types_in l.entries)) (take l.place-index l.places)
