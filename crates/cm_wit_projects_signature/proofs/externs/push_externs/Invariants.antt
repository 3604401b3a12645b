use Rattle.std.proofs.Common.{length}
use Rattle.cm_types_arena.specs.Places.{types_of}
use Rattle.cm_wit_meanings.specs.Places.{ArePlaced}
use Rattle.cm_wit_projects_signature.proofs.externs.push_externs.Given as goal

abbrev pub invariant-loop-place : goal.invariant-loop-place
invariant-loop-place l = ArePlaced (length (types_of l.types)) l.parts.table.now.meanings.items
