use Rattle.std.proofs.Common.{length}
use Rattle.cm_types_arena.specs.Places.{types_of}
use Rattle.cm_wit_meanings.specs.Places.{ArePlaced}
use Rattle.cm_wit_projects_signature.proofs.items.add_entries.Given as goal

abbrev pub invariant-loop-entry : goal.invariant-loop-entry
invariant-loop-entry l = ArePlaced (length (types_of l.types)) l.lookup.table.now
