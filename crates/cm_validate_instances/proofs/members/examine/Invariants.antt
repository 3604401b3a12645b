use Rattle.std.proofs.Common.{◌≡◌, ◌++◌, map, drop}
use Rattle.std.specs.List.{flat_map}
use Rattle.cm_types_arena.specs.Places.{funcs_of, types_of}
use Rattle.cm_validate_model.specs.Reasons.{least, lesser}
use Rattle.cm_validate_model.specs.Rules.{member_broken}
use Rattle.cm_validate_model.specs.Spaces.{Spaces}
use Rattle.cm_validate_instances.specs.ItemSketches.{sketch_named}
use Rattle.cm_validate_instances.specs.Members.{Stand, export_sketches}
use Rattle.cm_validate_instances.proofs.members.examine.Given as goal
use Rattle.cm_validate_model.proofs.FaultLaws.{rest_fault}

-- the lesser of what was met and what is to come is the least of all; the sketches so far and those
-- to come are all
abbrev pub invariant-loop-export : goal.invariant-loop-export
invariant-loop-export l = record {
  broken : (s : Spaces) → Stand (types_of l.arena) (funcs_of l.arena) l.spaces l.types s
      → lesser l.fault (rest_fault (member_broken s) l.exports l.export-index) ≡ least (flat_map (member_broken s) l.exports);
  sketched : (s : Spaces) → Stand (types_of l.arena) (funcs_of l.arena) l.spaces l.types s
      → map sketch_named l.sketches.items ++ flat_map (export_sketches s) (drop l.export-index l.exports) ≡ map sketch_named l.fn.sketches.items ++ flat_map (export_sketches s) l.exports;
}
