use Rattle.std.proofs.Common.{◌≡◌, map}
use Rattle.cm_types.specs.TypeTrees.{field_of}
use Rattle.cm_types_arena.specs.Arena.{types_in}
use Rattle.cm_types_arena.specs.TypeDefs.{field_def_type}
use Rattle.cm_types_arena.proofs.building.build_fields.Given as goal

-- those that are made so far are of the definitions so far
abbrev pub invariant-loop-def : goal.invariant-loop-def
invariant-loop-def l = map field_of l.fields.items ≡ map (field_def_type (types_in l.entries)) l.yielded
