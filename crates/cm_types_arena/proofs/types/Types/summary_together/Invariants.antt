use Rattle.std.proofs.Common.{◌≡◌, ◌≤◌, map, drop}
use Rattle.cm_types.specs.declared.limits.TheConstants.{MAX_NODES}
use Rattle.cm_types_arena.specs.Places.{types_of}
use Rattle.cm_types_arena.specs.Summaries.{beside, summary_of_all}
use Rattle.cm_types_arena.specs.TypeDefs.{type_at}
use Rattle.cm_types_arena.proofs.types.Types.summary_together.Given as goal

-- what is there so far, beside what is left
abbrev pub invariant-loop-place : goal.invariant-loop-place
invariant-loop-place l = record {
  within : l.together.nodes ≤ MAX_NODES;
  whole : beside l.together (summary_of_all (map (type_at (types_of l.self)) (drop l.place-index l.places))) ≡ summary_of_all (map (type_at (types_of l.self)) l.places);
}
