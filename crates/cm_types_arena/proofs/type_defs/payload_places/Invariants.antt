use Rattle.std.proofs.Common.{◌≡◌, ◌++◌, drop}
use Rattle.cm_types_arena.specs.TypeDefs.{payload_places}
use Rattle.cm_types_arena.proofs.type_defs.payload_places.Given as goal

-- what is there so far, and what is left
abbrev pub invariant-loop-case : goal.invariant-loop-case
invariant-loop-case l = l.parts.items ++ payload_places (drop l.case-index l.cases) ≡ payload_places l.cases
