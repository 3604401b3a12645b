use Rattle.std.proofs.Common.{◌≡◌, ℕ, ◌<◌, List, map, take, length, get_or}
use Rattle.cm_types.specs.Types.{Ty}
use Rattle.cm_types_arena.specs.declared.entries.TypeEntry.{TypeEntry}
use Rattle.cm_types_arena.specs.declared.primitives.TheConstants.{PRIMITIVES}
use Rattle.cm_types_arena.specs.Arena.{types_in, IsEntry}
use Rattle.cm_types_arena.specs.TypeDefs.{primitive_type}
use Rattle.cm_types_arena.proofs.types.Types.new.Given as goal

-- the first primitive types stand there
abbrev pub invariant-loop-primitive : goal.invariant-loop-primitive
invariant-loop-primitive l = record {
  types : types_in l.entries.items ≡ map primitive_type (take l.primitive-index PRIMITIVES);
  each : (types : List Ty) (k : ℕ) (d : TypeEntry) → k < length l.entries.items → IsEntry types k (get_or l.entries.items k d);
}
