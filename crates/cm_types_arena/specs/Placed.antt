-- Types of an arena, with their resources counted as an import counts them (Binary.md, "Import and
-- Export Definitions").
use Rattle.std.specs.Prelude.{ℕ, Bool, nat_lt, List, Option, Some, None}
use Rattle.cm_types.specs.Types.{Ty, FuncTy}
use Rattle.cm_types_arena.specs.TypeDefs.{type_at, func_at}
use Rattle.cm_types_arena.specs.Replaced.{Standing, replaced, replaced_func}
use Rattle.cm_types_arena.specs.Moves.{moved}
use Rattle.cm_types_arena.specs.declared.moves.Move.{Move}
use Rattle.cm_types_arena.specs.declared.placed.Placed.{Placed}

-- what stands for each resource, where an import may have moved them
abbrev pub moved_by : Option Move → Standing
moved_by None r = r
moved_by (Some m) r = moved m.first m.count m.next r

-- a type, and the type of a function, among those at these places
abbrev pub placed_type : List Ty → Placed → Ty
placed_type types p = replaced (moved_by p.by) (type_at types p.place)

abbrev pub placed_func : List FuncTy → Placed → FuncTy
placed_func funcs p = replaced_func (moved_by p.by) (func_at funcs p.place)

-- the place of a type is one of so many
abbrev pub is_there : ℕ → Placed → Bool
is_there count p = nat_lt p.place count
