-- Types that an item brings, as the import or export counts their resources (Binary.md, "Import and
-- Export Definitions").
use Rattle.cm_types.specs.Types.{Ty, FuncTy}
use Rattle.cm_types_arena.specs.Replaced.{Standing, replaced, replaced_func}
use Rattle.cm_types_arena.specs.Places.{types_of, funcs_of}
use Rattle.cm_types_arena.specs.TypeDefs.{type_at, func_at}
use Rattle.cm_types_arena.specs.declared.types.Types.{Types}
use Rattle.cm_types_arena.specs.Placed.{moved_by}
use Rattle.cm_types_numbers.specs.declared.moves.Brought.{Brought}
use Rattle.cm_types_numbers.specs.declared.moves.Moves.{Moves}

-- what stands for each resource of a type that an item brings
abbrev pub brought_by : Brought → Standing
brought_by b r = moved_by b.by (moved_by b.ty.by r)

-- the type that an item brings, its resources replaced so
abbrev pub brought_type : Types → Brought → Ty
brought_type types b = replaced (brought_by b) (type_at (types_of types) b.ty.place)

-- the type of a function that an item brings, its resources replaced so
abbrev pub brought_func : Types → Brought → FuncTy
brought_func types b = replaced_func (brought_by b) (func_at (funcs_of types) b.ty.place)

-- how the code keeps it: the move at the place, and that of the import or export
abbrev pub moves_of : Brought → Moves
moves_of b = record { inner = b.ty.by; outer = b.by }

abbrev pub moved_through : Moves → Standing
moved_through m r = moved_by m.outer (moved_by m.inner r)
