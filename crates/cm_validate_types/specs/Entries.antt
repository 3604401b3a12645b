-- What the entries of a scope stand for, among the types of an arena.
use Rattle.std.specs.Prelude.{ℕ, Bool, true, ◌&&◌, is_none, List, length}
use Rattle.std.specs.List.{list_all}
use Rattle.cm_types.specs.Types.{Ty, FuncTy}
use Rattle.cm_types_arena.specs.TypeDefs.{type_at}
use Rattle.cm_types_arena.specs.Instances.{items_of, are_items_there}
use Rattle.cm_types_arena.specs.Placed.{placed_type, placed_func, is_there}
use Rattle.cm_types_arena.specs.declared.instances.InstanceType.{InstanceType}
use Rattle.cm_types_arena.specs.declared.placed.Placed.{Placed}
use Rattle.cm_validate_model.specs.Definitions.{TypeDef, value, func_type, resource, instance_type}
use Rattle.cm_validate_model.specs.Definitions.{InstanceTy}
use Rattle.cm_validate_model.specs.declared.sorts.TypeSort.{TypeSort}
use Rattle.cm_validate_model.specs.declared.sorts.TypeSort.TheVariants as sort
use Rattle.cm_validate_items.specs.InstanceTypes.{instance_type_of}
use Rattle.cm_validate_types.specs.declared.entries.TypeEntry.{TypeEntry}
use Rattle.cm_validate_types.specs.declared.entries.TypeEntry.TheVariants as entry

-- ---- what they stand for

-- the type of an instance (Explainer.md, "Instance Types")
abbrev pub instance_of : List Ty → List FuncTy → InstanceType → InstanceTy
instance_of types funcs i =
    record { items = items_of types funcs i.items.items; first = i.first; fresh = i.fresh }

-- what an index of a type stands for (Explainer.md, "Index Spaces")
abbrev pub def_of : List Ty → List FuncTy → TypeEntry → TypeDef
def_of types funcs (entry.Value p) = value (placed_type types p)
def_of types funcs (entry.Func p) = func_type (placed_func funcs p)
def_of types funcs (entry.Resource n) = resource n
def_of types funcs (entry.Instance i) =
    instance_type (instance_of types funcs (instance_type_of i.value))

-- what an index of a type stands for, with no resource of a value type moved
abbrev pub unmoved_def_of : List Ty → List FuncTy → TypeEntry → TypeDef
unmoved_def_of types funcs (entry.Value p) = value (type_at types p.place)
unmoved_def_of types funcs e = def_of types funcs e

-- ---- their sorts

abbrev pub entry_sort : TypeEntry → TypeSort
entry_sort (entry.Value p) = sort.Value
entry_sort (entry.Func p) = sort.Func
entry_sort (entry.Resource n) = sort.Resource
entry_sort (entry.Instance i) = sort.Instance

-- ---- their places are among so many types, and so many types of functions

-- the place of a function's type is one of so many, and no import moved it
abbrev pub is_at_place : ℕ → Placed → Bool
is_at_place count p = is_there count p && is_none p.by

abbrev pub is_entry_there : ℕ → ℕ → TypeEntry → Bool
is_entry_there types funcs (entry.Value p) = is_there types p
is_entry_there types funcs (entry.Func p) = is_at_place funcs p
is_entry_there types funcs (entry.Resource n) = true
is_entry_there types funcs (entry.Instance i) =
    are_items_there types funcs (instance_type_of i.value).items.items

abbrev pub in_arena : List Ty → List FuncTy → List TypeEntry → Bool
in_arena types funcs es = list_all (is_entry_there (length types) (length funcs)) es
