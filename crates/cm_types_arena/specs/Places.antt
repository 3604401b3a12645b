-- The types of an arena and those of functions, by place.
use Rattle.std.specs.Prelude.{ℕ, ◌<◌, List}
use Rattle.std.specs.List.{AllByRecursion}
use Rattle.cm_types.specs.Types.{Ty, FuncTy}
use Rattle.cm_types_arena.specs.Arena.{types_in, funcs_in}
use Rattle.cm_types_arena.specs.TypeDefs.{IsBelow}
use Rattle.cm_types_arena.specs.declared.funcs.FuncDef.{FuncDef}
use Rattle.cm_types_arena.specs.declared.type_defs.TypeDef.{TypeDef}
use Rattle.cm_types_arena.specs.declared.type_defs.TypeDef.TheVariants as def
use Rattle.cm_types_arena.specs.declared.types.Types.{Types}

-- the types of an arena, each at its place
abbrev pub types_of : Types → List Ty
types_of types = types_in types.entries.items

-- the types of functions of an arena, each at its place among them
abbrev pub funcs_of : Types → List FuncTy
funcs_of types = funcs_in types.funcs.items

-- the parts of a definition have places among so many types
abbrev pub HasParts : ℕ → TypeDef → Type 0
HasParts count (def.List part) = part < count
HasParts count (def.FixedList part length) = part < count
HasParts count (def.Record fs) = AllByRecursion (λ f. f.ty < count) fs.items
HasParts count (def.Tuple parts) = AllByRecursion (λ part. part < count) parts.items
HasParts count (def.Variant cs) = AllByRecursion (λ c. IsBelow count c.payload) cs.items
HasParts count (def.Option part) = part < count
HasParts count (def.Result ok error) = IsBelow count ok × IsBelow count error
HasParts count d = Unit {0}

-- the types in a function's definition have places among so many types
abbrev pub HasFuncParts : ℕ → FuncDef → Type 0
HasFuncParts count d =
    AllByRecursion (λ f. f.ty < count) d.params.items × IsBelow count d.result
