-- The function types that the code's are.
use Rattle.std.specs.Option.{option_map}
use Rattle.cm_types.specs.Types.{Ty, FuncTy}
use Rattle.cm_types.specs.TypeTrees.{type_of, fields_of}
use Rattle.cm_types.specs.declared.type_trees.TypeTree.{TypeTree}
use Rattle.cm_types.specs.declared.type_trees.Func.{Func}

-- the type that a tree within the limits is
abbrev pub tree_type : TypeTree → Ty
tree_type t = type_of t.root

-- the type of a function
abbrev pub func_of : Func → FuncTy
func_of f = record { params = fields_of f.params.items; result = option_map tree_type f.result }
