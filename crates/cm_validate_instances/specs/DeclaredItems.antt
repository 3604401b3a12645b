-- The places of items are in an arena.
use Rattle.std.specs.Prelude.{Bool, List, length}
use Rattle.cm_types.specs.Types.{Ty, FuncTy}
use Rattle.cm_types_arena.specs.Instances.{are_items_there}
use Rattle.cm_types_arena.specs.declared.instances.Item.{Item}

abbrev pub items_in : List Ty → List FuncTy → List Item → Bool
items_in types funcs items = are_items_there (length types) (length funcs) items
