-- What the items of instances are, among the types of an arena.
use Rattle.std.specs.Prelude.{ℕ, Bool, true, List, map}
use Rattle.std.specs.List.{list_all}
use Rattle.cm_types.specs.Types.{Ty, FuncTy}
use Rattle.cm_types.specs.declared.resource.ResourceId.{ResourceId}
use Rattle.cm_types.specs.Signatures.{ItemTy, NamedItem, func_item, equal_type, equal_resource}
use Rattle.cm_types.specs.Signatures.{fresh_resource}
use Rattle.cm_types_arena.specs.Replaced.{Standing, replaced, replaced_func}
use Rattle.cm_types_arena.specs.Placed.{placed_type, placed_func, is_there}
use Rattle.cm_types_arena.specs.declared.instances.Item.{Item}
use Rattle.cm_types_arena.specs.declared.instances.ItemDesc.{ItemDesc}
use Rattle.cm_types_arena.specs.declared.instances.ItemDesc.TheVariants as item

-- the resource of this number, of the component itself
abbrev pub numbered : ℕ → ResourceId
numbered n = record { component = 0; number = n }

-- ---- what they are

abbrev pub desc_of : List Ty → List FuncTy → ItemDesc → ItemTy
desc_of types funcs (item.Func p) = func_item (placed_func funcs p)
desc_of types funcs (item.EqualType p) = equal_type (placed_type types p)
desc_of types funcs (item.EqualResource n) = equal_resource (numbered n)
desc_of types funcs (item.FreshResource n) = fresh_resource (numbered n)

abbrev pub item_of : List Ty → List FuncTy → Item → NamedItem
item_of types funcs i = record { name = i.name; desc = desc_of types funcs i.desc }

abbrev pub items_of : List Ty → List FuncTy → List Item → List NamedItem
items_of types funcs is = map (item_of types funcs) is

-- ---- the same, each resource replaced

abbrev pub replaced_desc : Standing → ItemTy → ItemTy
replaced_desc s (func_item f) = func_item (replaced_func s f)
replaced_desc s (equal_type t) = equal_type (replaced s t)
replaced_desc s (equal_resource r) = equal_resource (s r)
replaced_desc s (fresh_resource r) = fresh_resource (s r)

abbrev pub replaced_item : Standing → NamedItem → NamedItem
replaced_item s i = record { name = i.name; desc = replaced_desc s i.desc }

-- ---- their places are among so many types, and so many types of functions

abbrev pub is_desc_there : ℕ → ℕ → ItemDesc → Bool
is_desc_there types funcs (item.Func p) = is_there funcs p
is_desc_there types funcs (item.EqualType p) = is_there types p
is_desc_there types funcs _ = true

abbrev pub are_items_there : ℕ → ℕ → List Item → Bool
are_items_there types funcs is = list_all (λ i. is_desc_there types funcs i.desc) is
