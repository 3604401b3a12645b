-- What the entries of the index spaces of types, functions and instances stand for, among the types
-- of an arena (Explainer.md, "Index Spaces").
use Rattle.std.specs.Prelude.{ℕ, ◌+◌, Bool, true, List, [], ◌∷◌, map, Option, Some, None}
use Rattle.std.specs.Borrow.{Bor}
use Rattle.std.specs.List.{list_all}
use Rattle.std.specs.Option.{option_or}
use Rattle.std.specs.declared.alloc.Global.{Global}
use Rattle.std.specs.declared.rc.Rc.{Rc}
use Rattle.cm_types.specs.Types.{Ty, FuncTy}
use Rattle.cm_types_arena.specs.Moves.{moved}
use Rattle.cm_types_arena.specs.declared.moves.Move.{Move}
use Rattle.cm_validate_core.specs.NameMaps.{entries_of}
use Rattle.cm_types_arena.specs.Placed.{placed_type, placed_func, is_there}
use Rattle.cm_types_arena.specs.Instances.{numbered, are_items_there}
use Rattle.cm_types_arena.specs.declared.placed.Placed.{Placed}
use Rattle.cm_types_arena.specs.declared.instances.Item.{Item}
use Rattle.cm_types_arena.specs.declared.instances.ItemDesc.{ItemDesc}
use Rattle.cm_types_arena.specs.declared.instances.ItemDesc.TheVariants as item
use Rattle.cm_validate_model.specs.Definitions.{value, resource, FuncDef, lifted, imported}
use Rattle.cm_validate_model.specs.Definitions.{MemberDef}
use Rattle.cm_validate_model.specs.Definitions.{func_member, type_member, NamedMember}
use Rattle.cm_validate_items.specs.InstanceTypes.{instance_type_of}
use Rattle.cm_validate_items.specs.declared.items.InstanceItems.{InstanceItems}
use Rattle.cm_validate_types.specs.Entries.{is_at_place}
use Rattle.cm_validate_types.specs.declared.entries.TypeEntry.{TypeEntry}
use Rattle.cm_validate_types.specs.declared.entries.TypeEntry.TheVariants as entry
use Rattle.cm_validate_entries.specs.declared.entries.FuncEntry.{FuncEntry}
use Rattle.cm_validate_entries.specs.declared.entries.FuncEntry.TheVariants as func
use Rattle.cm_validate_entries.specs.declared.entries.MemberEntry.{MemberEntry}
use Rattle.cm_validate_entries.specs.declared.entries.MemberEntry.TheVariants as member
use Rattle.cm_validate_entries.specs.declared.entries.InstanceEntry.{InstanceEntry}
use Rattle.cm_validate_entries.specs.declared.entries.InstanceEntry.TheVariants as instance

-- ---- types

-- the type of a function that it is, and that of an instance
abbrev pub entry_func : TypeEntry → Option Placed
entry_func (entry.Func p) = Some p
entry_func _ = None

abbrev pub entry_instance : TypeEntry → Option (Rc InstanceItems Global)
entry_instance (entry.Instance i) = Some i
entry_instance _ = None

-- the resource that it is
abbrev pub entry_resource : TypeEntry → Option ℕ
entry_resource (entry.Resource n) = Some n
entry_resource _ = None

-- ---- functions, and members of instances

abbrev pub func_def : List FuncTy → FuncEntry → FuncDef
func_def funcs (func.Lifted core_func ty options) =
    lifted core_func (placed_func funcs ty) options.now
func_def funcs (func.Imported import number ty) = imported import number (placed_func funcs ty)

abbrev pub member_def : List Ty → List FuncTy → MemberEntry → MemberDef
member_def types funcs (member.Func f) = func_member (func_def funcs f)
member_def types funcs (member.Value p) = type_member (value (placed_type types p))
member_def types funcs (member.Resource n) = type_member (resource n)

abbrev pub named_member : List Ty → List FuncTy → Bor (List ℕ) × MemberEntry → NamedMember
named_member types funcs e = record { name = e.0.now; def = member_def types funcs e.1 }

-- ---- instances that are imported

-- a type in such an instance: the import moves its resources, where no import did before
abbrev pub moved_place : Move → Placed → Placed
moved_place by p = record { place = p.place; by = option_or p.by (Some by) }

-- the number that a resource gets
abbrev pub moved_number : Move → ℕ → ℕ
moved_number by n = (moved by.first by.count by.next (numbered n)).number

-- the member that an item of this number of an import is
abbrev pub item_member : ℕ → Move → ℕ → ItemDesc → MemberEntry
item_member import by number (item.Func p) =
    member.Func (func.Imported import (Some number) (moved_place by p))
item_member import by number (item.EqualType p) = member.Value (moved_place by p)
item_member import by number (item.EqualResource n) = member.Resource (moved_number by n)
item_member import by number (item.FreshResource n) = member.Resource (moved_number by n)

-- the members that items are, which are counted from `next` on
abbrev pub item_members : List Ty → List FuncTy → ℕ → Move → ℕ → List Item → List NamedMember
item_members types funcs import by next [] = []
item_members types funcs import by next (x ∷ xs) =
    record { name = x.name; def = member_def types funcs (item_member import by next x.desc) }
    ∷ item_members types funcs import by (next + 1) xs

-- ---- instances

abbrev pub members_of : List Ty → List FuncTy → InstanceEntry → List NamedMember
members_of types funcs (instance.Imported import items by) =
    item_members types funcs import by 0 (instance_type_of items.value).items.items
members_of types funcs (instance.Exporting members) =
    map (named_member types funcs) (entries_of members.value)

-- ---- their places are among so many types, and so many types of functions

abbrev pub is_func_there : ℕ → FuncEntry → Bool
is_func_there funcs (func.Lifted core_func ty options) = is_at_place funcs ty
is_func_there funcs (func.Imported import number ty) = is_there funcs ty

abbrev pub is_member_there : ℕ → ℕ → MemberEntry → Bool
is_member_there types funcs (member.Func f) = is_func_there funcs f
is_member_there types funcs (member.Value p) = is_there types p
is_member_there types funcs (member.Resource n) = true

abbrev pub are_members_there : ℕ → ℕ → InstanceEntry → Bool
are_members_there types funcs (instance.Imported import items by) =
    are_items_there types funcs (instance_type_of items.value).items.items
are_members_there types funcs (instance.Exporting members) =
    list_all (λ e. is_member_there types funcs e.1) (entries_of members.value)
