-- The items that members of an exported instance are, by the places of their types: each type is
-- equal to one of the component (Explainer.md, "Import and Export Definitions").
use Rattle.std.specs.Prelude.{ℕ, List}
use Rattle.std.specs.Borrow.{Bor}
use Rattle.cm_types_arena.specs.declared.moves.Move.{Move}
use Rattle.cm_types_arena.specs.declared.instances.Item.{Item}
use Rattle.cm_types_arena.specs.declared.instances.ItemDesc.{ItemDesc}
use Rattle.cm_types_arena.specs.declared.instances.ItemDesc.TheVariants as item
use Rattle.cm_types_arena.specs.declared.placed.Placed.{Placed}
use Rattle.cm_validate_entries.specs.Entries.{moved_number, moved_place}
use Rattle.cm_validate_entries.specs.declared.entries.FuncEntry.{FuncEntry}
use Rattle.cm_validate_entries.specs.declared.entries.FuncEntry.TheVariants as func
use Rattle.cm_validate_entries.specs.declared.entries.MemberEntry.{MemberEntry}
use Rattle.cm_validate_entries.specs.declared.entries.MemberEntry.TheVariants as member

-- ---- definitions under names

-- the place of the type of a function
abbrev pub func_place : FuncEntry → Placed
func_place (func.Lifted core_func ty options) = ty
func_place (func.Imported import number ty) = ty

abbrev pub member_desc : MemberEntry → ItemDesc
member_desc (member.Func f) = item.Func (func_place f)
member_desc (member.Value p) = item.EqualType p
member_desc (member.Resource n) = item.EqualResource n

abbrev pub member_item : Bor (List ℕ) × MemberEntry → Item
member_item e = record { name = e.0.now; desc = member_desc e.1 }

-- ---- items of an instance that is imported, as the import counts their resources

abbrev pub moved_desc : Move → ItemDesc → ItemDesc
moved_desc by (item.Func p) = item.Func (moved_place by p)
moved_desc by (item.EqualType p) = item.EqualType (moved_place by p)
moved_desc by (item.EqualResource n) = item.EqualResource (moved_number by n)
moved_desc by (item.FreshResource n) = item.EqualResource (moved_number by n)

abbrev pub moved_item : Move → Item → Item
moved_item by i = record { name = i.name; desc = moved_desc by i.desc }
