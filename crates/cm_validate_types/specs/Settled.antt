-- What an import has moved names none of the resources that an instance's type brings
-- (Explainer.md, "Type Definitions").
use Rattle.std.specs.Prelude.{⊤, ℕ, List, Option, Some, None}
use Rattle.std.specs.List.{AllByRecursion}
use Rattle.cm_types.specs.Types.{Ty, FuncTy}
use Rattle.cm_types_arena.specs.declared.moves.Move.{Move}
use Rattle.cm_types_arena.specs.Placed.{placed_type, placed_func}
use Rattle.cm_types_arena.specs.declared.instances.Item.{Item}
use Rattle.cm_types_arena.specs.declared.instances.ItemDesc.{ItemDesc}
use Rattle.cm_types_arena.specs.declared.instances.ItemDesc.TheVariants as item
use Rattle.cm_validate_model.specs.Counted.{IsCounted, IsFuncCounted}
use Rattle.cm_validate_items.specs.InstanceTypes.{instance_type_of}
use Rattle.cm_validate_types.specs.declared.entries.TypeEntry.{TypeEntry}
use Rattle.cm_validate_types.specs.declared.entries.TypeEntry.TheVariants as entry

abbrev pub WhereMoved : Option Move → Type 0 → Type 0
WhereMoved None P = ⊤
WhereMoved (Some by) P = P

abbrev pub IsDescSettled : List Ty → List FuncTy → ℕ → ItemDesc → Type 0
IsDescSettled types funcs first (item.Func p) =
    WhereMoved p.by (IsFuncCounted first (placed_func funcs p))
IsDescSettled types funcs first (item.EqualType p) =
    WhereMoved p.by (IsCounted first (placed_type types p))
IsDescSettled types funcs first _ = ⊤

abbrev pub AreItemsSettled : List Ty → List FuncTy → ℕ → List Item → Type 0
AreItemsSettled types funcs first items =
    AllByRecursion (λ i. IsDescSettled types funcs first i.desc) items

abbrev pub IsEntrySettled : List Ty → List FuncTy → TypeEntry → Type 0
IsEntrySettled types funcs (entry.Instance i) =
    AreItemsSettled types funcs (instance_type_of i.value).first
    (instance_type_of i.value).items.items
IsEntrySettled types funcs _ = ⊤
