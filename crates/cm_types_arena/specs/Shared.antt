-- Imports and exports whose names share their fronts, among the types of an arena (Explainer.md,
-- "Import and Export Definitions").
use Rattle.std.specs.Prelude.{ℕ, Bool, List, None, map}
use Rattle.std.specs.List.{list_all}
use Rattle.cm_types.specs.Types.{FuncTy, Ty}
use Rattle.cm_types.specs.Signatures.{ExternTy, NamedExtern, NamedItem, func, instance}
use Rattle.cm_types_arena.specs.Placed.{is_there, moved_by, placed_func}
use Rattle.cm_types_arena.specs.Instances.{desc_of, is_desc_there, replaced_item}
use Rattle.cm_types_arena.specs.SharedNames.{text_in}
use Rattle.cm_types_arena.specs.declared.names.Front.{Front}
use Rattle.cm_types_arena.specs.declared.shared.SharedDesc.{SharedDesc}
use Rattle.cm_types_arena.specs.declared.shared.SharedDesc.TheVariants as shared
use Rattle.cm_types_arena.specs.declared.shared.SharedExtern.{SharedExtern}
use Rattle.cm_types_arena.specs.declared.shared.SharedExterns.{SharedExterns}
use Rattle.cm_types_arena.specs.declared.shared.SharedItem.{SharedItem}
use Rattle.cm_types_arena.specs.declared.shared.SharedItems.{SharedItems}

-- ---- what they are, among the types at these places, where these are the fronts

abbrev pub shared_item_of : List Ty → List FuncTy → List Front → SharedItem → NamedItem
shared_item_of types funcs fronts i =
    record { name = text_in fronts i.name; desc = desc_of types funcs i.desc }

abbrev pub shared_items_of : List Ty → List FuncTy → SharedItems → List NamedItem
shared_items_of types funcs s = map (shared_item_of types funcs s.fronts.items) s.items.items

abbrev pub shared_desc_of : List Ty → List FuncTy → SharedDesc → ExternTy
shared_desc_of types funcs (shared.Func p) = func (placed_func funcs p)
shared_desc_of types funcs (shared.Instance s) =
    instance (map (replaced_item (moved_by None)) (shared_items_of types funcs s))

abbrev pub shared_extern_of : List Ty → List FuncTy → List Front → SharedExtern → NamedExtern
shared_extern_of types funcs fronts e =
    record { name = text_in fronts e.name; desc = shared_desc_of types funcs e.desc }

abbrev pub shared_externs_of : List Ty → List FuncTy → SharedExterns → List NamedExtern
shared_externs_of types funcs s =
    map (shared_extern_of types funcs s.fronts.items) s.externs.items

-- ---- their places are among so many types, and so many types of functions

abbrev pub are_shared_items_there : ℕ → ℕ → List SharedItem → Bool
are_shared_items_there types funcs is = list_all (λ i. is_desc_there types funcs i.desc) is

abbrev pub is_shared_there : ℕ → ℕ → SharedDesc → Bool
is_shared_there types funcs (shared.Func p) = is_there funcs p
is_shared_there types funcs (shared.Instance s) =
    are_shared_items_there types funcs s.items.items

abbrev pub are_shared_externs_there : ℕ → ℕ → List SharedExtern → Bool
are_shared_externs_there types funcs es = list_all (λ e. is_shared_there types funcs e.desc) es
