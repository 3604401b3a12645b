-- What imports and exports are (Binary.md, "Import and Export Definitions").
use Rattle.std.specs.Prelude.{ℕ, Bool, List, map, length}
use Rattle.std.specs.List.{list_all}
use Rattle.cm_types.specs.Types.{Ty, FuncTy}
use Rattle.cm_types.specs.Signatures.{ExternTy, NamedExtern, func, instance}
use Rattle.cm_types_arena.specs.Places.{types_of, funcs_of}
use Rattle.cm_types_arena.specs.declared.types.Types.{Types}
use Rattle.cm_types_arena.specs.Placed.{moved_by, placed_func, is_there}
use Rattle.cm_types_arena.specs.Instances.{items_of, replaced_item, are_items_there}
use Rattle.cm_types_arena.specs.declared.externs.Extern.{Extern}
use Rattle.cm_types_arena.specs.declared.externs.ExternDesc.{ExternDesc}
use Rattle.cm_types_arena.specs.declared.externs.ExternDesc.TheVariants as extern

-- ---- what they are, among the types at these places

abbrev pub extern_desc_of : List Ty → List FuncTy → ExternDesc → ExternTy
extern_desc_of types funcs (extern.Func p) = func (placed_func funcs p)
extern_desc_of types funcs (extern.Instance ty by) =
    instance (map (replaced_item (moved_by by)) (items_of types funcs ty.value.items.items))

abbrev pub extern_of : List Ty → List FuncTy → Extern → NamedExtern
extern_of types funcs e = record { name = e.name; desc = extern_desc_of types funcs e.desc }

abbrev pub externs_in : Types → List Extern → List NamedExtern
externs_in types es = map (extern_of (types_of types) (funcs_of types)) es

-- ---- their places are in the arena

abbrev pub is_extern_there : ℕ → ℕ → ExternDesc → Bool
is_extern_there types funcs (extern.Func p) = is_there funcs p
is_extern_there types funcs (extern.Instance ty by) =
    are_items_there types funcs ty.value.items.items

abbrev pub are_externs_in : Types → List Extern → Bool
are_externs_in types es =
    list_all (λ e. is_extern_there (length (types_of types)) (length (funcs_of types)) e.desc) es
