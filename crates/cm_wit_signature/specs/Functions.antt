-- The functions of items, of imports and exports, and of signatures (Binary.md, "Import and Export
-- Definitions").
use Rattle.std.specs.Prelude.{List, [], ◌∷◌, ◌++◌}
use Rattle.std.specs.List.{flat_map}
use Rattle.cm_types.specs.Types.{FuncTy}
use Rattle.cm_types.specs.Signatures.{ItemTy, NamedItem, func_item, equal_type, equal_resource}
use Rattle.cm_types.specs.Signatures.{fresh_resource, ExternTy, NamedExtern, func, instance}
use Rattle.cm_types.specs.Signatures.{SignatureTy}

abbrev pub desc_funcs : ItemTy → List FuncTy
desc_funcs (func_item f) = f ∷ []
desc_funcs (equal_type t) = []
desc_funcs (equal_resource r) = []
desc_funcs (fresh_resource r) = []

abbrev pub item_funcs : NamedItem → List FuncTy
item_funcs i = desc_funcs i.desc

-- the functions of an import or an export, in the order of its items
abbrev pub extern_desc_funcs : ExternTy → List FuncTy
extern_desc_funcs (func f) = f ∷ []
extern_desc_funcs (instance is) = flat_map item_funcs is

abbrev pub extern_funcs : NamedExtern → List FuncTy
extern_funcs e = extern_desc_funcs e.desc

-- all functions of a signature, those of imports first
abbrev pub funcs_in : SignatureTy → List FuncTy
funcs_in s = flat_map extern_funcs s.imports ++ flat_map extern_funcs s.exports
