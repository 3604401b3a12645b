-- The core functions to which names lead (Explainer.md, "Index Spaces", "Import and Export
-- Definitions").
use Rattle.std.specs.Prelude.{ℕ, Bool, false, List, Option, Some, None, slice_get}
use Rattle.std.specs.List.{position_from}
use Rattle.std.specs.Option.{option_and_then, option_map, option_map_or}
use Rattle.std.specs.Str.{bytes_eq}
use Rattle.cm_names.specs.Keys.{Key, is_key}
use Rattle.cm_types.specs.Signatures.{ExternTy, NamedExtern}
use Rattle.cm_types.specs.Signatures as extern
use Rattle.cm_validate_model.specs.Definitions.{CoreFuncDef, lowered, FuncDef, lifted, imported}
use Rattle.cm_validate_model.specs.Spaces.{Spaces}
use Rattle.cm_validate_spaces.specs.Exported.{exported_func_of}
use Rattle.cm_validate_functions.specs.FuncNames.{parts_of}
use Rattle.cm_validate_functions.specs.Options.{is_number}

-- ---- exports

-- the number of the export of a name
abbrev pub export_named : Spaces → List ℕ → Option ℕ
export_named s name = position_from (λ e. bytes_eq name e.name) 0 s.exports

-- the function that is exported under a name, or that an exported instance has
abbrev pub exported_in : Spaces → Option (List ℕ) → List ℕ → Option FuncDef
exported_in s None name =
    option_and_then (λ e. exported_func_of s e None) (export_named s name)
exported_in s (Some interface) name =
    option_and_then (λ e. exported_func_of s e (Some name)) (export_named s interface)

-- the function that a text names among the exports
abbrev pub exported_under : Spaces → List ℕ → Option FuncDef
exported_under s text = let n = parts_of text in exported_in s n.interface n.name

-- the core function that a function lifts
abbrev pub lifted_core : FuncDef → Option ℕ
lifted_core (lifted f ty options) = Some f
lifted_core (imported import item ty) = None

-- the core function that the export of a text lifts
abbrev pub exported_core : Spaces → List ℕ → Option ℕ
exported_core s text = option_and_then lifted_core (exported_under s text)

-- ---- imports

-- the number of the import of a name
abbrev pub import_named : Spaces → List ℕ → Option ℕ
import_named s name = position_from (λ i. bytes_eq name i.name) 0 s.imports

-- the name of an item of what is imported
abbrev pub item_name : ℕ → ExternTy → Option (List ℕ)
item_name item (extern.func f) = None
item_name item (extern.instance items) = option_map (λ i. i.name) (slice_get items item)

abbrev pub import_item_name : List NamedExtern → ℕ → ℕ → Option (List ℕ)
import_item_name imports import item =
    option_and_then (λ x. item_name item x.desc) (slice_get imports import)

-- the import of a function that a core function lowers, by its number
abbrev pub lowered_import : CoreFuncDef → Option ℕ
lowered_import (lowered import None ty options) = Some import
lowered_import _ = None

-- the item of an import that it lowers, by the number of the import and the name of the item
abbrev pub lowered_item : List NamedExtern → CoreFuncDef → Option Key
lowered_item imports (lowered import (Some item) ty options) =
    option_map (λ name. (import, name)) (import_item_name imports import item)
lowered_item imports _ = None

abbrev pub lowers_item : List NamedExtern → ℕ → List ℕ → CoreFuncDef → Bool
lowers_item imports number name d =
    option_map_or (is_key number name) (lowered_item imports d) false

-- the first core function that lowers the import of a name, or an item of it
abbrev pub lowered_in : Spaces → Option (List ℕ) → List ℕ → Option ℕ
lowered_in s None name =
    option_and_then (λ n. position_from (λ d. is_number n (lowered_import d)) 0 s.core_funcs)
    (import_named s name)
lowered_in s (Some interface) name =
    option_and_then (λ n. position_from (lowers_item s.imports n name) 0 s.core_funcs)
    (import_named s interface)

-- the core function that lowers what a text names
abbrev pub imported_core : Spaces → List ℕ → Option ℕ
imported_core s text = let n = parts_of text in lowered_in s n.interface n.name
