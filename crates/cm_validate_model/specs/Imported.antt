-- The types with which functions are imported (Binary.md, "Import and Export Definitions").
use Rattle.std.specs.Prelude.{◌≡◌, ⊤, ℕ, Option, Some, None, slice_get}
use Rattle.std.specs.Option.{option_and_then}
use Rattle.cm_types.specs.Types.{FuncTy}
use Rattle.cm_types.specs.Signatures.{ItemTy, func_item, ExternTy}
use Rattle.cm_types.specs.Signatures as extern
use Rattle.cm_validate_model.specs.Definitions.{FuncDef, lifted, imported, CoreFuncDef, lowered}
use Rattle.cm_validate_model.specs.Spaces.{Spaces}

-- the type of a function that is imported, and of an item that is one
abbrev pub func_item_of : ItemTy → Option FuncTy
func_item_of (func_item f) = Some f
func_item_of _ = None

abbrev pub wanted_of : Option ℕ → ExternTy → Option FuncTy
wanted_of None (extern.func f) = Some f
wanted_of (Some item) (extern.instance items) =
    option_and_then (λ i. func_item_of i.desc) (slice_get items item)
wanted_of _ _ = None

-- the type with which a component imports a function, by itself or as an item of an instance
abbrev pub wanted_func : Spaces → ℕ → Option ℕ → Option FuncTy
wanted_func s import item =
    option_and_then (λ i. wanted_of item i.desc) (slice_get s.imports import)

-- a function that is imported has that type, and so has a core function that lowers one
abbrev pub IsAsImported : Spaces → FuncDef → Type 0
IsAsImported s (lifted f ty os) = ⊤
IsAsImported s (imported import item ty) = wanted_func s import item ≡ Some ty

abbrev pub IsLoweredAsImported : Spaces → CoreFuncDef → Type 0
IsLoweredAsImported s (lowered import item ty os) = wanted_func s import item ≡ Some ty
IsLoweredAsImported s _ = ⊤
