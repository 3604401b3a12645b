-- Where the functions of a component come from (Explainer.md, "Index Spaces"; Binary.md, "Canonical
-- Definitions", "Import and Export Definitions").
use Rattle.std.specs.Prelude.{◌≡◌, ⊤, ℕ, List, ◌∷◌, ◌++◌, Option, Some, None}
use Rattle.std.specs.Prelude.{slice_get}
use Rattle.std.specs.List.{AllByRecursion}
use Rattle.cm_types.specs.Types.{FuncTy}
use Rattle.cm_types.specs.Signatures.{NamedItem, func_item}
use Rattle.cm_binary_model.specs.Trees.{lift, lower, resource_new, resource_drop, resource_rep}
use Rattle.cm_binary_model.specs.declared.canons.CanonOption.{CanonOption}
use Rattle.cm_binary_model.specs.declared.externs.Import.{Import}
use Rattle.cm_validate_model.specs.Definitions.{InstanceTy, CoreExport, CoreFuncDef, guest, lowered}
use Rattle.cm_validate_model.specs.Definitions.{making, dropping, reading, FuncDef, lifted}
use Rattle.cm_validate_model.specs.Definitions.{imported}
use Rattle.cm_validate_model.specs.Definitions.{MemberDef, func_member, type_member, NamedMember}
use Rattle.cm_validate_model.specs.Definitions.{ExportDef, exported_func, exported_instance}
use Rattle.cm_validate_model.specs.Items.{Item, canon_item, import_item}
use Rattle.cm_validate_model.specs.Moves.{moved_func}
use Rattle.cm_validate_model.specs.Rules.{func_ty_at, resource_at}
use Rattle.cm_validate_model.specs.Spaces.{Spaces, after_items, empty_spaces, imported_func}
use Rattle.cm_validate_model.specs.Spaces.{imported_instance, next_import, next_resource}

-- an item of a component, with the index spaces of what stands before it
pub record IsItemAt (items : List Item) (s : Spaces) (x : Item) : Type 0 where
  pub front : List Item
  pub rest : List Item
  pub split : items ≡ front ++ x ∷ rest
  pub spaces : after_items empty_spaces front ≡ s

-- a function is one that a lift adds, or an import of a function, or an item of one of an instance,
-- with the instance's resources as the import counts them
pub data IsAdded (items : List Item) : FuncDef → Type 0 where
  by_lift : (s : Spaces) (f : ℕ) (os : List CanonOption) (i : ℕ) (ty : FuncTy)
      → IsItemAt items s (canon_item (lift f os i)) → func_ty_at s i ≡ Some ty
      → IsAdded items (lifted f ty os)
  by_import : (s : Spaces) (i : Import) (ty : FuncTy) → IsItemAt items s (import_item i)
      → imported_func s i.desc ≡ Some ty → IsAdded items (imported (next_import s) None ty)
  by_item : (s : Spaces) (i : Import) (t : InstanceTy) (n : ℕ) (x : NamedItem) (f : FuncTy)
      → IsItemAt items s (import_item i) → imported_instance s i.desc ≡ Some t
      → slice_get t.items n ≡ Some x → x.desc ≡ func_item f
      → IsAdded items (imported (next_import s) (Some n) (moved_func t (next_resource s) f))

-- a core function is a guest's, or one that a canonical definition adds: of an import that is
-- lowered, or of a resource
pub data IsCoreAdded (items : List Item) : CoreFuncDef → Type 0 where
  of_guest : (e : CoreExport) → IsCoreAdded items (guest e)
  by_lower : (s : Spaces) (f : ℕ) (os : List CanonOption) (import : ℕ) (item : Option ℕ)
      (ty : FuncTy) → IsItemAt items s (canon_item (lower f os))
      → slice_get s.funcs f ≡ Some (imported import item ty)
      → IsCoreAdded items (lowered import item ty os)
  by_new : (s : Spaces) (i n : ℕ) → IsItemAt items s (canon_item (resource_new i))
      → resource_at s i ≡ Some n → IsCoreAdded items (making n)
  by_drop : (s : Spaces) (i n : ℕ) → IsItemAt items s (canon_item (resource_drop i))
      → resource_at s i ≡ Some n → IsCoreAdded items (dropping n)
  by_rep : (s : Spaces) (i n : ℕ) → IsItemAt items s (canon_item (resource_rep i))
      → resource_at s i ≡ Some n → IsCoreAdded items (reading n)

-- ---- wherever in the index spaces

-- what is said of functions holds of the functions among members, and of an export
abbrev pub OfMember : (FuncDef → Type 0) → MemberDef → Type 0
OfMember P (func_member f) = P f
OfMember P (type_member t) = ⊤

abbrev pub OfMembers : (FuncDef → Type 0) → List NamedMember → Type 0
OfMembers P ms = AllByRecursion (λ m. OfMember P m.def) ms

abbrev pub OfExport : (FuncDef → Type 0) → ExportDef → Type 0
OfExport P (exported_func f) = P f
OfExport P (exported_instance ms) = OfMembers P ms

-- A property holds of each function in index spaces, and another of each core function.
pub record OfFunctions (P : FuncDef → Type 0) (Q : CoreFuncDef → Type 0) (s : Spaces) : Type 0 where
  pub funcs : AllByRecursion P s.funcs
  pub instances : AllByRecursion (OfMembers P) s.instances
  pub exports : AllByRecursion (λ e. OfExport P e.def) s.exports
  pub core_funcs : AllByRecursion Q s.core_funcs
