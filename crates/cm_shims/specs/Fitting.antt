-- Whether what shims want holds of a component (Binary.md, "Instance Definitions", `instantiate`;
-- "Import and Export Definitions").
use Rattle.std.specs.Prelude.{◌≡◌, ℕ, List, Some, Option, option_map, slice_get, take}
use Rattle.std.specs.List.{AllByRecursion}
use Rattle.cm_types.specs.Types.{FuncTy}
use Rattle.cm_validate_model.specs.Definitions.{TypeDef, value, func_type, resource, func_type_of}
use Rattle.cm_validate_model.specs.Spaces.{Spaces}
use Rattle.cm_shims_plain.specs.declared.wants.Want.{Want}
use Rattle.cm_shims_plain.specs.declared.wants.Want.TheVariants as wants
use Rattle.cm_shims.specs.declared.fault.FitFault.{FitFault}
use Rattle.cm_shims.specs.Reasons.{reason_of}

-- Types that a shim can say are equal: value types, the types of functions, resources.
abbrev pub IsComparable : TypeDef → Type 0
IsComparable (value t) = Unit {0}
IsComparable (func_type f) = Unit {0}
IsComparable (resource n) = Unit {0}
IsComparable _ = ⊥

-- A want holds: the function has the type; the two types are one; the type is a resource. A type is
-- its tree, in which resources stand by their numbers.
abbrev pub Holds : Spaces → Want → Type 0
Holds s (wants.Func f t) = (ty : FuncTy)
    × (option_map func_type_of (slice_get s.funcs f) ≡ Some ty)
    × (slice_get s.types t ≡ Some (func_type ty))
Holds s (wants.Type p t) = (ty : TypeDef) × IsComparable ty
    × (slice_get s.types p ≡ Some ty) × (slice_get s.types t ≡ Some ty)
Holds s (wants.Resource p) = (n : ℕ) × (slice_get s.types p ≡ Some (resource n))

abbrev pub AllHold : Spaces → List Want → Type 0
AllHold s ws = AllByRecursion (Holds s) ws

-- The first want that does not hold, and how.
pub record IsFirstUnmet (s : Spaces) (ws : List Want) (f : FitFault) : Type 0 where
  pub want : Want
  pub there : slice_get ws f.want ≡ Some want
  pub before : AllHold s (take f.want ws)
  pub unmet : ¬ (Holds s want)
  pub reason : f.reason ≡ reason_of want
