-- What canonical definitions and resources name is there, in a component that is valid
-- (Explainer.md, "Canonical Definitions").
use Rattle.std.specs.Prelude.{◌≡◌, ⊤, ℕ, List, [], Option, Some, None, false, slice_get}
use Rattle.std.specs.List.{AllByRecursion}
use Rattle.cm_types.specs.Holds.{is_borrow}
use Rattle.cm_binary_model.specs.declared.canons.CanonOption.{CanonOption}
use Rattle.cm_binary_model.specs.declared.canons.CanonOption.TheVariants as option
use Rattle.cm_validate_model.specs.Definitions.{CoreExport, CoreFuncDef, guest, lowered, making}
use Rattle.cm_validate_model.specs.Definitions.{dropping, reading, FuncDef, lifted, imported}
use Rattle.cm_validate_model.specs.Definitions.{ResourceDef, defined, brought}
use Rattle.cm_validate_model.specs.Options.{lift_type_broken, lower_type_broken, result_holds}
use Rattle.cm_validate_model.specs.Spaces.{Spaces}

-- a guest's core function has this index
abbrev pub IsGuestAt : Spaces → ℕ → Type 0
IsGuestAt s i = (e : CoreExport) × (slice_get s.core_funcs i ≡ Some (guest e))

-- what an option names is there: a memory, or a guest's core function
abbrev pub IsOptionThere : Spaces → CanonOption → Type 0
IsOptionThere s (option.Memory i) = (e : CoreExport) × (slice_get s.memories i ≡ Some e)
IsOptionThere s (option.Realloc i) = IsGuestAt s i
IsOptionThere s (option.PostReturn i) = IsGuestAt s i
IsOptionThere s _ = ⊤

abbrev pub AreOptionsThere : Spaces → List CanonOption → Type 0
AreOptionsThere s os = AllByRecursion (IsOptionThere s) os

-- A lift is of a guest's core function, what its options name is there, and they are all that its
-- type needs; its result holds no borrow.
abbrev pub IsLiftWhole : Spaces → FuncDef → Type 0
IsLiftWhole s (lifted f ty os) =
    IsGuestAt s f × AreOptionsThere s os × (lift_type_broken os ty ≡ [])
    × (result_holds is_borrow ty ≡ false)
IsLiftWhole s (imported import item ty) = ⊤

-- a resource of the component has this number, and one that the component defines
abbrev pub IsResourceAt : Spaces → ℕ → Type 0
IsResourceAt s n = (r : ResourceDef) × (slice_get s.resources n ≡ Some r)

abbrev pub IsOwnResourceAt : Spaces → ℕ → Type 0
IsOwnResourceAt s n = (d : Option ℕ) × (slice_get s.resources n ≡ Some (defined d))

-- Of a core function that lowers an import, what its options name is there, and they are all that
-- its type needs; handles are made, and read, of a resource that the component defines, and dropped
-- of one that it has.
abbrev pub IsCoreWhole : Spaces → CoreFuncDef → Type 0
IsCoreWhole s (guest e) = ⊤
IsCoreWhole s (lowered import item ty os) =
    AreOptionsThere s os × (lower_type_broken os ty ≡ [])
IsCoreWhole s (making n) = IsOwnResourceAt s n
IsCoreWhole s (dropping n) = IsResourceAt s n
IsCoreWhole s (reading n) = IsOwnResourceAt s n

-- the destructor of a resource that the component defines, if it has one, is a guest's
abbrev pub IsResourceWhole : Spaces → ResourceDef → Type 0
IsResourceWhole s (defined None) = ⊤
IsResourceWhole s (defined (Some f)) = IsGuestAt s f
IsResourceWhole s (brought import item) = ⊤
