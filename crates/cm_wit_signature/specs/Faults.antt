-- The signature of a world of packages, or why it has none (WIT.md, "Worlds"; the faults and their
-- order are this project's own choice).
use Rattle.std.specs.Prelude.{◌≡◌, ◌⊎◌, ℕ, false, List, Option, Some, None, slice_get, length}
use Rattle.std.specs.List.{AllByRecursion, list_all}
use Rattle.std.specs.Option.{option_and_then}
use Rattle.cm_types.specs.Types.{Ty, FuncTy}
use Rattle.cm_types.specs.Limits.{IsWithinLimits}
use Rattle.cm_types.specs.Spellable.{is_spellable}
use Rattle.cm_types.specs.Signatures.{SignatureTy}
use Rattle.cm_wit_reading.specs.Trees.{File}
use Rattle.cm_wit_worlds.specs.Interfaces.{PlacedWorld, world_at, worlds, interfaces}
use Rattle.cm_wit_meanings.specs.Faults.{IsFuncWithin, is_func_spellable}
use Rattle.cm_wit_meanings.specs.Scopes.{Meaning, as_type}
use Rattle.cm_wit_tables.specs.Declarations.{HasTypeCycle}
use Rattle.cm_wit_tables.specs.Tables.{Solves}
use Rattle.cm_wit_tables.specs.Worlds.{Instance, instances, declarations}
use Rattle.cm_wit_worlds.specs.declared.fault.WorldFault.{WorldFault}
use Rattle.cm_wit_worlds.specs.declared.fault.WorldFault.TheVariants as fault
use Rattle.cm_wit_worlds.specs.Worlds.{HasNoInterface, HasInterfaceCycle, AreWorldExterns}
use Rattle.cm_wit_signature.specs.Functions.{funcs_in}
use Rattle.cm_wit_signature.specs.Signatures.{signature_in}
use Rattle.cm_wit_signature.specs.Named.{AreInstances, HaveTypes}

-- the world of a full name
abbrev pub world_of : List File → List ℕ → Option PlacedWorld
world_of fs name = option_and_then (slice_get (worlds fs)) (world_at fs name)

-- Each type that is declared is within the limits, as it is.
abbrev pub AreTypesWithin : List (Option Meaning) → Type 0
AreTypesWithin table = (k : ℕ) (m : Meaning) → slice_get table k ≡ Some (Some m)
    → IsWithinLimits (as_type m)

-- The signature of the world of a full name. It is there where each name in what the world reaches
-- leads to what it should, nothing uses itself, and each type and function is within the limits.
pub record IsWorldSignature (fs : List File) (name : List ℕ) (s : SignatureTy) : Type 0 where
  pub world : PlacedWorld
  pub is_world : world_of fs name ≡ Some world
  pub into : List ℕ
  pub out : List ℕ
  pub externs : AreWorldExterns fs world into out
  pub typed : HaveTypes fs world (instances (length (interfaces fs)) into out)
  pub acyclic : ¬ (HasTypeCycle (declarations fs (instances (length (interfaces fs)) into out)))
  pub table : List (Option Meaning)
  pub solves : Solves (declarations fs (instances (length (interfaces fs)) into out)) table
  pub is : signature_in fs world into out table ≡ Some s
  pub types_within : AreTypesWithin table
  pub funcs_within : AllByRecursion IsFuncWithin (funcs_in s)

-- ---- faults

-- A type that no file can have: it is over the limits, or it cannot be spelled, as no text gives.
abbrev pub IsTooLarge : Ty → Type 0
IsTooLarge t = ¬ (IsWithinLimits t) ⊎ (is_spellable t ≡ false)

-- A type that is declared is too large, where declarations stand for what this table has.
abbrev pub HasLargeType : List (Option Meaning) → Type 0
HasLargeType table = (k : ℕ) × (m : Meaning) × (slice_get table k ≡ Some (Some m))
    × IsTooLarge (as_type m)

-- One of these functions is.
abbrev pub HasLarge : List FuncTy → Type 0
HasLarge fs = ¬ (AllByRecursion IsFuncWithin fs) ⊎ (list_all is_func_spellable fs ≡ false)

-- A function of a signature is.
abbrev pub HasLargeFunc : Option SignatureTy → Type 0
HasLargeFunc signature =
    (s : SignatureTy) × (signature ≡ Some s) × HasLarge (funcs_in s)

-- A type of a world that imports and exports these is too large, and nothing else is wrong.
pub record IsTooLargeIn (fs : List File) (w : PlacedWorld) (into out : List ℕ) : Type 0 where
  pub externs : AreWorldExterns fs w into out
  pub typed : HaveTypes fs w (instances (length (interfaces fs)) into out)
  pub acyclic : ¬ (HasTypeCycle (declarations fs (instances (length (interfaces fs)) into out)))
  pub table : List (Option Meaning)
  pub solves : Solves (declarations fs (instances (length (interfaces fs)) into out)) table
  pub large : HasLargeType table ⊎ HasLargeFunc (signature_in fs w into out table)

-- A name in what a world reaches leads to no type, or that of a borrow to no resource.
abbrev pub HasNoType : List File → PlacedWorld → Type 0
HasNoType fs w = (xs : List Instance) × AreInstances fs w xs × ¬ (HaveTypes fs w xs)

-- Each leads to one, and an interface or a type that the world reaches uses itself.
abbrev pub HasCycle : List File → PlacedWorld → Type 0
HasCycle fs w = (xs : List Instance) × AreInstances fs w xs × HaveTypes fs w xs
    × (HasInterfaceCycle fs w ⊎ HasTypeCycle (declarations fs xs))

-- Why a world that is there has no signature, the smallest number first. Where memory ran out
-- nothing is said.
abbrev pub IsFaultIn : List File → PlacedWorld → WorldFault → Type 0
IsFaultIn fs w fault.NoSuchWorld = ⊥
IsFaultIn fs w fault.NoSuchInterface = HasNoInterface fs w
IsFaultIn fs w fault.NoSuchType = ¬ (HasNoInterface fs w) × HasNoType fs w
IsFaultIn fs w fault.Cycle = ¬ (HasNoInterface fs w) × HasCycle fs w
IsFaultIn fs w fault.TooLarge = (into : List ℕ) × (out : List ℕ) × IsTooLargeIn fs w into out
IsFaultIn fs w fault.Memory = Unit {0}

-- Why there is no signature of the world of a full name.
abbrev pub IsFaultOfWorld : List File → List ℕ → WorldFault → Type 0
IsFaultOfWorld fs name fault.NoSuchWorld = world_of fs name ≡ None
IsFaultOfWorld fs name fault.Memory = Unit {0}
IsFaultOfWorld fs name f =
    (w : PlacedWorld) × (world_of fs name ≡ Some w) × IsFaultIn fs w f
