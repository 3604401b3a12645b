-- A walk over the imports of a set, to the first that is not served (how components are linked is
-- this project's own choice).
use Rattle.std.specs.Prelude.{◌≡◌, ◌⊎◌, ℕ, List, [], ◌∷◌, ◌++◌, Some}
use Rattle.cm_types.specs.Signatures.{NamedExtern}
use Rattle.cm_match_model.specs.declared.fault.LinkFault.{LinkFault}
use Rattle.cm_match_model.specs.declared.fault.LinkReason.{LinkReason}
use Rattle.cm_match_model.specs.declared.fault.LinkReason.TheVariants as reason
use Rattle.cm_match_model.specs.declared.plan.PlanLine.{PlanLine}
use Rattle.cm_match_model.specs.Imports.{ImportAt, LinkSet, import_at, import_in, imports_of}
use Rattle.cm_match_model.specs.Links.{IsNotServed, IsServed, lines_of}
use Rattle.cm_match_model.specs.Serving.{IsFirst}
use Rattle.cm_match.specs.Before.{AreServedBefore, imports_before}

-- the imports before a place are served, and these are their lines
pub record HasServed (set : LinkSet) (component number : ℕ) (plan : List PlanLine)
    : Type 0 where
  pub served : AreServedBefore set component number
  pub lines : plan ≡ lines_of set (imports_before set.spaces component number)

-- the line of an import stands behind those before it
abbrev pub AddsLine : LinkSet → ℕ → ℕ → List PlanLine → List PlanLine → Type 0
AddsLine set component number old new =
    (x : NamedExtern) → import_in set.spaces component number ≡ Some x
    → new ≡ old ++ lines_of set (import_at component number x ∷ [])

-- an import is served, and its line stands behind those before it
abbrev pub Serves : LinkSet → ℕ → ℕ → List PlanLine → List PlanLine → Type 0
Serves set component number old new =
    (x : NamedExtern) → import_in set.spaces component number ≡ Some x
    → IsServed set (import_at component number x)
    × (new ≡ old ++ lines_of set (import_at component number x ∷ []))

-- an import is not served for this reason, or there was no memory
abbrev pub Stops : LinkSet → ℕ → ℕ → LinkReason → Type 0
Stops set component number r =
    (x : NamedExtern) → import_in set.spaces component number ≡ Some x
    → (r ≡ reason.Memory) ⊎ IsNotServed set (import_at component number x) r

-- the first import that is not served is that of this number of this component
pub record IsFirstOf (set : LinkSet) (component number : ℕ) (r : LinkReason) : Type 0 where
  pub import : ImportAt
  pub first : IsFirst (IsServed set) (imports_of set.spaces) import
  pub component_is : import.component ≡ component
  pub number_is : import.number ≡ number
  pub fails : IsNotServed set import r

-- a walk ends at the first import that is not served, or where there is no memory, behind imports
-- that are served
abbrev pub IsWalkFault : LinkSet → LinkFault → Type 0
IsWalkFault set f =
    ((f.reason ≡ reason.Memory) × AreServedBefore set f.component f.import)
    ⊎ IsFirstOf set f.component f.import f.reason
