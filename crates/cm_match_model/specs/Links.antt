-- Sets of components that can be linked, and the first fault of one that can't (how components are
-- linked is this project's own choice).
use Rattle.std.specs.Prelude.{◌≡◌, ℕ, ◌<◌, ◌≤◌, List, [], length, Some, option_to_list}
use Rattle.std.specs.List.{AllByRecursion, flat_map}
use Rattle.std.specs.Option.{option_map}
use Rattle.cm_validate_model.specs.Definitions.{ExportDef}
use Rattle.cm_match_model.specs.declared.component.Link.{Link}
use Rattle.cm_match_model.specs.declared.fault.LinkReason.{LinkReason}
use Rattle.cm_match_model.specs.declared.fault.LinkReason.TheVariants as reason
use Rattle.cm_match_model.specs.declared.plan.TheConstants.{MAX_COMPONENTS}
use Rattle.cm_match_model.specs.declared.plan.PlanLine.{PlanLine}
use Rattle.cm_match_model.specs.Imports.{ImportAt, LinkSet, candidates, export_in, imports_of}
use Rattle.cm_match_model.specs.Imports.{link_of}
use Rattle.cm_match_model.specs.Serving.{IsExternUnserved, IsFirst, ServesExtern}

-- an import has just one candidate, which serves it
pub record IsServed (set : LinkSet) (i : ImportAt) : Type 0 where
  pub link : Link
  pub linked : link_of set i ≡ Some link
  pub export : ExportDef
  pub exported : export_in set.spaces link.component link.export ≡ Some export
  pub serves : ServesExtern set i.component i.item.desc link.component export

-- why an import is not served: it has no candidate, or several, or the only one does not serve it
pub record IsNotServedBy (set : LinkSet) (i : ImportAt) (r : LinkReason) : Type 0 where
  pub link : Link
  pub linked : link_of set i ≡ Some link
  pub export : ExportDef
  pub exported : export_in set.spaces link.component link.export ≡ Some export
  pub fails : IsExternUnserved set i.component i.item.desc link.component export r

abbrev pub IsNotServed : LinkSet → ImportAt → LinkReason → Type 0
IsNotServed set i reason.NoProvider = candidates set i.component i.number i.item ≡ []
IsNotServed set i reason.TwoProviders = 1 < length (candidates set i.component i.number i.item)
IsNotServed set i r = IsNotServedBy set i r

-- the line of a plan for an import that is linked
abbrev pub plan_line : ImportAt → Link → PlanLine
plan_line i l =
    record {
      importer = i.component;
      import = i.number;
      provider = l.component;
      export = l.export;
    }

-- the plan of a set: a line for each import, in order
abbrev pub lines_of : LinkSet → List ImportAt → List PlanLine
lines_of set is = flat_map (λ i. option_to_list (option_map (plan_line i) (link_of set i))) is

abbrev pub plan_of : LinkSet → List PlanLine
plan_of set = lines_of set (imports_of set.spaces)

-- A set of 1 to MAX_COMPONENTS components whose imports are all served can be linked.
pub record CanBeLinked (set : LinkSet) : Type 0 where
  pub some : 0 < length set.spaces
  pub few : length set.spaces ≤ MAX_COMPONENTS
  pub served : AllByRecursion (IsServed set) (imports_of set.spaces)

-- the first import that is not served is that of this number of this component, for this reason
pub record IsFirstNotServed (set : LinkSet) (component number : ℕ) (r : LinkReason)
    : Type 0 where
  pub some : 0 < length set.spaces
  pub few : length set.spaces ≤ MAX_COMPONENTS
  pub import : ImportAt
  pub first : IsFirst (IsServed set) (imports_of set.spaces) import
  pub component_is : import.component ≡ component
  pub number_is : import.number ≡ number
  pub fails : IsNotServed set import r

-- the fault of a set that can't be linked: no component, more than MAX_COMPONENTS, or the first
-- import that is not served
abbrev pub IsLinkFault : LinkSet → ℕ → ℕ → LinkReason → Type 0
IsLinkFault set component number reason.Empty = (set.spaces ≡ []) × (component ≡ 0) × (number ≡ 0)
IsLinkFault set component number reason.TooMany =
    (MAX_COMPONENTS < length set.spaces) × (component ≡ 0) × (number ≡ 0)
IsLinkFault set component number reason.Memory = ⊥
IsLinkFault set component number r = IsFirstNotServed set component number r
