-- Imports of a component that are served alike: instances of one type, linked to the same instance
-- (how components are linked is this project's own choice).
use Rattle.std.specs.Prelude.{◌≡◌, ⊤, ℕ, List, [], ◌∷◌, length, Some}
use Rattle.cm_types.specs.Signatures.{ItemTy, NamedItem, func_item, equal_type, equal_resource}
use Rattle.cm_types.specs.Signatures.{fresh_resource, NamedExtern}
use Rattle.cm_types.specs.Signatures as extern
use Rattle.cm_validate_model.specs.Definitions.{InstanceTy, ExportDef, NamedMember}
use Rattle.cm_match_model.specs.declared.component.Link.{Link}
use Rattle.cm_match_model.specs.Imports.{LinkSet, export_in, import_in, links_of}
use Rattle.cm_match_model.specs.Serving.{IsFirst, IsItemServed, IsItemUnserved, IsSameFunc}
use Rattle.cm_match_model.specs.Serving.{IsSameType}
use Rattle.cm_match_model.specs.Serving.{standing}
use Rattle.cm_match_model.specs.declared.fault.LinkReason.{LinkReason}
use Rattle.cm_match_model.specs.Brought.{items_from}

-- The import of a number of a component is an instance of a type, whose own resources the component
-- counts from `next` on; it is linked to an export of this provider that is such a definition.
pub record IsLinkedTo (set : LinkSet) (component number : ℕ) (t : InstanceTy) (next : ℕ)
    (provider : ℕ) (definition : ExportDef) : Type 0 where
  pub import : NamedExtern
  pub there : import_in set.spaces component number ≡ Some import
  pub items : import.desc ≡ extern.instance (items_from t next)
  pub link : Link
  pub linked : links_of set component number ≡ Some link
  pub to : link.component ≡ provider
  pub exported : export_in set.spaces link.component link.export ≡ Some definition

-- ---- items that are served alike

-- what serves one of two items of a component serves the other: both are functions or types that
-- are the same, resources that are the same in the end, or resources that the instance brings
abbrev pub AreAlike : LinkSet → ℕ → ItemTy → ItemTy → Type 0
AreAlike set c (func_item f) (func_item g) = IsSameFunc set c f c g
AreAlike set c (equal_type t) (equal_type u) = IsSameType set c t c u
AreAlike set c (equal_resource r) (equal_resource q) = standing set c r ≡ standing set c q
AreAlike set c (fresh_resource r) (fresh_resource q) = ⊤
AreAlike set c _ _ = ⊥

-- Item by item, two lists are alike, as far as what another component has serves the first of them;
-- an item behind one that is not served does not matter.
abbrev pub AreAllAlike : LinkSet → ℕ → ℕ → List NamedMember → List NamedItem → List NamedItem
    → Type 0
AreAllAlike set c d members [] [] = ⊤
AreAllAlike set c d members (i ∷ is) (j ∷ js) =
    (i.name ≡ j.name) × AreAlike set c i.desc j.desc
    × (IsItemServed set c d members i → AreAllAlike set c d members is js)
AreAllAlike set c d members _ _ = ⊥

-- of these items the one of this number, from 0, is the first that is not served, for this reason
pub record FailsAt (set : LinkSet) (c d : ℕ) (members : List NamedMember)
    (items : List NamedItem) (number : ℕ) (r : LinkReason) : Type 0 where
  pub item : NamedItem
  pub first : IsFirst (IsItemServed set c d members) items item
  pub place : length first.front ≡ number
  pub fails : IsItemUnserved set c d members item r
