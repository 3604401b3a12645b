-- The items of an imported instance, and the resources that they bring (Explainer.md, "Instance
-- Types"; Binary.md, "Import and Export Definitions").
use Rattle.std.specs.Prelude.{◌≡◌, ◌+◌, ⊤, ℕ, List, [], ◌∷◌, Some, map, slice_get}
use Rattle.cm_types.specs.Signatures.{ItemTy, NamedItem, fresh_resource}
use Rattle.cm_types_arena.specs.Moves.{moved}
use Rattle.cm_types_arena.specs.Instances.{replaced_item}
use Rattle.cm_validate_model.specs.Definitions.{InstanceTy, ResourceDef, brought}
use Rattle.cm_validate_model.specs.Scopes.{resource_id}
use Rattle.cm_validate_model.specs.Counted.{IsItemCounted}
use Rattle.cm_validate_model.specs.CountedSpaces.{fresh_numbers, numbers_from}

-- ---- imports of one type

-- the items of a type, as an import has them that counts the type's own resources from `next` on
abbrev pub items_from : InstanceTy → ℕ → List NamedItem
items_from t next = map (replaced_item (moved t.first t.fresh next)) t.items

-- a type's own resources are those that its items bring, one after another
abbrev pub OwnsWhatItBrings : InstanceTy → Type 0
OwnsWhatItBrings t = fresh_numbers t.items ≡ numbers_from t.first t.fresh

-- ---- items in order

-- where `next` is the number of the next resource: an item that brings a resource brings that one,
-- and another item names only resources that are there
abbrev pub IsInOrder : ℕ → ItemTy → Type 0
IsInOrder next (fresh_resource r) = r ≡ resource_id next
IsInOrder next d = IsItemCounted next d

-- the number of the next resource behind an item
abbrev pub behind : ℕ → ItemTy → ℕ
behind next (fresh_resource r) = next + 1
behind next d = next

-- Each of these items is in order, one after another: what it names stands before it.
abbrev pub AreInOrder : ℕ → List NamedItem → Type 0
AreInOrder next [] = ⊤
AreInOrder next (i ∷ is) = IsInOrder next i.desc × AreInOrder (behind next i.desc) is

-- ---- what they bring

-- among a component's resources, the one that an item of an import brings is that of the numbers of
-- import and item
abbrev pub IsBrought : List ResourceDef → ℕ → ℕ → ItemTy → Type 0
IsBrought resources import number (fresh_resource r) =
    slice_get resources r.number ≡ Some (brought import number)
IsBrought resources import number d = ⊤

-- items numbered from one on bring the resources of their numbers
abbrev pub AreBrought : List ResourceDef → ℕ → ℕ → List NamedItem → Type 0
AreBrought resources import number [] = ⊤
AreBrought resources import number (i ∷ is) =
    IsBrought resources import number i.desc × AreBrought resources import (number + 1) is

-- An import with these items, of a component with these resources: the items are those of a type,
-- and bring the component's resources from `next` on, one after another; none names a resource that
-- an item behind it brings.
pub record BringsInOrder (resources : List ResourceDef) (import : ℕ) (items : List NamedItem)
    : Type 0 where
  pub ty : InstanceTy
  pub owns : OwnsWhatItBrings ty
  pub next : ℕ
  pub are_of_type : items ≡ items_from ty next
  pub in_order : AreInOrder next items
  pub brought : AreBrought resources import 0 items
