-- Which imports of a component are instances of one type, and which exports are one instance
-- (Explainer.md, "Index Spaces", "Import and Export Definitions").
use Rattle.std.specs.Prelude.{◌≡◌, ℕ, ◌+◌, ◌≤◌, List, Option, Some, IsSome, map, slice_get}
use Rattle.std.specs.Prelude.{option_and_then}
use Rattle.std.specs.Option.{option_map}
use Rattle.cm_types.specs.Signatures.{ExternTy, NamedItem}
use Rattle.cm_types.specs.Signatures as extern
use Rattle.cm_validate_model.specs.Definitions.{ExportDef, InstanceTy, NamedMember, ResourceDef}
use Rattle.cm_validate_model.specs.Definitions.{exported_instance, instance_type}
use Rattle.cm_validate_model.specs.Moves.{moved_item}
use Rattle.cm_validate_model.specs.Spaces.{Spaces, brought_from}
use Rattle.cm_validate_items.specs.Numbers.{Numbers}
use Rattle.cm_validate_items.specs.declared.shared.Shared.{Shared}

-- ---- the numbers that are told

abbrev pub numbers_in : Shared → Numbers
numbers_in w =
    record {
      types = w.types.items;
      instances = w.instances.items;
      imports = w.imports.items;
      exports = w.exports.items;
    }

-- the number of an import, and of an export, if it is an instance
abbrev pub import_type_in : Shared → ℕ → Option ℕ
import_type_in w import = option_and_then (λ r. r) (slice_get w.imports.items import)

abbrev pub exported_instance_in : Shared → ℕ → Option ℕ
exported_instance_in w export = option_and_then (λ r. r) (slice_get w.exports.items export)

-- ---- what they say

-- an item of an instance of this type, whose own resources are numbered from one on
abbrev pub item_from : InstanceTy → ℕ → NamedItem → NamedItem
item_from i next x = record { name = x.name; desc = moved_item i next x.desc }

-- The import of a number is an instance of this type: its items are those of the type, and the
-- resources that they bring are the component's from `next` on, after those that the type knows.
pub record IsImportOf (s : Spaces) (number : ℕ) (i : InstanceTy) : Type 0 where
  pub next : ℕ
  pub name : List ℕ
  pub import_is : slice_get s.imports number
      ≡ Some (record { name = name; desc = extern.instance (map (item_from i next) i.items) })
  pub known : i.first ≤ next
  pub brought : (k : ℕ) (d : ResourceDef) → slice_get (brought_from number 0 i.items) k ≡ Some d
      → slice_get s.resources (next + k) ≡ Some d

-- what the import, and the export, of a number is
abbrev pub import_at : Spaces → ℕ → Option ExternTy
import_at s import = option_map (λ x. x.desc) (slice_get s.imports import)

abbrev pub export_at : Spaces → ℕ → Option ExportDef
export_at s export = option_map (λ x. x.def) (slice_get s.exports export)

-- Each import that is an instance has the first index of its type as its number, and each export
-- that is one that of the instance: so equal numbers mean one type, or one instance.
pub record AreShared (s : Spaces) (w : Shared) : Type 0 where
  pub imports : (import r : ℕ) → import_type_in w import ≡ Some r
      → (i : InstanceTy) × (slice_get s.types r ≡ Some (instance_type i)) × IsImportOf s import i
  pub exports : (export r : ℕ) → exported_instance_in w export ≡ Some r
      → (ms : List NamedMember) × (slice_get s.instances r ≡ Some ms)
      × (export_at s export ≡ Some (exported_instance ms))
  pub all_imports : (import : ℕ) (items : List NamedItem)
      → import_at s import ≡ Some (extern.instance items) → IsSome (import_type_in w import)
  pub all_exports : (export : ℕ) (ms : List NamedMember)
      → export_at s export ≡ Some (exported_instance ms) → IsSome (exported_instance_in w export)
