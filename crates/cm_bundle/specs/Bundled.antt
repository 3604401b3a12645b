-- The bundle of a linked set (how components are linked, and what a bundle exports, is this
-- project's own choice).
use Rattle.std.specs.Prelude.{◌≡◌, ℕ, List, [], ◌∷◌, Option, map, slice_get}
use Rattle.std.specs.List.{enumerate_from, filter_map}
use Rattle.std.specs.Option.{option_map, option_map_or, option_and_then}
use Rattle.cm_types.specs.Signatures.{ExternTy, NamedExtern}
use Rattle.cm_types.specs.Signatures as extern
use Rattle.cm_validate_model.specs.Definitions.{ExportDef, NamedExport}
use Rattle.cm_validate_model.specs.Definitions as definitions
use Rattle.cm_validate_model.specs.Spaces.{Spaces}
use Rattle.cm_match_model.specs.declared.plan.PlanLine.{PlanLine}
use Rattle.cm_match_model.specs.Imports.{LinkSet, import_in}
use Rattle.cm_match_model.specs.Links.{lines_of}
use Rattle.cm_match.specs.Before.{imports_at}
use Rattle.cm_bundle.specs.declared.form.Sort.{Sort}
use Rattle.cm_bundle.specs.declared.form.Sort.TheVariants as sorts
use Rattle.cm_bundle.specs.Fronts.{all_passed_on, AreGroups}
use Rattle.cm_bundle.specs.Names.{name_sections}
use Rattle.cm_bundle.specs.Trees.{GroupTree, SupplyTree, PartTree, BundleTree, NameTree}

-- ---- sorts (Binary.md, `sort`)

abbrev pub import_sort : ExternTy → Sort
import_sort (extern.func ty) = sorts.Func
import_sort (extern.instance items) = sorts.Instance

abbrev pub export_sort : ExportDef → Sort
export_sort (definitions.exported_func f) = sorts.Func
export_sort (definitions.exported_instance members) = sorts.Instance

-- ---- what imports are given

-- the export of a number of a component
abbrev pub export_at : List Spaces → ℕ → ℕ → Option NamedExport
export_at set component number =
    option_and_then (λ s. slice_get s.exports number) (slice_get set component)

-- an export of a component for an import: under the import's name, as the export of its own name
abbrev pub supplied : ℕ → NamedExtern → NamedExport → SupplyTree
supplied component i e = record {
  name = i.name;
  export = record { part = component; sort = import_sort i.desc; name = e.name };
}

-- what the import of a line is given: the export that it is linked to
abbrev pub argument_of : List Spaces → PlanLine → Option SupplyTree
argument_of set l =
    option_and_then (λ i. option_map (supplied l.provider i) (export_at set l.provider l.export))
    (import_in set l.importer l.import)

-- what the imports of a component are given, in order
abbrev pub arguments_of : LinkSet → ℕ → List SupplyTree
arguments_of set component =
    filter_map (argument_of set.spaces) (lines_of set (imports_at set.spaces component))

-- ---- bundles

-- the part of a component, by its number and its file
abbrev pub part_of : LinkSet → ℕ × List ℕ → PartTree
part_of set p = record { file = p.1; arguments = arguments_of set p.0 }

-- an export of a component, under its own name
abbrev pub exported : ℕ → NamedExport → SupplyTree
exported component e = record {
  name = e.name;
  export = record { part = component; sort = export_sort e.def; name = e.name };
}

-- what a component exports, in order
abbrev pub exports_of : List Spaces → ℕ → List SupplyTree
exports_of set component =
    option_map_or (λ s. map (exported component) s.exports) (slice_get set component) []

-- the number of the first component that is a part: in a set of which an open bundle is made
-- component 0 stands for what the bundle imports
abbrev pub first_part : List GroupTree → ℕ
first_part [] = 0
first_part (g ∷ gs) = 1

-- this front imports what component 0 exports, in order and under the same names
pub record IsFrontOf (set : LinkSet) (front : List GroupTree) : Type 0 where
  pub groups : AreGroups front
  pub same : all_passed_on front ≡ exports_of set.spaces 0

-- a closed bundle has no front, and an open one that of component 0
abbrev pub FrontFits : LinkSet → List GroupTree → Type 0
FrontFits set [] = Unit {0}
FrontFits set (g ∷ gs) = IsFrontOf set (g ∷ gs)

-- the bundle of a set with this front and these files, which exports what this component does, with
-- custom sections of these contents
abbrev pub bundle_with : LinkSet → List GroupTree → List (List ℕ) → ℕ → List (List ℕ) → BundleTree
bundle_with set front files exporter customs = record {
  front = front;
  parts = map (part_of set) (enumerate_from (first_part front) files);
  exports = exports_of set.spaces exporter;
  customs = customs;
}

-- the same, with these names for its parts
abbrev pub bundle_of : LinkSet → List GroupTree → List (List ℕ) → ℕ → List NameTree → BundleTree
bundle_of set front files exporter names =
    bundle_with set front files exporter (name_sections names)
