-- The imports of a set of components, and the exports that they may be linked to (how components
-- are linked is this project's own choice).
use Rattle.std.specs.Prelude.{ℕ, ◌+◌, Bool, true, ◌&&◌, filter, List, [], ◌∷◌, ◌++◌, Option, Some}
use Rattle.std.specs.Prelude.{None, slice_get, take}
use Rattle.std.specs.Option.{option_map, option_and_then}
use Rattle.cm_types.specs.Signatures.{NamedExtern}
use Rattle.cm_match_model.specs.Fitting.{NamedExport, fits, named_export}
use Rattle.cm_validate_model.specs.Definitions.{ExportDef}
use Rattle.cm_validate_model.specs.Definitions as definitions
use Rattle.cm_validate_model.specs.Spaces.{Spaces}
use Rattle.cm_match_model.specs.Origins.{Links}
use Rattle.cm_match_model.specs.declared.component.Link.{Link}

-- an import at its place in a set: its component, its number there, and itself
pub record ImportAt : Type 0 where
  pub component : ℕ
  pub number : ℕ
  pub item : NamedExtern

abbrev pub import_at : ℕ → ℕ → NamedExtern → ImportAt
import_at component number item =
    record { component = component; number = number; item = item }

-- the import, and what is exported, under this number of a component
abbrev pub import_in : List Spaces → ℕ → ℕ → Option NamedExtern
import_in set component number =
    option_and_then (λ s. slice_get s.imports number) (slice_get set component)

abbrev pub export_in : List Spaces → ℕ → ℕ → Option ExportDef
export_in set component number =
    option_and_then (λ s. option_map (λ e. e.def) (slice_get s.exports number))
    (slice_get set component)

-- imports of a component, numbered from here on, and those of components from here on
abbrev pub imports_from : ℕ → ℕ → List NamedExtern → List ImportAt
imports_from component number [] = []
imports_from component number (x ∷ xs) =
    import_at component number x ∷ imports_from component (number + 1) xs

abbrev pub all_imports_from : ℕ → List Spaces → List ImportAt
all_imports_from component [] = []
all_imports_from component (s ∷ ss) =
    imports_from component 0 s.imports ++ all_imports_from (component + 1) ss

-- the imports of a set, in order
abbrev pub imports_of : List Spaces → List ImportAt
imports_of set = all_imports_from 0 set

-- the names of exports of a component, numbered from here on, and of components from here on
abbrev pub exports_from : ℕ → ℕ → List definitions.NamedExport → List NamedExport
exports_from component number [] = []
exports_from component number (x ∷ xs) =
    named_export component number x.name ∷ exports_from component (number + 1) xs

abbrev pub all_exports_from : ℕ → List Spaces → List NamedExport
all_exports_from component [] = []
all_exports_from component (s ∷ ss) =
    exports_from component 0 s.exports ++ all_exports_from (component + 1) ss

-- the exports of the components before this one
abbrev pub exports_before : List Spaces → ℕ → List NamedExport
exports_before set component = all_exports_from 0 (take component set)

-- which exports an import may see: by its component, its number there, and the export
abbrev pub Sees : Type 0
Sees = ℕ → ℕ → NamedExport → Bool

abbrev pub sees_all : Sees
sees_all component number e = true

-- components, and what their imports see
pub record LinkSet : Type 0 where
  pub spaces : List Spaces
  pub sees : Sees

abbrev pub seen_by : Sees → List Spaces → LinkSet
seen_by sees spaces = record { spaces = spaces; sees = sees }

-- those exports that may serve an import: that it sees, and that fit it by name
abbrev pub candidates : LinkSet → ℕ → ℕ → NamedExtern → List NamedExport
candidates set component number item =
    filter (λ e. set.sees component number e && fits item.name e.name)
    (exports_before set.spaces component)

-- an import is linked to its candidate, where there is just one
abbrev pub only_link : List NamedExport → Option Link
only_link [] = None
only_link (e ∷ []) = Some (record { component = e.component; export = e.number })
only_link (e ∷ f ∷ es) = None

abbrev pub link_of : LinkSet → ImportAt → Option Link
link_of set i = only_link (candidates set i.component i.number i.item)

abbrev pub links_of : LinkSet → Links
links_of set component number =
    option_and_then (λ x. link_of set (import_at component number x))
    (import_in set.spaces component number)
