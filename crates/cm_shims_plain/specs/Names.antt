-- The sorts and names of imports and arguments, and that none stands twice (Explainer.md, "Name
-- Uniqueness").
use Rattle.std.specs.Prelude.{ℕ, suc, ◌==◌, false, Bool, List, [], ◌∷◌, map, Option, Some, None}
use Rattle.std.specs.Prelude.{if◌then◌else◌}
use Rattle.std.specs.List.{flat_map}
use Rattle.std.specs.Option.{option_map_or}
use Rattle.cm_types.specs.declared.def_types.ExportDesc.{ExportDesc}
use Rattle.cm_types.specs.declared.def_types.ExportDesc.TheVariants as descs
use Rattle.cm_names.specs.Keys.{Key, first_key}
use Rattle.cm_binary_model.specs.declared.instances.InstanceExportSort.{InstanceExportSort}
use Rattle.cm_binary_model.specs.declared.instances.InstanceExportSort.TheVariants as sorts
use Rattle.cm_shims_plain.specs.declared.parts.Argument.{Argument}
use Rattle.cm_shims_plain.specs.declared.parts.ShimImport.{ShimImport}
use Rattle.cm_shims_plain.specs.Trees as trees
use Rattle.cm_shims_plain.specs.Trees.{ShimSectionTree}

-- A sort, as a number.
abbrev pub sort_key : InstanceExportSort → ℕ
sort_key sorts.Func = 1
sort_key sorts.Type = 3

-- The sort of what is imported.
abbrev pub sort_of : ExportDesc → InstanceExportSort
sort_of (descs.Func ty) = sorts.Func
sort_of (descs.Type bound) = sorts.Type

-- The sort and the name of an argument, and of an import.
abbrev pub argument_key : Argument → Key
argument_key a = (sort_key a.sort, a.name)

abbrev pub import_key : ShimImport → Key
import_key i = (sort_key (sort_of i.desc), i.name)

-- Those of all imports of a shim.
abbrev pub section_keys : ShimSectionTree → List Key
section_keys (trees.shared section) = []
section_keys (trees.shim_imports items) = map import_key items
section_keys (trees.shim_exports items) = []

abbrev pub import_keys : List ShimSectionTree → List Key
import_keys shim = flat_map section_keys shim

-- Whether the first of these that is this one stands at this place.
abbrev pub is_first : List Key → ℕ → Key → Bool
is_first keys i k = option_map_or (λ j. j == i) (first_key keys k.0 k.1) false

-- The place of the first of them that stood before; the rest stand from this place on.
abbrev pub twice_from : List Key → ℕ → List Key → Option ℕ
twice_from keys i [] = None
twice_from keys i (k ∷ rest) =
    if is_first keys i k then twice_from keys (suc i) rest else Some i

abbrev pub first_twice : List Key → Option ℕ
first_twice keys = twice_from keys 0 keys
