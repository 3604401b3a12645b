-- The tables in which names and core functions are found: keys, each a number and a name.
use Rattle.std.specs.Prelude.{ℕ, List, [], Option, Some, None, map, length, codes, unwrap_or}
use Rattle.cm_names.specs.Keys.{Key}
use Rattle.cm_types.specs.Signatures.{NamedExtern}
use Rattle.cm_validate_model.specs.Definitions.{CoreFuncDef, NamedExport, ResourceDef}
use Rattle.cm_validate_functions.specs.Leading.{lowered_import, lowered_item}
use Rattle.cm_validate_functions.specs.Lifts.{LiftDef, Purpose, used_by}
use Rattle.cm_validate_functions.specs.Used.{destructor_in, lower_allocator}

-- a number as a key, if there is one; its name says that there is none
abbrev pub number_key : Option ℕ → Key
number_key None = (0, codes "-")
number_key (Some n) = (n, [])

-- the names of exports, and of imports
abbrev pub export_keys : List NamedExport → List Key
export_keys exports = map (λ e. (0, e.name)) exports

abbrev pub import_keys : List NamedExtern → List Key
import_keys imports = map (λ i. (0, i.name)) imports

-- the import of a function that a core function lowers
abbrev pub import_key : CoreFuncDef → Key
import_key d = number_key (lowered_import d)

-- the item of an import that it lowers; the number of no import stands for the other core functions
abbrev pub item_key : List NamedExtern → CoreFuncDef → Key
item_key imports d = unwrap_or (lowered_item imports d) (length imports, [])

-- the allocator of a lower, the destructor of a resource, and what a lift uses
abbrev pub allocator_key : CoreFuncDef → Key
allocator_key d = number_key (lower_allocator d)

abbrev pub destructor_key : ResourceDef → Key
destructor_key r = number_key (destructor_in r)

abbrev pub use_key : Purpose → LiftDef → Key
use_key p l = number_key (used_by p l)
