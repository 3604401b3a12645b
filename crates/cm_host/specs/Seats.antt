-- Seats of a host (this project's own choice).
use Rattle.std.specs.Prelude.{◌≡◌, ℕ, Bool, true, false, List, Option, Some, slice_get}
use Rattle.cm_binary_model.specs.declared.canons.CanonOption.{CanonOption}
use Rattle.cm_types.specs.Types.{FuncTy}
use Rattle.cm_abi_model.specs.Ways.{way_of}
use Rattle.cm_abi_model.specs.declared.encoding.StringEncoding.{StringEncoding}
use Rattle.cm_abi_model.specs.declared.encoding.StringEncoding.TheVariants as encoding
use Rattle.cm_abi_model.specs.declared.way.Way.TheVariants as way
use Rattle.cm_validate_model.specs.Definitions.{lifted, lowered}
use Rattle.cm_validate_model.specs.Spaces.{Spaces}
use Rattle.cm_validate_functions.specs.Functions.{spaces_of}
use Rattle.cm_validate_functions.specs.Leading.{exported_under, imported_core}
use Rattle.cm_validate_functions.specs.Options.{encoding_of}
use Rattle.cm_host_values.specs.HostTypes.{types_in, way_in}
use Rattle.cm_host_values.specs.Indexed.{host_types}
use Rattle.cm_host_values.specs.Rows.{result_types}
use Rattle.cm_host_values.specs.declared.host_types.HostTypes.{HostTypes}
use Rattle.cm_host.specs.declared.seat.Seat.{Seat}
use Rattle.cm_host.specs.declared.served.Served.{Served}

-- the instance of a seat
abbrev pub instance_of : Seat → ℕ
instance_of s = s.instance

-- the index spaces of its component
abbrev pub component_of : Seat → Spaces
component_of s = spaces_of s.functions

-- whether an encoding is UTF-8
abbrev pub is_utf8 : StringEncoding → Bool
is_utf8 encoding.Utf8 = true
is_utf8 e = false

-- Strings are passed in UTF-8 (CanonicalABI.md, "Canonical Definitions", the options
-- `string-encoding`): a host reads and writes no other.
abbrev pub IsUtf8 : List CanonOption → Type 0
IsUtf8 options = is_utf8 (encoding_of options) ≡ true

-- This core function lowers what a text names among the imports of the component, a function of
-- this type (CanonicalABI.md, "Canonical Definitions", `canon lower`).
pub record Imports (s : Seat) (name : List ℕ) (core_func : ℕ) (ty : FuncTy) : Type 0 where
  pub import : ℕ
  pub item : Option ℕ
  pub options : List CanonOption
  pub utf8 : IsUtf8 options
  pub named : imported_core (component_of s) name ≡ Some core_func
  pub lowers : slice_get (component_of s).core_funcs core_func
      ≡ Some (lowered import item ty options)

-- This core function is lifted to what a text names among the exports of the component, a function
-- of this type (CanonicalABI.md, "Canonical Definitions", `canon lift`).
pub record Exports (s : Seat) (name : List ℕ) (core_func : ℕ) (ty : FuncTy) : Type 0 where
  pub options : List CanonOption
  pub utf8 : IsUtf8 options
  pub named : exported_under (component_of s) name ≡ Some (lifted core_func ty options)

-- These are what the values of a function of this type are for a host, on their ways.
pub record ArePassedBy (ty : FuncTy) (params results : HostTypes) : Type 0 where
  pub params_are : types_in params ≡ host_types ty.params
  pub params_go : way_in params ≡ way_of way.Params
  pub results_are : types_in results ≡ host_types (result_types ty)
  pub results_go : way_in results ≡ way_of way.Results

-- the service whose functions a guest's are
abbrev pub service_of : {S : Type 0} → Served S → S
service_of g = g.service
