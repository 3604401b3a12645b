-- What an instance of a shim comes to (Binary.md, "Instance Definitions", `instantiate`): in place
-- of its imports stands what it is given, so what it exports are functions and types of the
-- component.
use Rattle.std.specs.Prelude.{ℕ, ◌+◌, List, [], ◌∷◌, ◌++◌, map, slice_get, Option, Some, None}
use Rattle.std.specs.Prelude.{Result, Ok, Err, is_none, if◌then◌else◌}
use Rattle.std.specs.Option.{option_and_then}
use Rattle.cm_binary_grammar.specs.Faults.{and_then}
use Rattle.cm_types.specs.declared.def_types.ExportDesc.{ExportDesc}
use Rattle.cm_types.specs.declared.def_types.ExportDesc.TheVariants as descs
use Rattle.cm_types.specs.declared.def_types.TypeBound.TheVariants as bounds
use Rattle.cm_types.specs.DefTypes.{DefTypeTree}
use Rattle.cm_names.specs.Keys.{first_key}
use Rattle.cm_binary_model.specs.declared.instances.InlineExport.{InlineExport}
use Rattle.cm_binary_model.specs.declared.instances.InstanceExportSort.{InstanceExportSort}
use Rattle.cm_binary_model.specs.declared.instances.InstanceExportSort.TheVariants as sorts
use Rattle.cm_binary_model.specs.Trees as sections
use Rattle.cm_binary_model.specs.Trees.{SectionTree}
use Rattle.cm_shims_plain.specs.declared.parts.Argument.{Argument}
use Rattle.cm_shims_plain.specs.declared.parts.ShimExport.{ShimExport}
use Rattle.cm_shims_plain.specs.declared.parts.ShimImport.{ShimImport}
use Rattle.cm_shims_plain.specs.Trees as trees
use Rattle.cm_shims_plain.specs.Trees.{ShimSectionTree}
use Rattle.cm_shims_plain.specs.declared.fault.ShimReason.{ShimReason}
use Rattle.cm_shims_plain.specs.declared.fault.ShimReason.TheVariants.{MissingArgument, NoSuchType}
use Rattle.cm_shims_plain.specs.declared.fault.ShimReason.TheVariants.{NoSuchFunc, OtherType}
use Rattle.cm_shims_plain.specs.declared.fault.ShimReason.TheVariants.{NameTwice}
use Rattle.cm_shims_plain.specs.declared.wants.Want.{Want}
use Rattle.cm_shims_plain.specs.declared.wants.Want.TheVariants as wants
use Rattle.cm_shims_plain.specs.Names.{argument_key, first_twice, sort_key}
use Rattle.cm_shims_plain.specs.Renumbered.{copied}
use Rattle.cm_shims_plain.specs.Spaces.{Types, place}
use Rattle.cm_shims_plain.specs.Steps.{each, or_reason}

-- An instance of a shim as far as the shim was gone through: its index spaces, with where each type
-- and function stands in the plain component; the types that the shim defines, as they stand there;
-- what the instance exports; and what the shim wants of types.
pub record Instantiated : Type 0 where
  pub types : Types
  pub funcs : List ℕ
  pub made : List DefTypeTree
  pub exports : List InlineExport
  pub wants : List Want

-- ---- what items add

abbrev pub add_type : ℕ → Types → Types
add_type p s = record { places = s.places ++ p ∷ []; count = s.count }

abbrev pub define_type : Types → Types
define_type s = record { places = s.places ++ s.count ∷ []; count = s.count + 1 }

abbrev pub with_type : ℕ → Instantiated → Instantiated
with_type p s = record {
  types = add_type p s.types;
  funcs = s.funcs;
  made = s.made;
  exports = s.exports;
  wants = s.wants;
}

abbrev pub with_func : ℕ → Instantiated → Instantiated
with_func f s = record {
  types = s.types;
  funcs = s.funcs ++ f ∷ [];
  made = s.made;
  exports = s.exports;
  wants = s.wants;
}

abbrev pub with_want : Want → Instantiated → Instantiated
with_want w s = record {
  types = s.types;
  funcs = s.funcs;
  made = s.made;
  exports = s.exports;
  wants = s.wants ++ w ∷ [];
}

abbrev pub with_export : InlineExport → Instantiated → Instantiated
with_export e s = record {
  types = s.types;
  funcs = s.funcs;
  made = s.made;
  exports = s.exports ++ e ∷ [];
  wants = s.wants;
}

-- ---- imports

-- What an instance is given, and where the types of the file stand.
pub record Given : Type 0 where
  pub args : List Argument
  pub outer : List ℕ

-- What is given under names of which, with their sorts, none stands twice.
abbrev pub given_by : List Argument → List ℕ → Result Given ShimReason
given_by args outer = if is_none (first_twice (map argument_key args))
    then Ok (record { args = args; outer = outer }) else Err NameTwice

-- The index of the first argument of a sort with a name.
abbrev pub argument : List Argument → InstanceExportSort → List ℕ → Result ℕ ShimReason
argument args sort name = or_reason MissingArgument (option_and_then
    (slice_get (map (λ a. a.index) args)) (first_key (map argument_key args) (sort_key sort) name))

-- The type or the function with an index.
abbrev pub type_at : List ℕ → ℕ → Result ℕ ShimReason
type_at places i = or_reason NoSuchType (slice_get places i)

abbrev pub func_at : List ℕ → ℕ → Result ℕ ShimReason
func_at funcs i = or_reason NoSuchFunc (slice_get funcs i)

-- The type that is given under a name.
abbrev pub type_argument : Given → List ℕ → Result ℕ ShimReason
type_argument g name = and_then (argument g.args sorts.Type name) (type_at g.outer)

-- An import is what is given under its name. The shim wants that a function has the type that it
-- says, and that a type is equal to that type, or a resource.
abbrev pub imported : Given → Instantiated → List ℕ → ExportDesc → Result Instantiated ShimReason
imported g s name (descs.Func ty) =
    and_then (argument g.args sorts.Func name) (λ f.
    and_then (type_at s.types.places ty) (λ t.
    Ok (with_func f (with_want (wants.Func f t) s))))
imported g s name (descs.Type (bounds.Equal ty)) =
    and_then (type_argument g name) (λ p.
    and_then (type_at s.types.places ty) (λ t.
    Ok (with_type p (with_want (wants.Type p t) s))))
imported g s name (descs.Type bounds.SubResource) =
    and_then (type_argument g name) (λ p.
    Ok (with_type p (with_want (wants.Resource p) s)))

abbrev pub import_step : Given → Instantiated → ShimImport → Result Instantiated ShimReason
import_step g s i = imported g s i.name i.desc

-- ---- types

abbrev pub with_made : Instantiated → DefTypeTree → Instantiated
with_made s t = record {
  types = define_type s.types;
  funcs = s.funcs;
  made = s.made ++ t ∷ [];
  exports = s.exports;
  wants = s.wants;
}

-- A type that the shim defines is a type of the component; only value types and the types of
-- functions may be.
abbrev pub type_step : Instantiated → DefTypeTree → Result Instantiated ShimReason
type_step s t =
    and_then (or_reason OtherType (copied (place s.types) t)) (λ made. Ok (with_made s made))

-- ---- exports

-- What the shim wants of a function that it exports: the type that it ascribes, if it does.
abbrev pub with_ascribed : ℕ → Option ℕ → Instantiated → Result Instantiated ShimReason
with_ascribed f None s = Ok s
with_ascribed f (Some ty) s =
    and_then (type_at s.types.places ty) (λ t. Ok (with_want (wants.Func f t) s))

-- An export makes one more index of its sort, which stands for the same.
abbrev pub exported : Instantiated → List ℕ → InstanceExportSort → ℕ → Option ℕ
    → Result Instantiated ShimReason
exported s name sorts.Func index ascribed =
    and_then (func_at s.funcs index) (λ f.
    and_then (with_ascribed f ascribed s) (λ t.
    Ok (with_func f (with_export (record { name = name; sort = sorts.Func; index = f }) t))))
exported s name sorts.Type index ascribed =
    and_then (type_at s.types.places index) (λ p.
    Ok (with_type p (with_export (record { name = name; sort = sorts.Type; index = p }) s)))

abbrev pub export_step : Instantiated → ShimExport → Result Instantiated ShimReason
export_step s e = exported s e.name e.sort e.index e.ascribed

-- ---- all of a shim

-- A section as outside of shims: types are defined, custom sections are passed over.
abbrev pub shared_step : Instantiated → SectionTree → Result Instantiated ShimReason
shared_step s (sections.types ts) = each type_step s ts
shared_step s section = Ok s

abbrev pub shim_step : Given → Instantiated → ShimSectionTree → Result Instantiated ShimReason
shim_step g s (trees.shared section) = shared_step s section
shim_step g s (trees.shim_imports items) = each (import_step g) s items
shim_step g s (trees.shim_exports items) = each export_step s items

-- An instance of a shim of which nothing was gone through, where the component has so many types,
-- and shims define these and want this so far.
abbrev pub instantiating : ℕ → List DefTypeTree → List Want → Instantiated
instantiating count made wants = record {
  types = record { places = []; count = count };
  funcs = [];
  made = made;
  exports = [];
  wants = wants;
}

-- The instance of a shim with these sections.
abbrev pub instantiated : Given → Instantiated → List ShimSectionTree
    → Result Instantiated ShimReason
instantiated g s shim = each (shim_step g) s shim
