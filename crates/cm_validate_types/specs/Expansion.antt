-- Types expanded where indices may name nothing: `bool`, and the resource 0, stand where a
-- definition names none.
use Rattle.std.specs.Prelude.{ℕ, List, map, slice_get, unwrap_or}
use Rattle.std.specs.Option.{option_map, option_and_then}
use Rattle.cm_types.specs.declared.def_types.ValType.{ValType}
use Rattle.cm_types.specs.declared.def_types.LabeledValType.{LabeledValType}
use Rattle.cm_types.specs.declared.def_types.CaseType.{CaseType}
use Rattle.cm_types.specs.DefTypes.{DefValTypeTree, FuncTypeTree, primitive, record_of, variant_of}
use Rattle.cm_types.specs.DefTypes.{list_of, fixed_list_of, tuple_of, flags_of, enum_of, option_of}
use Rattle.cm_types.specs.DefTypes.{result_of, own_of, borrow_of}
use Rattle.cm_types.specs.Types.{Ty, FuncTy, bool, list, fixed_list, fields, cases, flags, own}
use Rattle.cm_types.specs.Types.{borrow, record_type, tuple_type, variant_type, enum_type}
use Rattle.cm_types.specs.Types.{option_type, result_type}
use Rattle.cm_types.specs.TypeTrees.{TypedLabel, CaseOf, fields_from, parts_from, cases_from}
use Rattle.cm_types.specs.TypeTrees.{plain_from}
use Rattle.cm_validate_model.specs.Definitions.{TypeDef}
use Rattle.cm_validate_model.specs.Scopes.{value_of, resource_in, resource_id, primitive_type}
use Rattle.cm_validate_model.specs.Scopes.{option_cases, result_cases}

abbrev pub value_or_bool : List TypeDef → ValType → Ty
value_or_bool types t = unwrap_or (value_of types t) bool

abbrev pub resource_or_zero : List TypeDef → ℕ → ℕ
resource_or_zero types i = unwrap_or (option_and_then resource_in (slice_get types i)) 0

abbrev pub labeled_or_bool : List TypeDef → LabeledValType → TypedLabel
labeled_or_bool types f = (f.label, value_or_bool types f.ty)

abbrev pub case_or_bool : List TypeDef → CaseType → CaseOf
case_or_bool types c = (c.label, option_map (value_or_bool types) c.payload)

-- a definition of a value type
abbrev pub type_or_bool : List TypeDef → DefValTypeTree → Ty
type_or_bool types (primitive p) = primitive_type p
type_or_bool types (record_of fs) =
    fields record_type (fields_from (map (labeled_or_bool types) fs))
type_or_bool types (variant_of cs) =
    cases variant_type (cases_from (map (case_or_bool types) cs))
type_or_bool types (list_of t) = list (value_or_bool types t)
type_or_bool types (fixed_list_of t n) = fixed_list (value_or_bool types t) n
type_or_bool types (tuple_of ts) =
    fields tuple_type (parts_from (map (value_or_bool types) ts))
type_or_bool types (flags_of ls) = flags ls
type_or_bool types (enum_of ls) = cases enum_type (plain_from ls)
type_or_bool types (option_of t) = cases option_type (option_cases (value_or_bool types t))
type_or_bool types (result_of ok error) =
    cases result_type
    (result_cases (option_map (value_or_bool types) ok) (option_map (value_or_bool types) error))
type_or_bool types (own_of i) = own (resource_id (resource_or_zero types i))
type_or_bool types (borrow_of i) = borrow (resource_id (resource_or_zero types i))

-- a definition of the type of a function
abbrev pub func_or_bool : List TypeDef → FuncTypeTree → FuncTy
func_or_bool types f =
    record {
      params = fields_from (map (labeled_or_bool types) f.params);
      result = option_map (value_or_bool types) f.result;
    }
