-- What types a definition names and adds (Explainer.md, "Type Definitions"; Binary.md, "Type
-- Definitions").
use Rattle.std.specs.Prelude.{ℕ, List, [], ◌∷◌, Option, Some, None}
use Rattle.std.specs.Prelude.{slice_get, option_map, option_and_then, codes}
use Rattle.std.specs.Option.{option_map_or}
use Rattle.cm_types.specs.declared.def_types.PrimValType.{PrimValType}
use Rattle.cm_types.specs.declared.def_types.PrimValType.TheVariants as prim
use Rattle.cm_types.specs.declared.def_types.ValType.{ValType}
use Rattle.cm_types.specs.declared.def_types.ValType.TheVariants as val_type
use Rattle.cm_types.specs.declared.def_types.LabeledValType.{LabeledValType}
use Rattle.cm_types.specs.declared.def_types.CaseType.{CaseType}
use Rattle.cm_types.specs.declared.resource.ResourceId.{ResourceId}
use Rattle.cm_types.specs.DefTypes.{DefValTypeTree, FuncTypeTree, primitive, record_of, variant_of}
use Rattle.cm_types.specs.DefTypes.{list_of, fixed_list_of, tuple_of, flags_of, enum_of, option_of}
use Rattle.cm_types.specs.DefTypes.{result_of, own_of, borrow_of}
use Rattle.cm_types.specs.Types.{Ty, Fields, Cases, FuncTy, bool, signed, unsigned, char, string}
use Rattle.cm_types.specs.Types.{list, fixed_list, fields, cases, flags, own, borrow, no_fields}
use Rattle.cm_types.specs.Types.{field, no_cases, plain, carrying, record_type, tuple_type}
use Rattle.cm_types.specs.Types.{variant_type, enum_type, option_type, result_type, bits_8, bits_16}
use Rattle.cm_types.specs.Types.{bits_32, bits_64}
use Rattle.cm_types.specs.TypeTrees.{case_before, plain_from}
use Rattle.cm_validate_model.specs.Definitions.{TypeDef, value, resource, func_type, faulty}

-- the resource of this number, of the component itself
abbrev pub resource_id : ℕ → ResourceId
resource_id n = record { component = 0; number = n }

-- the value type that is defined here, and the resource
abbrev pub value_in : TypeDef → Option Ty
value_in (value t) = Some t
value_in _ = None

abbrev pub resource_in : TypeDef → Option ℕ
resource_in (resource n) = Some n
resource_in _ = None

-- ---- value types, with every index replaced by the type that it names; none where one of them
-- names no value type

abbrev pub primitive_type : PrimValType → Ty
primitive_type prim.Bool = bool
primitive_type prim.S8 = signed bits_8
primitive_type prim.U8 = unsigned bits_8
primitive_type prim.S16 = signed bits_16
primitive_type prim.U16 = unsigned bits_16
primitive_type prim.S32 = signed bits_32
primitive_type prim.U32 = unsigned bits_32
primitive_type prim.S64 = signed bits_64
primitive_type prim.U64 = unsigned bits_64
primitive_type prim.Char = char
primitive_type prim.String = string

abbrev pub value_of : List TypeDef → ValType → Option Ty
value_of types (val_type.Primitive p) = Some (primitive_type p)
value_of types (val_type.Index i) = option_and_then value_in (slice_get types i)

-- what two of them give, where both are there
abbrev pub both : {A B C : Type 0} → (A → B → C) → Option A → Option B → Option C
both f None y = None
both f (Some x) y = option_map (f x) y

-- a payload or a result that may be left out
abbrev pub payload_of : List TypeDef → Option ValType → Option (Option Ty)
payload_of types None = Some None
payload_of types (Some t) = option_map (λ x. Some x) (value_of types t)

abbrev pub fields_in : List TypeDef → List LabeledValType → Option Fields
fields_in types [] = Some no_fields
fields_in types (f ∷ fs) = both (field f.label) (value_of types f.ty) (fields_in types fs)

abbrev pub parts_in : List TypeDef → List ValType → Option Fields
parts_in types [] = Some no_fields
parts_in types (t ∷ ts) = both (field []) (value_of types t) (parts_in types ts)

abbrev pub cases_in : List TypeDef → List CaseType → Option Cases
cases_in types [] = Some no_cases
cases_in types (c ∷ cs) =
    both (case_before c.label) (payload_of types c.payload) (cases_in types cs)

abbrev pub option_cases : Ty → Cases
option_cases t = plain (codes "none") (carrying (codes "some") t no_cases)

abbrev pub result_cases : Option Ty → Option Ty → Cases
result_cases ok error =
    case_before (codes "ok") ok (case_before (codes "error") error no_cases)

-- a handle of the resource that an index names
abbrev pub handle_of : (ResourceId → Ty) → List TypeDef → ℕ → Option Ty
handle_of handle types i =
    option_map (λ n. handle (resource_id n)) (option_and_then resource_in (slice_get types i))

-- the value type of a definition
abbrev pub value_defined : List TypeDef → DefValTypeTree → Option Ty
value_defined types (primitive p) = Some (primitive_type p)
value_defined types (record_of fs) = option_map (fields record_type) (fields_in types fs)
value_defined types (variant_of cs) = option_map (cases variant_type) (cases_in types cs)
value_defined types (list_of t) = option_map list (value_of types t)
value_defined types (fixed_list_of t n) = option_map (λ x. fixed_list x n) (value_of types t)
value_defined types (tuple_of ts) = option_map (fields tuple_type) (parts_in types ts)
value_defined types (flags_of ls) = Some (flags ls)
value_defined types (enum_of ls) = Some (cases enum_type (plain_from ls))
value_defined types (option_of t) =
    option_map (λ x. cases option_type (option_cases x)) (value_of types t)
value_defined types (result_of ok error) =
    both (λ x y. cases result_type (result_cases x y))
    (payload_of types ok) (payload_of types error)
value_defined types (own_of i) = handle_of own types i
value_defined types (borrow_of i) = handle_of borrow types i

-- the type of a function
abbrev pub func_defined : List TypeDef → FuncTypeTree → Option FuncTy
func_defined types f =
    both (λ ps r. record { params = ps; result = r })
    (fields_in types f.params) (payload_of types f.result)

-- what such a definition stands for
abbrev pub value_def_of : List TypeDef → DefValTypeTree → TypeDef
value_def_of types v = option_map_or value (value_defined types v) faulty

abbrev pub func_def_of : List TypeDef → FuncTypeTree → TypeDef
func_def_of types f = option_map_or func_type (func_defined types f) faulty
