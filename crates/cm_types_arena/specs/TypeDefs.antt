-- Types in terms of earlier ones (Binary.md, "Type Definitions").
use Rattle.std.specs.Prelude.{ℕ, ◌<◌, List, [], ◌∷◌, ◌++◌, map, length, Bool, true, ◌&&◌}
use Rattle.std.specs.Prelude.{nat_lt, nat_le, Option, Some, None, codes, slice_index_or}
use Rattle.std.specs.Option.{option_map}
use Rattle.cm_types.specs.declared.spellable.TheConstants.{MAX_FLAGS}
use Rattle.cm_types.specs.Types.{Ty, FuncTy, bool, signed, unsigned, char, string, list}
use Rattle.cm_types.specs.Types.{fixed_list}
use Rattle.cm_types.specs.Types.{fields, cases, flags, own, borrow, record_type, tuple_type}
use Rattle.cm_types.specs.Types.{variant_type, enum_type, option_type, result_type, no_fields}
use Rattle.cm_types.specs.Types.{no_cases}
use Rattle.cm_types.specs.Types.{plain, carrying, bits_8, bits_16, bits_32, bits_64}
use Rattle.cm_types.specs.TypeTrees.{TypedLabel, CaseOf, fields_from, parts_from, cases_from}
use Rattle.cm_types.specs.TypeTrees.{plain_from, case_before}
use Rattle.cm_types_arena.specs.declared.primitives.Primitive.{Primitive}
use Rattle.cm_types_arena.specs.declared.primitives.Primitive.TheVariants as primitive
use Rattle.cm_types_arena.specs.declared.type_defs.TypeDef.{TypeDef}
use Rattle.cm_types_arena.specs.declared.type_defs.TypeDef.TheVariants as def
use Rattle.cm_types_arena.specs.declared.type_defs.FieldDef.{FieldDef}
use Rattle.cm_types_arena.specs.declared.type_defs.CaseDef.{CaseDef}
use Rattle.cm_types_arena.specs.declared.funcs.FuncDef.{FuncDef}

-- the type at a place
abbrev pub type_at : List Ty → ℕ → Ty
type_at types place = slice_index_or types place bool

-- the type that a primitive one is
abbrev pub primitive_type : Primitive → Ty
primitive_type primitive.Bool = bool
primitive_type primitive.S8 = signed bits_8
primitive_type primitive.U8 = unsigned bits_8
primitive_type primitive.S16 = signed bits_16
primitive_type primitive.U16 = unsigned bits_16
primitive_type primitive.S32 = signed bits_32
primitive_type primitive.U32 = unsigned bits_32
primitive_type primitive.S64 = signed bits_64
primitive_type primitive.U64 = unsigned bits_64
primitive_type primitive.Char = char
primitive_type primitive.String = string

-- the place of a primitive type: the first places hold them in order
abbrev pub primitive_place : Primitive → ℕ
primitive_place primitive.Bool = 0
primitive_place primitive.S8 = 1
primitive_place primitive.U8 = 2
primitive_place primitive.S16 = 3
primitive_place primitive.U16 = 4
primitive_place primitive.S32 = 5
primitive_place primitive.U32 = 6
primitive_place primitive.S64 = 7
primitive_place primitive.U64 = 8
primitive_place primitive.Char = 9
primitive_place primitive.String = 10

-- the primitive types by place
abbrev pub primitive_types : List Ty
primitive_types =
    bool ∷ signed bits_8 ∷ unsigned bits_8 ∷ signed bits_16 ∷ unsigned bits_16 ∷ signed bits_32
    ∷ unsigned bits_32 ∷ signed bits_64 ∷ unsigned bits_64 ∷ char ∷ string ∷ []

-- a field and a case of a definition, with the types at their places
abbrev pub field_def_type : List Ty → FieldDef → TypedLabel
field_def_type types f = (f.label, type_at types f.ty)

abbrev pub case_def_type : List Ty → CaseDef → CaseOf
case_def_type types c = (c.label, option_map (type_at types) c.payload)

-- the type of a definition, its parts taken from their places
abbrev pub def_type : List Ty → TypeDef → Ty
def_type types (def.Primitive p) = primitive_type p
def_type types (def.List p) = list (type_at types p)
def_type types (def.FixedList p n) = fixed_list (type_at types p) n
def_type types (def.Record fs) =
    fields record_type (fields_from (map (field_def_type types) fs.items))
def_type types (def.Tuple ps) = fields tuple_type (parts_from (map (type_at types) ps.items))
def_type types (def.Variant cs) =
    cases variant_type (cases_from (map (case_def_type types) cs.items))
def_type types (def.Enum ls) = cases enum_type (plain_from ls.items)
def_type types (def.Flags ls) = flags ls.items
def_type types (def.Option p) =
    cases option_type
    (plain (codes "none") (carrying (codes "some") (type_at types p) no_cases))
def_type types (def.Result ok error) =
    cases result_type
    (case_before (codes "ok") (option_map (type_at types) ok)
    (case_before (codes "error") (option_map (type_at types) error) no_cases))
def_type types (def.Own r) = own r
def_type types (def.Borrow r) = borrow r

-- the part, if there is one, has a place among so many types
abbrev pub IsBelow : ℕ → Option ℕ → Type 0
IsBelow count None = Unit {0}
IsBelow count (Some part) = part < count

-- what an option has, as a list
abbrev pub option_list : Option ℕ → List ℕ
option_list None = []
option_list (Some p) = p ∷ []

-- the places of the payloads of cases
abbrev pub payload_places : List CaseDef → List ℕ
payload_places [] = []
payload_places (c ∷ cs) = option_list c.payload ++ payload_places cs

-- the places of a definition's parts, in the order in which they stand
abbrev pub def_parts : TypeDef → List ℕ
def_parts (def.List p) = p ∷ []
def_parts (def.FixedList p n) = p ∷ []
def_parts (def.Record fs) = map (λ f. f.ty) fs.items
def_parts (def.Tuple ps) = ps.items
def_parts (def.Variant cs) = payload_places cs.items
def_parts (def.Option p) = p ∷ []
def_parts (def.Result ok error) = option_list ok ++ option_list error
def_parts _ = []

-- whether a file can spell a definition, given that it can spell the parts
abbrev pub is_spellable_def : TypeDef → Bool
is_spellable_def (def.FixedList p n) = nat_lt 0 n
is_spellable_def (def.Record fs) = nat_lt 0 (length fs.items)
is_spellable_def (def.Tuple ps) = nat_lt 0 (length ps.items)
is_spellable_def (def.Variant cs) = nat_lt 0 (length cs.items)
is_spellable_def (def.Enum ls) = nat_lt 0 (length ls.items)
is_spellable_def (def.Flags ls) =
    nat_lt 0 (length ls.items) && nat_le (length ls.items) MAX_FLAGS
is_spellable_def _ = true

-- the type of a function's definition, the types in it taken from their places
abbrev pub func_def_type : List Ty → FuncDef → FuncTy
func_def_type types d =
    record {
      params = fields_from (map (field_def_type types) d.params.items);
      result = option_map (type_at types) d.result;
    }

-- the type of a function at a place
abbrev pub func_at : List FuncTy → ℕ → FuncTy
func_at funcs place = slice_index_or funcs place (record { params = no_fields; result = None })

-- the parameters of a function, as the fields of a tuple
abbrev pub params_type : FuncTy → Ty
params_type f = fields tuple_type f.params
