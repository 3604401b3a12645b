-- What the types, definitions and functions of WIT texts stand for in a scope (WIT.md, "Item:
-- `ty`", "Item: `func`" and "Item: `type`"). Where a name in one stands for no type, it stands for
-- nothing.
use Rattle.std.specs.Prelude.{List, [], ◌∷◌, Option, Some, None, codes}
use Rattle.std.specs.Option.{option_map, option_and_then}
use Rattle.cm_types.specs.declared.resource.ResourceId.{ResourceId}
use Rattle.cm_types.specs.Types.{Ty, FuncTy, bool, signed, unsigned, char, string, list}
use Rattle.cm_types.specs.Types.{fixed_list, fields, cases, flags, own, borrow, record_type}
use Rattle.cm_types.specs.Types.{tuple_type, variant_type, enum_type, option_type, result_type}
use Rattle.cm_types.specs.Types.{field, no_cases, plain, carrying, bits_8, bits_16, bits_32}
use Rattle.cm_types.specs.Types.{bits_64}
use Rattle.cm_types.specs.TypeTrees.{TypedLabel, CaseOf, fields_from, parts_from, cases_from}
use Rattle.cm_types.specs.TypeTrees.{plain_from, case_before}
use Rattle.cm_wit_reading.specs.declared.types.Primitive.{Primitive}
use Rattle.cm_wit_reading.specs.declared.types.Primitive.TheVariants as primitive
use Rattle.cm_wit_reading.specs.Types as wit
use Rattle.cm_wit_reading.specs.Signatures.{Typed, Func}
use Rattle.cm_wit_reading.specs.Trees.{Case, TypeDef, ResourceFunc, method, static, constructor}
use Rattle.cm_wit_reading.specs.Trees as tree
use Rattle.cm_wit_meanings.specs.Scopes.{Scope, Meaning, value, resource, as_type, as_resource}

-- what each of these stands for, where each stands for something
abbrev pub each_meaning : {A B : Type 0} → (A → Option B) → List A → Option (List B)
each_meaning meant [] = Some []
each_meaning meant (x ∷ xs) =
    option_and_then (λ y. option_map (λ ys. y ∷ ys) (each_meaning meant xs)) (meant x)

-- ---- types

-- the type that a primitive one is
abbrev pub primitive_type : Primitive → Ty
primitive_type primitive.Bool = bool
primitive_type primitive.S8 = signed bits_8
primitive_type primitive.S16 = signed bits_16
primitive_type primitive.S32 = signed bits_32
primitive_type primitive.S64 = signed bits_64
primitive_type primitive.U8 = unsigned bits_8
primitive_type primitive.U16 = unsigned bits_16
primitive_type primitive.U32 = unsigned bits_32
primitive_type primitive.U64 = unsigned bits_64
primitive_type primitive.Char = char
primitive_type primitive.String = string

-- an option of a type
abbrev pub option_of : Ty → Ty
option_of t = cases option_type (plain (codes "none") (carrying (codes "some") t no_cases))

-- a result with these payloads
abbrev pub result_of : Option Ty → Option Ty → Ty
result_of ok error =
    cases result_type (case_before (codes "ok") ok (case_before (codes "error") error no_cases))

-- the fields of a record, the parts of a tuple, and the cases of a variant
abbrev pub record_of : List TypedLabel → Ty
record_of fs = fields record_type (fields_from fs)

abbrev pub tuple_of : List Ty → Ty
tuple_of ts = fields tuple_type (parts_from ts)

abbrev pub variant_of : List CaseOf → Ty
variant_of cs = cases variant_type (cases_from cs)

abbrev mutual
  -- the type that a type text stands for
  pub meaning : Scope → wit.Ty → Option Ty
  meaning s (wit.primitive p) = Some (primitive_type p)
  meaning s (wit.named n) = option_map as_type (s n)
  meaning s (wit.borrow n) = option_map borrow (option_and_then as_resource (s n))
  meaning s (wit.list t) = option_map list (meaning s t)
  meaning s (wit.fixed_list t n) = option_map (λ x. fixed_list x n) (meaning s t)
  meaning s (wit.option t) = option_map option_of (meaning s t)
  meaning s (wit.tuple ts) = option_map tuple_of (meanings s ts)
  meaning s wit.plain_result = Some (result_of None None)
  meaning s (wit.ok_result t) = option_map (λ x. result_of (Some x) None) (meaning s t)
  meaning s (wit.error_result t) = option_map (λ x. result_of None (Some x)) (meaning s t)
  meaning s (wit.result t u) =
      option_and_then (λ x. option_map (λ y. result_of (Some x) (Some y)) (meaning s u))
      (meaning s t)

  -- the types that type texts stand for, one after the other
  pub meanings : Scope → wit.Tys → Option (List Ty)
  meanings s wit.no_types = Some []
  meanings s (wit.types t ts) =
      option_and_then (λ x. option_map (λ xs. x ∷ xs) (meanings s ts)) (meaning s t)

-- a name with its type, and a case with its payload, if it carries one
abbrev pub typed_meaning : Scope → Typed → Option TypedLabel
typed_meaning s x = option_map (λ t. (x.0, t)) (meaning s x.1)

abbrev pub payload_meaning : Scope → Option wit.Ty → Option (Option Ty)
payload_meaning s None = Some None
payload_meaning s (Some t) = option_map Some (meaning s t)

abbrev pub case_meaning : Scope → Case → Option CaseOf
case_meaning s c = option_map (λ p. (c.name, p)) (payload_meaning s c.ty)

-- ---- definitions

-- What a definition makes its name stand for. A resource stands for the one that it is given; its
-- functions are items of their own. A name for a resource, `type t = r`, stands for the value type
-- of the handles that own it.
abbrev pub def_meaning : Scope → ResourceId → TypeDef → Option Meaning
def_meaning s r (tree.alias t) = option_map value (meaning s t)
def_meaning s r (tree.record_of fs) =
    option_map value (option_map record_of (each_meaning (typed_meaning s) fs))
def_meaning s r (tree.variant cs) =
    option_map value (option_map variant_of (each_meaning (case_meaning s) cs))
def_meaning s r (tree.enum names) = Some (value (cases enum_type (plain_from names)))
def_meaning s r (tree.flags names) = Some (value (flags names))
def_meaning s r (tree.resource fs) = Some (resource r)

-- ---- functions

-- the type of a function
abbrev pub func_meaning : Scope → Func → Option FuncTy
func_meaning s f =
    option_and_then (λ ps.
    option_map (λ t. record { params = fields_from ps; result = t }) (payload_meaning s f.result))
    (each_meaning (typed_meaning s) f.params)

-- with a first parameter `self`, the borrowed resource
abbrev pub with_self : ResourceId → FuncTy → FuncTy
with_self r f = record f { params = field (codes "self") (borrow r) f.params }

-- the type of a function of a resource: a method borrows it as `self`, and a constructor answers a
-- handle that owns it (WIT.md, `resource-method`)
abbrev pub resource_func_meaning : Scope → ResourceId → ResourceFunc → Option FuncTy
resource_func_meaning s r (method name f) = option_map (with_self r) (func_meaning s f)
resource_func_meaning s r (static name f) = func_meaning s f
resource_func_meaning s r (constructor ps) =
    option_map (λ ts. record { params = fields_from ts; result = Some (own r) })
    (each_meaning (typed_meaning s) ps)
