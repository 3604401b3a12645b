-- Value types as finite trees (Explainer.md, "Value Types"; CanonicalABI.md, "Despecialization").
use Rattle.std.specs.Prelude.{ℕ, List, Option}
use Rattle.cm_types.specs.declared.resource.ResourceId.{ResourceId}

-- what holds fields: a record, or a tuple
pub data FieldsKind : Type 0 where
  record_type : FieldsKind
  tuple_type : FieldsKind

-- what holds cases: a variant, an enum, an option or a result
pub data CasesKind : Type 0 where
  variant_type : CasesKind
  enum_type : CasesKind
  option_type : CasesKind
  result_type : CasesKind

-- how wide a number is
pub data Width : Type 0 where
  bits_8 : Width
  bits_16 : Width
  bits_32 : Width
  bits_64 : Width

-- how many bytes a number of this width has
abbrev pub width_bytes : Width → ℕ
width_bytes bits_8 = 1
width_bytes bits_16 = 2
width_bytes bits_32 = 4
width_bytes bits_64 = 8

-- Types. As CanonicalABI.md despecializes them, a tuple is fields without labels, an enum is cases
-- without payloads, an option the cases `none` and `some`, a result the cases `ok` and `error`; the
-- kind keeps apart what the standard does.
mutual
  pub data Ty : Type 0 where
    bool : Ty
    -- s8 to s64, and u8 to u64
    signed : Width → Ty
    unsigned : Width → Ty
    char : Ty
    string : Ty
    list : Ty → Ty
    -- exactly so many elements, in place
    fixed_list : Ty → ℕ → Ty
    fields : FieldsKind → Fields → Ty
    cases : CasesKind → Cases → Ty
    flags : List (List ℕ) → Ty
    own : ResourceId → Ty
    borrow : ResourceId → Ty

  -- labels and types of fields, in order
  pub data Fields : Type 0 where
    no_fields : Fields
    field : List ℕ → Ty → Fields → Fields

  -- labels of cases, in order, with the payload of those that carry one
  pub data Cases : Type 0 where
    no_cases : Cases
    plain : List ℕ → Cases → Cases
    carrying : List ℕ → Ty → Cases → Cases

-- the type of a function: labels and types of its parameters, and the type of its result, if it has
-- one
pub record FuncTy : Type 0 where
  pub params : Fields
  pub result : Option Ty
