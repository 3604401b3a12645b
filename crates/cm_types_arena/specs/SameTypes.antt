-- Equality of types up to what stands for a resource, as a test.
use Rattle.std.specs.Prelude.{ℕ, ◌==◌, ◌&&◌, Bool, true, false, List, [], ◌∷◌, Option, Some, None}
use Rattle.std.specs.Str.{bytes_eq}
use Rattle.cm_types.specs.declared.resource.ResourceId.{ResourceId}
use Rattle.cm_types.specs.Resources.{resolve, same_resource}
use Rattle.cm_types.specs.Types.{Ty, FuncTy, Fields, Cases, FieldsKind, CasesKind, Width, bits_8}
use Rattle.cm_types.specs.Types.{bits_16, bits_32, bits_64, bool, signed, unsigned, char, string}
use Rattle.cm_types.specs.Types.{list, fixed_list, fields, cases, flags, own, borrow, no_fields}
use Rattle.cm_types.specs.Types.{field, no_cases, plain, carrying, record_type, tuple_type}
use Rattle.cm_types.specs.Types.{variant_type, enum_type, option_type, result_type}

abbrev pub same_width : Width → Width → Bool
same_width bits_8 bits_8 = true
same_width bits_16 bits_16 = true
same_width bits_32 bits_32 = true
same_width bits_64 bits_64 = true
same_width _ _ = false

abbrev pub same_fields_kind : FieldsKind → FieldsKind → Bool
same_fields_kind record_type record_type = true
same_fields_kind tuple_type tuple_type = true
same_fields_kind _ _ = false

abbrev pub same_cases_kind : CasesKind → CasesKind → Bool
same_cases_kind variant_type variant_type = true
same_cases_kind enum_type enum_type = true
same_cases_kind option_type option_type = true
same_cases_kind result_type result_type = true
same_cases_kind _ _ = false

abbrev pub same_labels : List (List ℕ) → List (List ℕ) → Bool
same_labels [] [] = true
same_labels (k ∷ ks) (l ∷ ls) = bytes_eq k l && same_labels ks ls
same_labels _ _ = false

abbrev mutual
  -- whether two types are the same once their resources are replaced, by one list on each side
  pub same_type : List ResourceId → List ResourceId → Ty → Ty → Bool
  same_type rs ss bool bool = true
  same_type rs ss (signed j) (signed k) = same_width j k
  same_type rs ss (unsigned j) (unsigned k) = same_width j k
  same_type rs ss char char = true
  same_type rs ss string string = true
  same_type rs ss (list t) (list u) = same_type rs ss t u
  same_type rs ss (fixed_list t m) (fixed_list u n) = (m == n) && same_type rs ss t u
  same_type rs ss (fields j fs) (fields k gs) = same_fields_kind j k && same_fields rs ss fs gs
  same_type rs ss (cases j cs) (cases k ds) = same_cases_kind j k && same_cases rs ss cs ds
  same_type rs ss (flags ks) (flags ls) = same_labels ks ls
  same_type rs ss (own r) (own s) = same_resource (resolve rs r) (resolve ss s)
  same_type rs ss (borrow r) (borrow s) = same_resource (resolve rs r) (resolve ss s)
  same_type rs ss _ _ = false

  pub same_fields : List ResourceId → List ResourceId → Fields → Fields → Bool
  same_fields rs ss no_fields no_fields = true
  same_fields rs ss (field k t fs) (field l u gs) =
      bytes_eq k l && same_type rs ss t u && same_fields rs ss fs gs
  same_fields rs ss _ _ = false

  pub same_cases : List ResourceId → List ResourceId → Cases → Cases → Bool
  same_cases rs ss no_cases no_cases = true
  same_cases rs ss (plain k cs) (plain l ds) = bytes_eq k l && same_cases rs ss cs ds
  same_cases rs ss (carrying k t cs) (carrying l u ds) =
      bytes_eq k l && same_type rs ss t u && same_cases rs ss cs ds
  same_cases rs ss _ _ = false

abbrev pub same_payload : List ResourceId → List ResourceId → Option Ty → Option Ty → Bool
same_payload rs ss None None = true
same_payload rs ss (Some t) (Some u) = same_type rs ss t u
same_payload rs ss _ _ = false

abbrev pub same_case : List ResourceId → List ResourceId → List ℕ × Option Ty → List ℕ × Option Ty
    → Bool
same_case rs ss c d = bytes_eq c.0 d.0 && same_payload rs ss c.1 d.1

abbrev pub same_func : List ResourceId → List ResourceId → FuncTy → FuncTy → Bool
same_func rs ss f g = same_fields rs ss f.params g.params && same_payload rs ss f.result g.result
