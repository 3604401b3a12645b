-- Laws of what Types defines, for this crate and those above it.
use Rattle.std.proofs.Common.{◌<◌, arith, ◌≤◌, ◌≡◌, rules, Option, Bool, true, false, refl}
use Rattle.std.proofs.lemmas.Bool.{false≢true}
use Rattle.cm_types.specs.TypeTrees.{type_of}
use Rattle.cm_types.specs.Types.{Width, width_bytes, bits_8, bits_16, bits_32, bits_64, bool, borrow, char, own, signed, unsigned, Fields, Ty, FuncTy, CasesKind, variant_type, enum_type, option_type, result_type, FieldsKind, record_type, tuple_type}
use Rattle.cm_types.specs.declared.resource.ResourceId.{ResourceId}
use Rattle.cm_types.specs.declared.type_trees.TypeNode.{the_lemmas}
use Rattle.cm_types.specs.declared.type_trees.TypeNode.TheVariants as leaf

pub width_pos : (w : Width) → 0 < width_bytes w
width_pos bits_8 = omega arith
width_pos bits_16 = omega arith
width_pos bits_32 = omega arith
width_pos bits_64 = omega arith

pub width_some : (w : Width) → 1 ≤ width_bytes w
width_some bits_8 = omega arith
width_some bits_16 = omega arith
width_some bits_32 = omega arith
width_some bits_64 = omega arith

pub seen_Bool : type_of leaf.Bool ≡ bool
seen_Bool = search (rules, the_lemmas)

pub seen_Borrow : (r : ResourceId) → type_of (leaf.Borrow r) ≡ borrow r
seen_Borrow r = search (rules, the_lemmas)

pub seen_Char : type_of leaf.Char ≡ char
seen_Char = search (rules, the_lemmas)

pub seen_Own : (r : ResourceId) → type_of (leaf.Own r) ≡ own r
seen_Own r = search (rules, the_lemmas)

pub seen_S16 : type_of leaf.S16 ≡ signed bits_16
seen_S16 = search (rules, the_lemmas)

pub seen_S32 : type_of leaf.S32 ≡ signed bits_32
seen_S32 = search (rules, the_lemmas)

pub seen_S64 : type_of leaf.S64 ≡ signed bits_64
seen_S64 = search (rules, the_lemmas)

pub seen_S8 : type_of leaf.S8 ≡ signed bits_8
seen_S8 = search (rules, the_lemmas)

pub seen_U16 : type_of leaf.U16 ≡ unsigned bits_16
seen_U16 = search (rules, the_lemmas)

pub seen_U32 : type_of leaf.U32 ≡ unsigned bits_32
seen_U32 = search (rules, the_lemmas)

pub seen_U64 : type_of leaf.U64 ≡ unsigned bits_64
seen_U64 = search (rules, the_lemmas)

pub seen_U8 : type_of leaf.U8 ≡ unsigned bits_8
seen_U8 = search (rules, the_lemmas)

abbrev pub make_func : Fields → Option Ty → FuncTy
make_func ps x = record { params = ps; result = x }

abbrev pub same_cases_kind : CasesKind → CasesKind → Bool
same_cases_kind variant_type variant_type = true
same_cases_kind enum_type enum_type = true
same_cases_kind option_type option_type = true
same_cases_kind result_type result_type = true
same_cases_kind _ _ = false

pub cases_kind_same : (j : CasesKind) → same_cases_kind j j ≡ true
cases_kind_same variant_type = refl
cases_kind_same enum_type = refl
cases_kind_same option_type = refl
cases_kind_same result_type = refl

pub cases_kind_sound : (j k : CasesKind) → same_cases_kind j k ≡ true → j ≡ k
cases_kind_sound variant_type variant_type h = refl
cases_kind_sound enum_type enum_type h = refl
cases_kind_sound option_type option_type h = refl
cases_kind_sound result_type result_type h = refl
cases_kind_sound _ _ h = absurd (false≢true h)

abbrev pub same_fields_kind : FieldsKind → FieldsKind → Bool
same_fields_kind record_type record_type = true
same_fields_kind tuple_type tuple_type = true
same_fields_kind _ _ = false

pub fields_kind_same : (j : FieldsKind) → same_fields_kind j j ≡ true
fields_kind_same record_type = refl
fields_kind_same tuple_type = refl

pub fields_kind_sound : (j k : FieldsKind) → same_fields_kind j k ≡ true → j ≡ k
fields_kind_sound record_type record_type h = refl
fields_kind_sound tuple_type tuple_type h = refl
fields_kind_sound _ _ h = absurd (false≢true h)

abbrev pub same_width : Width → Width → Bool
same_width bits_8 bits_8 = true
same_width bits_16 bits_16 = true
same_width bits_32 bits_32 = true
same_width bits_64 bits_64 = true
same_width _ _ = false

pub width_same : (j : Width) → same_width j j ≡ true
width_same bits_8 = refl
width_same bits_16 = refl
width_same bits_32 = refl
width_same bits_64 = refl

pub width_sound : (j k : Width) → same_width j k ≡ true → j ≡ k
width_sound bits_8 bits_8 h = refl
width_sound bits_16 bits_16 h = refl
width_sound bits_32 bits_32 h = refl
width_sound bits_64 bits_64 h = refl
width_sound _ _ h = absurd (false≢true h)
