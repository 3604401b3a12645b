-- No table refuses a byte for want of one.
use Rattle.std.proofs.Common.{◌≡◌, ℕ, Bool, true, false, cond, Result, Ok, Err, refl}
use Rattle.cm_binary_grammar.proofs.WantLaws.{Never}
use Rattle.cm_binary_forms.specs.declared.fault.DecodeReason.{DecodeReason}
use Rattle.cm_binary_forms.specs.declared.fault.DecodeReason.TheVariants.{Truncated, UnknownCode, Unsupported}
use Rattle.cm_binary_forms.specs.declared.fault.Feature.{Feature}
use Rattle.cm_binary_forms.specs.declared.codes.ValueForm.TheVariants as value_forms
use Rattle.cm_binary_forms.specs.declared.codes.TypeForm.TheVariants as type_forms
use Rattle.cm_binary_forms.specs.declared.codes.DeclaredTypeForm.TheVariants as declared_type_forms
use Rattle.cm_binary_forms.specs.Codes.{section_kind, core_instance_form, core_sort, instance_form, instance_export_sort, alias_sort, core_alias_target, func_alias_target, type_alias_target, no_alias_target, as_case, prim_val_type, value_form, type_form, declared_type_form, declaration_form, outer_type_target, declared_desc_form, type_bound_form, optional_form, result_form, canon_form, option_form, desc_form, export_sort, export_desc}

-- The answer is no want of a byte.
abbrev IsNot : {K : Type 0} → Result K DecodeReason → Type 0
IsNot t = t ≡ Err Truncated → ⊥

either : {K : Type 0} (b : Bool) (s t : Result K DecodeReason) → IsNot s → IsNot t → IsNot (cond b s t)
either true s t p q = p
either false s t p q = q

known : {K : Type 0} (k : K) → IsNot (Ok k)
known k e = absurd cc

unknown : {K : Type 0} → IsNot {K = K} (Err UnknownCode)
unknown e = absurd cc

unsupported : {K : Type 0} (feature : Feature) → IsNot {K = K} (Err (Unsupported feature))
unsupported feature e = absurd cc

either_reason : {K : Type 0} (b : Bool) (s t : DecodeReason) → IsNot {K = K} (Err s) → IsNot {K = K} (Err t) → IsNot {K = K} (Err (cond b s t))
either_reason true s t p q = p
either_reason false s t p q = q

pub section_kind_never : Never Truncated section_kind
section_kind_never b = search (either, known, unknown, unsupported) depth 20

pub core_instance_form_never : Never Truncated core_instance_form
core_instance_form_never b = search (either, known, unknown, unsupported) depth 20

pub core_sort_never : Never Truncated core_sort
core_sort_never b = search (either, known, unknown, unsupported) depth 20

pub alias_sort_never : Never Truncated alias_sort
alias_sort_never b = search (either, known, unknown, unsupported) depth 20

no_target : {K : Type 0} (b : ℕ) → IsNot {K = K} (Err (no_alias_target b))
no_target b = either_reason _ _ _ (unsupported _) unknown

pub core_alias_target_never : Never Truncated core_alias_target
core_alias_target_never b = search (either, known, no_target) depth 20

pub func_alias_target_never : Never Truncated func_alias_target
func_alias_target_never b = search (either, known, no_target) depth 20

pub type_alias_target_never : Never Truncated type_alias_target
type_alias_target_never b = search (either, known, no_target) depth 20

pub no_alias_target_never : {K : Type 0} → Never {K = K} Truncated (λ b. Err (no_alias_target b))
no_alias_target_never b = no_target b

pub prim_val_type_never : Never Truncated prim_val_type
prim_val_type_never b = search (either, known, unknown, unsupported) depth 20

as_case_never : {A B : Type 0} (f : A → B) (r : Result A DecodeReason) → IsNot r → IsNot (as_case f r)
as_case_never f (Ok x) p e = absurd cc
as_case_never f (Err reason) p e = let q : reason ≡ Truncated = cc in p (rw q refl)

pub value_form_never : Never Truncated value_form
value_form_never b = search (either, known, as_case_never value_forms.Primitive (prim_val_type b) (prim_val_type_never b)) depth 20

pub type_form_never : Never Truncated type_form
type_form_never b = search (either, known, unsupported, as_case_never type_forms.Value (value_form b) (value_form_never b)) depth 20

pub declared_type_form_never : Never Truncated declared_type_form
declared_type_form_never b = search (either, known, unsupported, as_case_never declared_type_forms.Value (value_form b) (value_form_never b)) depth 20

pub declaration_form_never : Never Truncated declaration_form
declaration_form_never b = search (either, known, unknown, unsupported) depth 20

pub outer_type_target_never : Never Truncated outer_type_target
outer_type_target_never b = search (either, known, no_target) depth 20

pub declared_desc_form_never : Never Truncated declared_desc_form
declared_desc_form_never b = search (either, known, unknown, unsupported) depth 20

pub type_bound_form_never : Never Truncated type_bound_form
type_bound_form_never b = search (either, known, unknown) depth 20

pub optional_form_never : Never Truncated optional_form
optional_form_never b = search (either, known, unknown) depth 20

pub result_form_never : Never Truncated result_form
result_form_never b = search (either, known, unknown, unsupported) depth 20

pub canon_form_never : Never Truncated canon_form
canon_form_never b = search (either, known, unknown, unsupported) depth 20

pub desc_form_never : Never Truncated desc_form
desc_form_never b = search (either, known, unknown, unsupported) depth 20

pub export_sort_never : Never Truncated export_sort
export_sort_never b = search (either, known, unknown, unsupported) depth 20

pub export_desc_never : Never Truncated export_desc
export_desc_never b = search (either, known, unknown, unsupported) depth 20

pub instance_form_never : Never Truncated instance_form
instance_form_never b = search (either, known, unknown, unsupported) depth 20

pub instance_export_sort_never : Never Truncated instance_export_sort
instance_export_sort_never b = search (either, known, unknown, unsupported) depth 20

pub option_form_never : Never Truncated option_form
option_form_never b = search (either, known, unknown, unsupported) depth 20
