-- In each production want of a byte stands where the bytes end.
use Rattle.std.proofs.Common.{◌≡◌, ℕ, Bool, true, false}
use Rattle.cm_binary_grammar.specs.Grammar.{number}
use Rattle.cm_binary_grammar.proofs.WantLaws.{Ends, EndsWhole, done_ends, bind_ends, ahead_ends, code_ends, number_ends, signed_ends, raw_ends, check_ends, fixed_ends, chain_ends, from_stock_ends, vec_ends, build_ends, remainder_ends, exactly_ends, join_ends, begins_with_ends, to_end_ends, of_size_ends, at_most_ends}
use Rattle.cm_binary_model.specs.declared.limits.TheConstants.{MAX_TYPES}
use Rattle.cm_binary_forms.specs.declared.fault.DecodeReason.{DecodeReason}
use Rattle.cm_binary_forms.specs.declared.fault.DecodeReason.TheVariants.{BadPreamble, Truncated, BadNumber, SizeMismatch, UnknownCode, BadUtf8, BadName, NotAModule, TooMany, TooLong}
use Rattle.cm_binary_forms.specs.declared.codes.SectionKind.{SectionKind}
use Rattle.cm_binary_forms.specs.declared.codes.SectionKind.TheVariants as kinds
use Rattle.cm_binary_forms.specs.declared.codes.AliasSort.{AliasSort}
use Rattle.cm_binary_forms.specs.declared.codes.AliasSort.TheVariants as alias_sorts
use Rattle.cm_binary_forms.specs.declared.codes.OptionalForm.{OptionalForm}
use Rattle.cm_binary_forms.specs.declared.codes.OptionalForm.TheVariants as optional_forms
use Rattle.cm_binary_forms.specs.declared.codes.ValueForm.{ValueForm}
use Rattle.cm_binary_forms.specs.declared.codes.ValueForm.TheVariants as value_forms
use Rattle.cm_binary_forms.specs.declared.codes.TypeForm.{TypeForm}
use Rattle.cm_binary_forms.specs.declared.codes.TypeForm.TheVariants as type_forms
use Rattle.cm_binary_forms.specs.declared.codes.DeclaredTypeForm.{DeclaredTypeForm}
use Rattle.cm_binary_forms.specs.declared.codes.DeclaredTypeForm.TheVariants as declared_type_forms
use Rattle.cm_binary_forms.specs.declared.codes.DeclarationForm.{DeclarationForm}
use Rattle.cm_binary_forms.specs.declared.codes.DeclarationForm.TheVariants as declaration_forms
use Rattle.cm_binary_forms.specs.declared.codes.DeclaredDescForm.{DeclaredDescForm}
use Rattle.cm_binary_forms.specs.declared.codes.DeclaredDescForm.TheVariants as declared_descs
use Rattle.cm_binary_forms.specs.declared.codes.TypeBoundForm.{TypeBoundForm}
use Rattle.cm_binary_forms.specs.declared.codes.TypeBoundForm.TheVariants as bound_forms
use Rattle.cm_binary_forms.specs.declared.codes.ResultForm.{ResultForm}
use Rattle.cm_binary_forms.specs.declared.codes.ResultForm.TheVariants as result_forms
use Rattle.cm_binary_forms.specs.declared.codes.CanonForm.{CanonForm}
use Rattle.cm_binary_forms.specs.declared.codes.CanonForm.TheVariants as canon_forms
use Rattle.cm_binary_forms.specs.declared.codes.CoreInstanceForm.{CoreInstanceForm}
use Rattle.cm_binary_forms.specs.declared.codes.CoreInstanceForm.TheVariants as core_instance_forms
use Rattle.cm_binary_forms.specs.declared.codes.TypeAliasTarget.{TypeAliasTarget}
use Rattle.cm_binary_forms.specs.declared.codes.TypeAliasTarget.TheVariants as type_targets
use Rattle.cm_binary_forms.specs.declared.codes.OptionForm.{OptionForm}
use Rattle.cm_binary_forms.specs.declared.codes.OptionForm.TheVariants as option_forms
use Rattle.cm_binary_forms.specs.declared.codes.DescForm.{DescForm}
use Rattle.cm_binary_forms.specs.declared.codes.DescForm.TheVariants as desc_forms
use Rattle.cm_binary_model.specs.declared.instances.InstanceExportSort.{InstanceExportSort}
use Rattle.cm_binary_forms.specs.Codes.{is_from}
use Rattle.cm_binary_forms.specs.Texts.{Production, text, label, plain_name, extern_name}
use Rattle.cm_binary_forms.specs.Instances.{core_arg, core_export, core_instance_of, core_instance, inline_export, instance_item}
use Rattle.cm_binary_forms.specs.Aliases.{outer_type, instance_export, type_alias_of, alias_of, alias}
use Rattle.cm_binary_forms.specs.Types.{optional_of, optional, type_index, val_type_of, val_type, param, case_type, def_val_type_of, func_result_of, func_result, func_type, declared_type_of, declared_type, declared_type_from, declared_alias_of, declared_alias, type_bound_of, type_bound, export_desc_of, export_desc, export_decl, declaration_of, declaration, declarations, def_type_of, def_type, def_type_from, type_defs}
use Rattle.cm_binary_forms.specs.Canons.{canon_option_of, canon_option, canon_of, canon}
use Rattle.cm_binary_forms.specs.Externs.{extern_desc_of, extern_desc, import_item, export_item}
use Rattle.cm_binary_forms.specs.Sections.{contents, section, sections, room_after}
use Rattle.cm_binary_forms.specs.File.{component, file}
use Rattle.cm_binary.proofs.CodeWants.{section_kind_never, core_instance_form_never, core_sort_never, instance_form_never, instance_export_sort_never, alias_sort_never, core_alias_target_never, func_alias_target_never, type_alias_target_never, no_alias_target_never, prim_val_type_never, type_form_never, declared_type_form_never, declaration_form_never, outer_type_target_never, declared_desc_form_never, type_bound_form_never, optional_form_never, result_form_never, canon_form_never, option_form_never, desc_form_never, export_sort_never, export_desc_never}

-- Another reason than want of a byte.
abbrev IsOther : DecodeReason → Type 0
IsOther reason = reason ≡ Truncated → ⊥

pub bad_preamble : IsOther BadPreamble
bad_preamble e = absurd cc

pub bad_number : IsOther BadNumber
bad_number e = absurd cc

pub size_mismatch : IsOther SizeMismatch
size_mismatch e = absurd cc

pub unknown_code : IsOther UnknownCode
unknown_code e = absurd cc

pub bad_utf8 : IsOther BadUtf8
bad_utf8 e = absurd cc

pub bad_name : IsOther BadName
bad_name e = absurd cc

pub not_a_module : IsOther NotAModule
not_a_module e = absurd cc

pub too_many : IsOther TooMany
too_many e = absurd cc

pub too_long : IsOther TooLong
too_long e = absurd cc

pub index_ends : Ends Truncated (number BadNumber)
index_ends = number_ends _ _ bad_number

pub text_ends : Ends Truncated text
unfolding text
text_ends = bind_ends _ _ _ index_ends (λ n. check_ends _ _ _ _ bad_utf8 (raw_ends _ n))

pub label_ends : Ends Truncated label
unfolding label
label_ends = bind_ends _ _ _ index_ends (λ n. check_ends _ _ _ _ bad_name (check_ends _ _ _ _ bad_utf8 (raw_ends _ n)))

pub plain_name_ends : Ends Truncated plain_name
unfolding plain_name
plain_name_ends = bind_ends _ _ _ index_ends (λ n. check_ends _ _ _ _ bad_name (check_ends _ _ _ _ bad_utf8 (raw_ends _ n)))

pub extern_name_ends : Ends Truncated extern_name
unfolding extern_name
extern_name_ends = bind_ends _ _ _ (fixed_ends _ _ _ unknown_code) (λ plain. plain_name_ends)

pub core_arg_ends : Ends Truncated core_arg
unfolding core_arg
core_arg_ends = bind_ends _ _ _ text_ends (λ name. bind_ends _ _ _ (fixed_ends _ _ _ unknown_code) (λ sort. bind_ends _ _ _ index_ends (λ i. done_ends _ _)))

pub core_export_ends : Ends Truncated core_export
unfolding core_export
core_export_ends = bind_ends _ _ _ text_ends (λ name. bind_ends _ _ _ (code_ends _ _ core_sort_never) (λ sort. bind_ends _ _ _ index_ends (λ i. done_ends _ _)))

pub core_instance_of_ends : (f : CoreInstanceForm) → Ends Truncated (core_instance_of f)
unfolding core_instance_of
core_instance_of_ends core_instance_forms.Instantiate = bind_ends _ _ _ index_ends (λ m. bind_ends _ _ _ (vec_ends _ _ _ bad_number core_arg_ends) (λ args. done_ends _ _))
core_instance_of_ends core_instance_forms.Exports = bind_ends _ _ _ (vec_ends _ _ _ bad_number core_export_ends) (λ exports. done_ends _ _)

pub core_instance_ends : Ends Truncated core_instance
unfolding core_instance
core_instance_ends = bind_ends _ _ _ (code_ends _ _ core_instance_form_never) core_instance_of_ends

pub inline_export_ends : Ends Truncated inline_export
unfolding inline_export
inline_export_ends = bind_ends _ _ _ extern_name_ends (λ name. bind_ends _ _ _ (code_ends _ _ instance_export_sort_never) (λ sort. bind_ends _ _ _ index_ends (λ i. done_ends _ _)))

pub instance_ends : Ends Truncated instance_item
unfolding instance_item
instance_ends = bind_ends _ _ _ (code_ends _ _ instance_form_never) (λ form. vec_ends _ _ _ bad_number inline_export_ends)

pub outer_type_ends : Ends Truncated outer_type
unfolding outer_type
outer_type_ends = bind_ends _ _ _ index_ends (λ count. bind_ends _ _ _ index_ends (λ i. done_ends _ _))

pub instance_export_ends : (sort : InstanceExportSort) → Ends Truncated (instance_export sort)
unfolding instance_export
instance_export_ends sort = bind_ends _ _ _ index_ends (λ i. bind_ends _ _ _ plain_name_ends (λ name. done_ends _ _))

pub type_alias_of_ends : (t : TypeAliasTarget) → Ends Truncated (type_alias_of t)
unfolding type_alias_of
type_alias_of_ends type_targets.InstanceExport = instance_export_ends _
type_alias_of_ends type_targets.OuterType = bind_ends _ _ _ outer_type_ends (λ outer. done_ends _ _)

pub alias_of_ends : (s : AliasSort) → Ends Truncated (alias_of s)
unfolding alias_of
alias_of_ends alias_sorts.Core = bind_ends _ _ _ (code_ends _ _ core_sort_never) (λ sort. bind_ends _ _ _ (code_ends _ _ core_alias_target_never) (λ target. bind_ends _ _ _ index_ends (λ i. bind_ends _ _ _ text_ends (λ name. done_ends _ _))))
alias_of_ends alias_sorts.Func = bind_ends _ _ _ (code_ends _ _ func_alias_target_never) (λ target. instance_export_ends _)
alias_of_ends alias_sorts.Type = bind_ends _ _ _ (code_ends _ _ type_alias_target_never) type_alias_of_ends
alias_of_ends alias_sorts.Instance = code_ends _ _ no_alias_target_never

pub alias_ends : Ends Truncated alias
unfolding alias
alias_ends = bind_ends _ _ _ (code_ends _ _ alias_sort_never) alias_of_ends

pub optional_of_ends : {A : Type 0} (g : Production A) → Ends Truncated g → (f : OptionalForm) → Ends Truncated (optional_of g f)
unfolding optional_of
optional_of_ends g l optional_forms.Absent = done_ends _ _
optional_of_ends g l optional_forms.Present = bind_ends _ _ _ l (λ x. done_ends _ _)

pub optional_ends : {A : Type 0} (g : Production A) → Ends Truncated g → Ends Truncated (optional g)
unfolding optional
optional_ends g l = bind_ends _ _ _ (code_ends _ _ optional_form_never) (optional_of_ends g l)

pub type_index_ends : Ends Truncated type_index
unfolding type_index
type_index_ends = check_ends _ _ _ _ bad_number (signed_ends _ _ bad_number)

pub val_type_of_ends : (p : Bool) → Ends Truncated (val_type_of p)
unfolding val_type_of
val_type_of_ends true = bind_ends _ _ _ (code_ends _ _ prim_val_type_never) (λ primitive. done_ends _ _)
val_type_of_ends false = bind_ends _ _ _ type_index_ends (λ number. done_ends _ _)

pub val_type_ends : Ends Truncated val_type
unfolding val_type
val_type_ends = ahead_ends _ _ (λ b. val_type_of_ends (is_from 0x40 0x7f b))

pub param_ends : Ends Truncated param
unfolding param
param_ends = bind_ends _ _ _ label_ends (λ name. bind_ends _ _ _ val_type_ends (λ ty. done_ends _ _))

pub case_type_ends : Ends Truncated case_type
unfolding case_type
case_type_ends = bind_ends _ _ _ label_ends (λ name. bind_ends _ _ _ (optional_ends _ val_type_ends) (λ payload. bind_ends _ _ _ (fixed_ends _ _ _ unknown_code) (λ nothing. done_ends _ _)))

pub def_val_type_of_ends : (f : ValueForm) → Ends Truncated (def_val_type_of f)
unfolding def_val_type_of
def_val_type_of_ends (value_forms.Primitive p) = done_ends _ _
def_val_type_of_ends value_forms.Record = bind_ends _ _ _ (vec_ends _ _ _ bad_number param_ends) (λ fields. done_ends _ _)
def_val_type_of_ends value_forms.Variant = bind_ends _ _ _ (vec_ends _ _ _ bad_number case_type_ends) (λ cases. done_ends _ _)
def_val_type_of_ends value_forms.List = bind_ends _ _ _ val_type_ends (λ element. done_ends _ _)
def_val_type_of_ends value_forms.FixedList = bind_ends _ _ _ val_type_ends (λ element. bind_ends _ _ _ index_ends (λ count. done_ends _ _))
def_val_type_of_ends value_forms.Tuple = bind_ends _ _ _ (vec_ends _ _ _ bad_number val_type_ends) (λ parts. done_ends _ _)
def_val_type_of_ends value_forms.Flags = bind_ends _ _ _ (vec_ends _ _ _ bad_number label_ends) (λ labels. done_ends _ _)
def_val_type_of_ends value_forms.Enum = bind_ends _ _ _ (vec_ends _ _ _ bad_number label_ends) (λ labels. done_ends _ _)
def_val_type_of_ends value_forms.Option = bind_ends _ _ _ val_type_ends (λ some. done_ends _ _)
def_val_type_of_ends value_forms.Result = bind_ends _ _ _ (optional_ends _ val_type_ends) (λ ok. bind_ends _ _ _ (optional_ends _ val_type_ends) (λ error. done_ends _ _))
def_val_type_of_ends value_forms.Own = bind_ends _ _ _ index_ends (λ resource. done_ends _ _)
def_val_type_of_ends value_forms.Borrow = bind_ends _ _ _ index_ends (λ resource. done_ends _ _)

pub func_result_of_ends : (f : ResultForm) → Ends Truncated (func_result_of f)
unfolding func_result_of
func_result_of_ends result_forms.One = bind_ends _ _ _ val_type_ends (λ ty. done_ends _ _)
func_result_of_ends result_forms.Zero = bind_ends _ _ _ (fixed_ends _ _ _ unknown_code) (λ nothing. done_ends _ _)

pub func_result_ends : Ends Truncated func_result
unfolding func_result
func_result_ends = bind_ends _ _ _ (code_ends _ _ result_form_never) func_result_of_ends

pub func_type_ends : Ends Truncated func_type
unfolding func_type
func_type_ends = bind_ends _ _ _ (vec_ends _ _ _ bad_number param_ends) (λ params. bind_ends _ _ _ func_result_ends (λ r. done_ends _ _))

pub declared_type_of_ends : (f : DeclaredTypeForm) → Ends Truncated (declared_type_of f)
unfolding declared_type_of
declared_type_of_ends (declared_type_forms.Value form) = bind_ends _ _ _ (def_val_type_of_ends form) (λ value. done_ends _ _)
declared_type_of_ends declared_type_forms.Func = bind_ends _ _ _ func_type_ends (λ func. done_ends _ _)

pub declared_type_ends : Ends Truncated declared_type
unfolding declared_type
declared_type_ends = bind_ends _ _ _ (code_ends _ _ declared_type_form_never) declared_type_of_ends

pub declared_type_from_ends : (stock : ℕ) → Ends Truncated (declared_type_from stock)
unfolding declared_type_from
declared_type_from_ends stock = from_stock_ends _ _ _ too_many (λ left. declared_type_ends) stock

pub declared_alias_of_ends : (s : AliasSort) → Ends Truncated (declared_alias_of s)
unfolding declared_alias_of
declared_alias_of_ends alias_sorts.Core = bind_ends _ _ _ (code_ends _ _ core_sort_never) (λ sort. code_ends _ _ no_alias_target_never)
declared_alias_of_ends alias_sorts.Func = code_ends _ _ no_alias_target_never
declared_alias_of_ends alias_sorts.Type = bind_ends _ _ _ (code_ends _ _ outer_type_target_never) (λ target. outer_type_ends)
declared_alias_of_ends alias_sorts.Instance = code_ends _ _ no_alias_target_never

pub declared_alias_ends : Ends Truncated declared_alias
unfolding declared_alias
declared_alias_ends = bind_ends _ _ _ (code_ends _ _ alias_sort_never) declared_alias_of_ends

pub type_bound_of_ends : (f : TypeBoundForm) → Ends Truncated (type_bound_of f)
unfolding type_bound_of
type_bound_of_ends bound_forms.Equal = bind_ends _ _ _ index_ends (λ ty. done_ends _ _)
type_bound_of_ends bound_forms.SubResource = done_ends _ _

pub type_bound_ends : Ends Truncated type_bound
unfolding type_bound
type_bound_ends = bind_ends _ _ _ (code_ends _ _ type_bound_form_never) type_bound_of_ends

pub export_desc_of_ends : (f : DeclaredDescForm) → Ends Truncated (export_desc_of f)
unfolding export_desc_of
export_desc_of_ends declared_descs.Func = bind_ends _ _ _ index_ends (λ ty. done_ends _ _)
export_desc_of_ends declared_descs.Type = bind_ends _ _ _ type_bound_ends (λ bound. done_ends _ _)

pub export_desc_ends : Ends Truncated export_desc
unfolding export_desc
export_desc_ends = bind_ends _ _ _ (code_ends _ _ declared_desc_form_never) export_desc_of_ends

pub export_decl_ends : Ends Truncated export_decl
unfolding export_decl
export_decl_ends = bind_ends _ _ _ extern_name_ends (λ name. bind_ends _ _ _ export_desc_ends (λ desc. done_ends _ _))

pub declaration_of_ends : (stock : ℕ) (f : DeclarationForm) → Ends Truncated (declaration_of stock f)
unfolding declaration_of
declaration_of_ends stock declaration_forms.Type = bind_ends _ _ _ (declared_type_from_ends stock) (λ ty. done_ends _ _)
declaration_of_ends stock declaration_forms.Alias = bind_ends _ _ _ declared_alias_ends (λ outer. done_ends _ _)
declaration_of_ends stock declaration_forms.Export = bind_ends _ _ _ export_decl_ends (λ export. done_ends _ _)

pub declaration_ends : (stock : ℕ) → Ends Truncated (declaration stock)
unfolding declaration
declaration_ends stock = bind_ends _ _ _ (code_ends _ _ declaration_form_never) (declaration_of_ends stock)

pub declarations_ends : (stock : ℕ) → Ends Truncated (declarations stock)
unfolding declarations
declarations_ends stock = bind_ends _ _ _ index_ends (λ n. chain_ends _ _ _ declaration_ends n stock)

pub def_type_of_ends : (left : ℕ) (f : TypeForm) → Ends Truncated (def_type_of left f)
unfolding def_type_of
def_type_of_ends left (type_forms.Value form) = bind_ends _ _ _ (def_val_type_of_ends form) (λ value. done_ends _ _)
def_type_of_ends left type_forms.Func = bind_ends _ _ _ func_type_ends (λ func. done_ends _ _)
def_type_of_ends left type_forms.Resource = bind_ends _ _ _ (fixed_ends _ _ _ unknown_code) (λ representation. bind_ends _ _ _ (optional_ends _ index_ends) (λ destructor. done_ends _ _))
def_type_of_ends left type_forms.Instance = bind_ends _ _ _ (declarations_ends left) (λ items. done_ends _ _)

pub def_type_ends : (left : ℕ) → Ends Truncated (def_type left)
unfolding def_type
def_type_ends left = bind_ends _ _ _ (code_ends _ _ type_form_never) (def_type_of_ends left)

pub def_type_from_ends : (stock : ℕ) → Ends Truncated (def_type_from stock)
unfolding def_type_from
def_type_from_ends stock = from_stock_ends _ _ _ too_many def_type_ends stock

pub type_defs_ends : (stock : ℕ) → Ends Truncated (type_defs stock)
unfolding type_defs
type_defs_ends stock = bind_ends _ _ _ index_ends (λ n. chain_ends _ _ _ def_type_from_ends n stock)

pub canon_option_of_ends : (f : OptionForm) → Ends Truncated (canon_option_of f)
unfolding canon_option_of
canon_option_of_ends option_forms.Utf8 = done_ends _ _
canon_option_of_ends option_forms.Utf16 = done_ends _ _
canon_option_of_ends option_forms.Latin1Utf16 = done_ends _ _
canon_option_of_ends option_forms.Memory = bind_ends _ _ _ index_ends (λ i. done_ends _ _)
canon_option_of_ends option_forms.Realloc = bind_ends _ _ _ index_ends (λ i. done_ends _ _)
canon_option_of_ends option_forms.PostReturn = bind_ends _ _ _ index_ends (λ i. done_ends _ _)

pub canon_option_ends : Ends Truncated canon_option
unfolding canon_option
canon_option_ends = bind_ends _ _ _ (code_ends _ _ option_form_never) canon_option_of_ends

pub canon_of_ends : (f : CanonForm) → Ends Truncated (canon_of f)
unfolding canon_of
canon_of_ends canon_forms.Lift = bind_ends _ _ _ (fixed_ends _ _ _ unknown_code) (λ sort. bind_ends _ _ _ index_ends (λ func. bind_ends _ _ _ (vec_ends _ _ _ bad_number canon_option_ends) (λ opts. bind_ends _ _ _ index_ends (λ ty. done_ends _ _))))
canon_of_ends canon_forms.Lower = bind_ends _ _ _ (fixed_ends _ _ _ unknown_code) (λ sort. bind_ends _ _ _ index_ends (λ func. bind_ends _ _ _ (vec_ends _ _ _ bad_number canon_option_ends) (λ opts. done_ends _ _)))
canon_of_ends canon_forms.ResourceNew = bind_ends _ _ _ index_ends (λ resource. done_ends _ _)
canon_of_ends canon_forms.ResourceDrop = bind_ends _ _ _ index_ends (λ resource. done_ends _ _)
canon_of_ends canon_forms.ResourceRep = bind_ends _ _ _ index_ends (λ resource. done_ends _ _)

pub canon_ends : Ends Truncated canon
unfolding canon
canon_ends = bind_ends _ _ _ (code_ends _ _ canon_form_never) canon_of_ends

pub extern_desc_of_ends : (f : DescForm) → Ends Truncated (extern_desc_of f)
unfolding extern_desc_of
extern_desc_of_ends desc_forms.Func = bind_ends _ _ _ index_ends (λ ty. done_ends _ _)
extern_desc_of_ends desc_forms.Instance = bind_ends _ _ _ index_ends (λ ty. done_ends _ _)

pub extern_desc_ends : Ends Truncated extern_desc
unfolding extern_desc
extern_desc_ends = bind_ends _ _ _ (code_ends _ _ desc_form_never) extern_desc_of_ends

pub import_ends : Ends Truncated import_item
unfolding import_item
import_ends = bind_ends _ _ _ extern_name_ends (λ name. bind_ends _ _ _ extern_desc_ends (λ desc. done_ends _ _))

pub export_ends : Ends Truncated export_item
unfolding export_item
export_ends = bind_ends _ _ _ extern_name_ends (λ name. bind_ends _ _ _ (code_ends _ _ export_sort_never) (λ sort. bind_ends _ _ _ index_ends (λ func. bind_ends _ _ _ (code_ends _ _ export_desc_never) (λ desc. done_ends _ _))))

pub contents_ends : (room : ℕ) (kind : SectionKind) → EndsWhole Truncated (contents room kind)
unfolding contents
contents_ends room kinds.Custom = join_ends _ _ _ text_ends (λ name. build_ends _ _ _ (remainder_ends _))
contents_ends room kinds.CoreModule = build_ends _ _ _ (begins_with_ends _ _ _ not_a_module)
contents_ends room kinds.CoreInstances = build_ends _ _ _ (exactly_ends _ _ _ size_mismatch (vec_ends _ _ _ bad_number core_instance_ends))
contents_ends room kinds.Instances = build_ends _ _ _ (exactly_ends _ _ _ size_mismatch (vec_ends _ _ _ bad_number instance_ends))
contents_ends room kinds.Aliases = build_ends _ _ _ (exactly_ends _ _ _ size_mismatch (vec_ends _ _ _ bad_number alias_ends))
contents_ends room kinds.Types = build_ends _ _ _ (exactly_ends _ _ _ size_mismatch (type_defs_ends room))
contents_ends room kinds.Canons = build_ends _ _ _ (exactly_ends _ _ _ size_mismatch (vec_ends _ _ _ bad_number canon_ends))
contents_ends room kinds.Imports = build_ends _ _ _ (exactly_ends _ _ _ size_mismatch (vec_ends _ _ _ bad_number import_ends))
contents_ends room kinds.Exports = build_ends _ _ _ (exactly_ends _ _ _ size_mismatch (vec_ends _ _ _ bad_number export_ends))

pub section_ends : (room : ℕ) → Ends Truncated (section room)
unfolding section
section_ends room = bind_ends _ _ _ (code_ends _ _ section_kind_never) (λ kind. bind_ends _ _ _ index_ends (λ size. of_size_ends _ _ size _ size_mismatch (contents_ends room kind)))

pub sections_ends : (room : ℕ) → EndsWhole Truncated (sections room)
unfolding sections
sections_ends room = to_end_ends _ section room_after section_ends room

pub component_ends : EndsWhole Truncated component
unfolding component
component_ends = join_ends _ _ _ (fixed_ends _ _ _ bad_preamble) (λ preamble. sections_ends MAX_TYPES)

pub file_ends : EndsWhole Truncated file
unfolding file
file_ends = at_most_ends _ _ _ _ too_long component_ends
