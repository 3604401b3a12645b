-- Types are read exactly.
use Rattle.std.proofs.Common.{ℕ, ◌<◌, Bool, true, false, List, length, ap, arith}
use Rattle.std.proofs.lemmas.List.{length-append}
use Rattle.cm_binary_grammar.proofs.Laws.{Lawful, done_lawful, bind_lawful, ahead_lawful, code_lawful, signed_lawful, check_lawful, fixed_lawful, vec_lawful, from_stock_lawful, stocked_lawful}
use Rattle.cm_types.specs.declared.def_types.ValType.{ValType}
use Rattle.cm_binary_forms.specs.declared.codes.OptionalForm.{OptionalForm}
use Rattle.cm_binary_forms.specs.declared.codes.OptionalForm.TheVariants as optional_forms
use Rattle.cm_binary_forms.specs.declared.codes.ResultForm.{ResultForm}
use Rattle.cm_binary_forms.specs.declared.codes.ResultForm.TheVariants as result_forms
use Rattle.cm_binary_forms.specs.declared.codes.ValueForm.{ValueForm}
use Rattle.cm_binary_forms.specs.declared.codes.ValueForm.TheVariants as value_forms
use Rattle.cm_binary_forms.specs.declared.codes.DeclaredTypeForm.{DeclaredTypeForm}
use Rattle.cm_binary_forms.specs.declared.codes.DeclaredTypeForm.TheVariants as declared_type_forms
use Rattle.cm_binary_forms.specs.declared.codes.DeclarationForm.{DeclarationForm}
use Rattle.cm_binary_forms.specs.declared.codes.DeclarationForm.TheVariants as declaration_forms
use Rattle.cm_binary_forms.specs.declared.codes.DeclaredDescForm.{DeclaredDescForm}
use Rattle.cm_binary_forms.specs.declared.codes.DeclaredDescForm.TheVariants as declared_descs
use Rattle.cm_binary_forms.specs.declared.codes.TypeBoundForm.{TypeBoundForm}
use Rattle.cm_binary_forms.specs.declared.codes.TypeBoundForm.TheVariants as bound_forms
use Rattle.cm_binary_forms.specs.declared.codes.AliasSort.{AliasSort}
use Rattle.cm_binary_forms.specs.declared.codes.AliasSort.TheVariants as alias_sorts
use Rattle.cm_binary_forms.specs.declared.codes.TypeForm.{TypeForm}
use Rattle.cm_binary_forms.specs.declared.codes.TypeForm.TheVariants as type_forms
use Rattle.cm_binary_forms.specs.Texts.{Production}
use Rattle.cm_binary_forms.specs.Codes.{is_from}
use Rattle.cm_binary_forms.specs.Types.{optional_of, optional, type_index, val_type_of, val_type, param, case_type, def_val_type_of, func_result_of, func_result, func_type, declared_type_of, declared_type, declared_type_from, declared_alias_of, declared_alias, type_bound_of, type_bound, export_desc_of, export_desc, export_decl, declaration_of, declaration, declarations, def_type_of, def_type, def_type_from, type_defs}
use Rattle.cm_binary_forms.proofs.LawfulTexts.{index_lawful, label_lawful, extern_name_lawful}
use Rattle.cm_binary_forms.proofs.LawfulAliases.{outer_type_lawful}
use Rattle.cm_leb.proofs.SignedLaws.{IsGroup-some}

pub optional_of_lawful : {A : Type 0} (g : Production A) → Lawful g → (f : OptionalForm) → Lawful (optional_of g f)
unfolding optional_of
optional_of_lawful g l optional_forms.Absent = done_lawful _
optional_of_lawful g l optional_forms.Present = bind_lawful _ _ l (λ x. done_lawful _)

pub optional_lawful : {A : Type 0} (g : Production A) → Lawful g → Lawful (optional g)
unfolding optional
optional_lawful g l = bind_lawful _ _ (code_lawful _) (optional_of_lawful g l)

pub type_index_lawful : Lawful type_index
unfolding type_index
type_index_lawful = check_lawful _ _ _ (signed_lawful _)

pub val_type_of_lawful : (p : Bool) → Lawful (val_type_of p)
unfolding val_type_of
val_type_of_lawful true = bind_lawful _ _ (code_lawful _) (λ primitive. done_lawful _)
val_type_of_lawful false = bind_lawful _ _ type_index_lawful (λ number. done_lawful _)

val_type_of_nonempty : (p : Bool) (x : ValType) (front : List ℕ) → (val_type_of p).Spells x front → 0 < length front
unfolding val_type_of type_index
val_type_of_nonempty true x front s = omega (arith, ap length s.5, length-append s.1 s.2, ap length s.3.1)
val_type_of_nonempty false x front s = omega (arith, ap length s.5, length-append s.1 s.2, IsGroup-some s.1 s.3.0.group)

pub val_type_lawful : Lawful val_type
unfolding val_type
val_type_lawful = ahead_lawful _ (λ b. val_type_of_lawful (is_from 0x40 0x7f b)) (λ b. val_type_of_nonempty (is_from 0x40 0x7f b))

pub param_lawful : Lawful param
unfolding param
param_lawful = bind_lawful _ _ label_lawful (λ name. bind_lawful _ _ val_type_lawful (λ ty. done_lawful _))

pub case_type_lawful : Lawful case_type
unfolding case_type
case_type_lawful = bind_lawful _ _ label_lawful (λ name. bind_lawful _ _ (optional_lawful _ val_type_lawful) (λ payload. bind_lawful _ _ (fixed_lawful _ _) (λ nothing. done_lawful _)))

pub def_val_type_of_lawful : (f : ValueForm) → Lawful (def_val_type_of f)
unfolding def_val_type_of
def_val_type_of_lawful (value_forms.Primitive p) = done_lawful _
def_val_type_of_lawful value_forms.Record = bind_lawful _ _ (vec_lawful _ _ param_lawful) (λ fields. done_lawful _)
def_val_type_of_lawful value_forms.Variant = bind_lawful _ _ (vec_lawful _ _ case_type_lawful) (λ cases. done_lawful _)
def_val_type_of_lawful value_forms.List = bind_lawful _ _ val_type_lawful (λ element. done_lawful _)
def_val_type_of_lawful value_forms.FixedList = bind_lawful _ _ val_type_lawful (λ element. bind_lawful _ _ index_lawful (λ count. done_lawful _))
def_val_type_of_lawful value_forms.Tuple = bind_lawful _ _ (vec_lawful _ _ val_type_lawful) (λ parts. done_lawful _)
def_val_type_of_lawful value_forms.Flags = bind_lawful _ _ (vec_lawful _ _ label_lawful) (λ labels. done_lawful _)
def_val_type_of_lawful value_forms.Enum = bind_lawful _ _ (vec_lawful _ _ label_lawful) (λ labels. done_lawful _)
def_val_type_of_lawful value_forms.Option = bind_lawful _ _ val_type_lawful (λ some. done_lawful _)
def_val_type_of_lawful value_forms.Result = bind_lawful _ _ (optional_lawful _ val_type_lawful) (λ ok. bind_lawful _ _ (optional_lawful _ val_type_lawful) (λ error. done_lawful _))
def_val_type_of_lawful value_forms.Own = bind_lawful _ _ index_lawful (λ resource. done_lawful _)
def_val_type_of_lawful value_forms.Borrow = bind_lawful _ _ index_lawful (λ resource. done_lawful _)

pub func_result_of_lawful : (f : ResultForm) → Lawful (func_result_of f)
unfolding func_result_of
func_result_of_lawful result_forms.One = bind_lawful _ _ val_type_lawful (λ ty. done_lawful _)
func_result_of_lawful result_forms.Zero = bind_lawful _ _ (fixed_lawful _ _) (λ nothing. done_lawful _)

pub func_result_lawful : Lawful func_result
unfolding func_result
func_result_lawful = bind_lawful _ _ (code_lawful _) func_result_of_lawful

pub func_type_lawful : Lawful func_type
unfolding func_type
func_type_lawful = bind_lawful _ _ (vec_lawful _ _ param_lawful) (λ params. bind_lawful _ _ func_result_lawful (λ r. done_lawful _))

pub declared_type_of_lawful : (f : DeclaredTypeForm) → Lawful (declared_type_of f)
unfolding declared_type_of
declared_type_of_lawful (declared_type_forms.Value form) = bind_lawful _ _ (def_val_type_of_lawful form) (λ value. done_lawful _)
declared_type_of_lawful declared_type_forms.Func = bind_lawful _ _ func_type_lawful (λ func. done_lawful _)

pub declared_type_lawful : Lawful declared_type
unfolding declared_type
declared_type_lawful = bind_lawful _ _ (code_lawful _) declared_type_of_lawful

pub declared_type_from_lawful : (stock : ℕ) → Lawful (declared_type_from stock)
unfolding declared_type_from
declared_type_from_lawful stock = from_stock_lawful _ _ (λ left. declared_type_lawful) stock

pub declared_alias_of_lawful : (s : AliasSort) → Lawful (declared_alias_of s)
unfolding declared_alias_of
declared_alias_of_lawful alias_sorts.Core = bind_lawful _ _ (code_lawful _) (λ sort. code_lawful _)
declared_alias_of_lawful alias_sorts.Func = code_lawful _
declared_alias_of_lawful alias_sorts.Type = bind_lawful _ _ (code_lawful _) (λ target. outer_type_lawful)
declared_alias_of_lawful alias_sorts.Instance = code_lawful _

pub declared_alias_lawful : Lawful declared_alias
unfolding declared_alias
declared_alias_lawful = bind_lawful _ _ (code_lawful _) declared_alias_of_lawful

pub type_bound_of_lawful : (f : TypeBoundForm) → Lawful (type_bound_of f)
unfolding type_bound_of
type_bound_of_lawful bound_forms.Equal = bind_lawful _ _ index_lawful (λ ty. done_lawful _)
type_bound_of_lawful bound_forms.SubResource = done_lawful _

pub type_bound_lawful : Lawful type_bound
unfolding type_bound
type_bound_lawful = bind_lawful _ _ (code_lawful _) type_bound_of_lawful

pub export_desc_of_lawful : (f : DeclaredDescForm) → Lawful (export_desc_of f)
unfolding export_desc_of
export_desc_of_lawful declared_descs.Func = bind_lawful _ _ index_lawful (λ ty. done_lawful _)
export_desc_of_lawful declared_descs.Type = bind_lawful _ _ type_bound_lawful (λ bound. done_lawful _)

pub export_desc_lawful : Lawful export_desc
unfolding export_desc
export_desc_lawful = bind_lawful _ _ (code_lawful _) export_desc_of_lawful

pub export_decl_lawful : Lawful export_decl
unfolding export_decl
export_decl_lawful = bind_lawful _ _ extern_name_lawful (λ name. bind_lawful _ _ export_desc_lawful (λ desc. done_lawful _))

pub declaration_of_lawful : (stock : ℕ) (f : DeclarationForm) → Lawful (declaration_of stock f)
unfolding declaration_of
declaration_of_lawful stock declaration_forms.Type = bind_lawful _ _ (declared_type_from_lawful stock) (λ ty. done_lawful _)
declaration_of_lawful stock declaration_forms.Alias = bind_lawful _ _ declared_alias_lawful (λ outer. done_lawful _)
declaration_of_lawful stock declaration_forms.Export = bind_lawful _ _ export_decl_lawful (λ export. done_lawful _)

pub declaration_lawful : (stock : ℕ) → Lawful (declaration stock)
unfolding declaration
declaration_lawful stock = bind_lawful _ _ (code_lawful _) (declaration_of_lawful stock)

pub declarations_lawful : (stock : ℕ) → Lawful (declarations stock)
unfolding declarations
declarations_lawful stock = stocked_lawful _ _ _ declaration_lawful stock

pub def_type_of_lawful : (left : ℕ) (f : TypeForm) → Lawful (def_type_of left f)
unfolding def_type_of
def_type_of_lawful left (type_forms.Value form) = bind_lawful _ _ (def_val_type_of_lawful form) (λ value. done_lawful _)
def_type_of_lawful left type_forms.Func = bind_lawful _ _ func_type_lawful (λ func. done_lawful _)
def_type_of_lawful left type_forms.Resource = bind_lawful _ _ (fixed_lawful _ _) (λ representation. bind_lawful _ _ (optional_lawful _ index_lawful) (λ destructor. done_lawful _))
def_type_of_lawful left type_forms.Instance = bind_lawful _ _ (declarations_lawful left) (λ items. done_lawful _)

pub def_type_lawful : (left : ℕ) → Lawful (def_type left)
unfolding def_type
def_type_lawful left = bind_lawful _ _ (code_lawful _) (def_type_of_lawful left)

pub def_type_from_lawful : (stock : ℕ) → Lawful (def_type_from stock)
unfolding def_type_from
def_type_from_lawful stock = from_stock_lawful _ _ def_type_lawful stock

pub type_defs_lawful : (stock : ℕ) → Lawful (type_defs stock)
unfolding type_defs
type_defs_lawful stock = stocked_lawful _ _ _ def_type_from_lawful stock
