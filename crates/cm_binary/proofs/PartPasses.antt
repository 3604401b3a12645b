-- What is spelled holds what the parts of every component do.
use Rattle.std.proofs.Common.{◌≡◌, ℕ, List, [], ◌∷◌, Bool, true, false, refl}
use Rattle.std.specs.Prelude.{ℤ, pos, negsuc}
use Rattle.std.specs.Str.{is_utf8}
use Rattle.std.specs.List.{list_all}
use Rattle.std.proofs.lemmas.Bool.{and_from}
use Rattle.cm_binary_grammar.specs.Whole.{remainder, begins_with, SpellsEach}
use Rattle.cm_types.specs.Names.{is_label}
use Rattle.cm_types.specs.ExternNames.{is_extern_name}
use Rattle.cm_binary_model.specs.declared.instances.InstanceExportSort.{InstanceExportSort}
use Rattle.cm_binary_model.specs.declared.instances.InstanceExportSort.TheVariants as instance_sorts
use Rattle.cm_binary_model.specs.declared.limits.TheConstants.{MAX_TYPES}
use Rattle.cm_binary_model.specs.Limits.{types_in_declaration, types_in_def}
use Rattle.cm_binary_model.specs.Parts.{is_index, holds_name, holds_arg, holds_core_export, holds_core_instance, holds_inline_export, holds_instance, holds_outer_type, holds_alias, holds_optional, holds_label, holds_val_type, holds_param, holds_case, holds_def_val_type, holds_func, holds_declared_type, holds_type_bound, holds_export_desc, holds_export_decl, holds_declaration, holds_def, holds_option, holds_canon, holds_desc, holds_import, holds_export, holds}
use Rattle.cm_binary_model.specs.Trees.{SectionTree}
use Rattle.cm_binary_forms.specs.declared.codes.CoreInstanceForm.{CoreInstanceForm}
use Rattle.cm_binary_forms.specs.declared.codes.CoreInstanceForm.TheVariants as core_forms
use Rattle.cm_binary_forms.specs.declared.codes.AliasSort.{AliasSort}
use Rattle.cm_binary_forms.specs.declared.codes.AliasSort.TheVariants as alias_sorts
use Rattle.cm_binary_forms.specs.declared.codes.TypeAliasTarget.{TypeAliasTarget}
use Rattle.cm_binary_forms.specs.declared.codes.TypeAliasTarget.TheVariants as type_targets
use Rattle.cm_binary_forms.specs.declared.codes.OptionalForm.{OptionalForm}
use Rattle.cm_binary_forms.specs.declared.codes.OptionalForm.TheVariants as optional_forms
use Rattle.cm_binary_forms.specs.declared.codes.ResultForm.{ResultForm}
use Rattle.cm_binary_forms.specs.declared.codes.ResultForm.TheVariants as result_forms
use Rattle.cm_binary_forms.specs.declared.codes.ValueForm.{ValueForm}
use Rattle.cm_binary_forms.specs.declared.codes.ValueForm.TheVariants as value_forms
use Rattle.cm_binary_forms.specs.declared.codes.DeclaredTypeForm.{DeclaredTypeForm}
use Rattle.cm_binary_forms.specs.declared.codes.DeclaredTypeForm.TheVariants as declared_type_forms
use Rattle.cm_binary_forms.specs.declared.codes.DeclarationForm.{DeclarationForm}
use Rattle.cm_binary_forms.specs.declared.codes.DeclarationForm.TheVariants as declaration_forms
use Rattle.cm_binary_forms.specs.declared.codes.DeclaredDescForm.{DeclaredDescForm}
use Rattle.cm_binary_forms.specs.declared.codes.DeclaredDescForm.TheVariants as declared_descs
use Rattle.cm_binary_forms.specs.declared.codes.TypeBoundForm.{TypeBoundForm}
use Rattle.cm_binary_forms.specs.declared.codes.TypeBoundForm.TheVariants as bound_forms
use Rattle.cm_binary_forms.specs.declared.codes.TypeForm.{TypeForm}
use Rattle.cm_binary_forms.specs.declared.codes.TypeForm.TheVariants as type_forms
use Rattle.cm_binary_forms.specs.declared.codes.CanonForm.{CanonForm}
use Rattle.cm_binary_forms.specs.declared.codes.CanonForm.TheVariants as canon_forms
use Rattle.cm_binary_forms.specs.declared.codes.OptionForm.{OptionForm}
use Rattle.cm_binary_forms.specs.declared.codes.OptionForm.TheVariants as option_forms
use Rattle.cm_binary_forms.specs.declared.codes.DescForm.{DescForm}
use Rattle.cm_binary_forms.specs.declared.codes.DescForm.TheVariants as desc_forms
use Rattle.cm_binary_forms.specs.declared.codes.SectionKind.{SectionKind}
use Rattle.cm_binary_forms.specs.declared.codes.SectionKind.TheVariants as kinds
use Rattle.cm_binary_forms.specs.Codes.{is_from}
use Rattle.cm_binary_forms.specs.Texts.{Production, index, text, label, plain_name, extern_name}
use Rattle.cm_binary_forms.specs.Instances.{core_arg, core_export, core_instance_of, core_instance, inline_export, instance_item}
use Rattle.cm_binary_forms.specs.Aliases.{outer_type, instance_export, type_alias_of, alias_of, alias}
use Rattle.cm_binary_forms.specs.Types.{optional_of, optional, is_type_index, as_index, type_index, val_type_of, val_type, param, case_type, def_val_type_of, func_result_of, func_result, func_type, declared_type_of, declared_type, declared_type_from, declared_alias_of, declared_alias, type_bound_of, type_bound, export_desc_of, export_desc, export_decl, declaration_of, declaration, declarations, def_type_of, def_type, def_type_from, type_defs}
use Rattle.cm_binary_forms.specs.Canons.{canon_option_of, canon_option, canon_of, canon}
use Rattle.cm_binary_forms.specs.Externs.{extern_desc_of, extern_desc, import_item, export_item}
use Rattle.cm_binary_forms.specs.Sections.{contents, section, sections, room_after}
use Rattle.cm_binary_forms.specs.File.{component, file, Spells}
use Rattle.cm_binary.proofs.PassLaws.{Passes, PassesWhole, done_passes, bind_passes, code_passes, refuse_passes, ahead_passes, number_passes, fixed_passes, vec_passes, from_stock_passes, stocked_passes, build_passes, exactly_passes, join_passes, of_size_passes}

-- ---- numbers, texts, names

index_passes : Passes index is_index
index_passes = number_passes _

text_passes : Passes text is_utf8
unfolding text
text_passes = bind_passes _ _ index_passes (λ n h. record { passed = λ x bytes s. s.1 })

label_passes : Passes label holds_label
unfolding label
label_passes = bind_passes _ _ index_passes (λ n h. record { passed = λ x bytes s. and_from (is_utf8 x) (is_label x) s.0.1 s.1 })

plain_name_passes : Passes plain_name holds_name
unfolding plain_name
plain_name_passes = bind_passes _ _ index_passes (λ n h. record { passed = λ x bytes s. and_from (is_utf8 x) (is_extern_name x) s.0.1 s.1 })

extern_name_passes : Passes extern_name holds_name
unfolding extern_name
extern_name_passes = bind_passes _ _ (fixed_passes _ _) (λ plain h. plain_name_passes)

-- ---- instances

core_arg_passes : Passes core_arg holds_arg
unfolding core_arg
core_arg_passes = bind_passes _ _ text_passes (λ name h. bind_passes _ _ (fixed_passes _ _) (λ sort t. bind_passes _ _ index_passes (λ i k. done_passes _ (and_from (is_utf8 name) (is_index i) h k))))

core_export_passes : Passes core_export holds_core_export
unfolding core_export
core_export_passes = bind_passes _ _ text_passes (λ name h. bind_passes _ _ (code_passes _) (λ sort t. bind_passes _ _ index_passes (λ i k. done_passes _ (and_from (is_utf8 name) (is_index i) h k))))

core_instance_of_passes : (f : CoreInstanceForm) → Passes (core_instance_of f) holds_core_instance
unfolding core_instance_of
core_instance_of_passes core_forms.Instantiate = bind_passes _ _ index_passes (λ m h. bind_passes _ _ (vec_passes _ _ _ core_arg_passes) (λ args k. done_passes _ (and_from (is_index m) (list_all holds_arg args) h k)))
core_instance_of_passes core_forms.Exports = bind_passes _ _ (vec_passes _ _ _ core_export_passes) (λ exports h. done_passes _ h)

core_instance_passes : Passes core_instance holds_core_instance
unfolding core_instance
core_instance_passes = bind_passes _ _ (code_passes _) (λ form h. core_instance_of_passes form)

inline_export_passes : Passes inline_export holds_inline_export
unfolding inline_export
inline_export_passes = bind_passes _ _ extern_name_passes (λ name h. bind_passes _ _ (code_passes _) (λ sort t. bind_passes _ _ index_passes (λ i k. done_passes _ (and_from (holds_name name) (is_index i) h k))))

instance_passes : Passes instance_item holds_instance
unfolding instance_item
instance_passes = bind_passes _ _ (code_passes _) (λ form h. vec_passes _ _ _ inline_export_passes)

-- ---- aliases

outer_type_passes : Passes outer_type holds_outer_type
unfolding outer_type
outer_type_passes = bind_passes _ _ index_passes (λ count h. bind_passes _ _ index_passes (λ i k. done_passes _ (and_from (is_index count) (is_index i) h k)))

instance_export_passes : (sort : InstanceExportSort) → Passes (instance_export sort) holds_alias
unfolding instance_export
instance_export_passes sort = bind_passes _ _ index_passes (λ i h. bind_passes _ _ plain_name_passes (λ name k. done_passes _ (and_from (is_index i) (holds_name name) h k)))

type_alias_of_passes : (t : TypeAliasTarget) → Passes (type_alias_of t) holds_alias
unfolding type_alias_of
type_alias_of_passes type_targets.InstanceExport = instance_export_passes _
type_alias_of_passes type_targets.OuterType = bind_passes _ _ outer_type_passes (λ outer h. done_passes _ h)

alias_of_passes : (s : AliasSort) → Passes (alias_of s) holds_alias
unfolding alias_of
alias_of_passes alias_sorts.Core = bind_passes _ _ (code_passes _) (λ sort t. bind_passes _ _ (code_passes _) (λ target u. bind_passes _ _ index_passes (λ i h. bind_passes _ _ text_passes (λ name k. done_passes _ (and_from (is_index i) (is_utf8 name) h k)))))
alias_of_passes alias_sorts.Func = bind_passes _ _ (code_passes _) (λ target h. instance_export_passes instance_sorts.Func)
alias_of_passes alias_sorts.Type = bind_passes _ _ (code_passes _) (λ target h. type_alias_of_passes target)
alias_of_passes alias_sorts.Instance = refuse_passes _

alias_passes : Passes alias holds_alias
unfolding alias
alias_passes = bind_passes _ _ (code_passes _) (λ sort h. alias_of_passes sort)

-- ---- types

optional_of_passes : {A : Type 0} (g : Production A) (test : A → Bool) → Passes g test → (f : OptionalForm) → Passes (optional_of g f) (holds_optional test)
unfolding optional_of
optional_of_passes g test l optional_forms.Absent = done_passes _ refl
optional_of_passes g test l optional_forms.Present = bind_passes _ _ l (λ x h. done_passes _ h)

optional_passes : {A : Type 0} (g : Production A) (test : A → Bool) → Passes g test → Passes (optional g) (holds_optional test)
unfolding optional
optional_passes g test l = bind_passes _ _ (code_passes _) (λ form h. optional_of_passes g test l form)

type_index_passes : Passes type_index is_type_index
unfolding type_index
type_index_passes = record { passed = λ z bytes s. s.1 }

index_fits : (z : ℤ) → is_type_index z ≡ true → is_index (as_index z) ≡ true
index_fits (pos n) h = h
index_fits (negsuc n) h = absurd cc

val_type_of_passes : (p : Bool) → Passes (val_type_of p) holds_val_type
unfolding val_type_of
val_type_of_passes true = bind_passes _ _ (code_passes _) (λ primitive h. done_passes _ refl)
val_type_of_passes false = bind_passes _ _ type_index_passes (λ number h. done_passes _ (index_fits number h))

val_type_passes : Passes val_type holds_val_type
unfolding val_type
val_type_passes = ahead_passes _ (λ b. val_type_of_passes (is_from 0x40 0x7f b))

param_passes : Passes param holds_param
unfolding param
param_passes = bind_passes _ _ label_passes (λ name h. bind_passes _ _ val_type_passes (λ ty k. done_passes _ (and_from (holds_label name) (holds_val_type ty) h k)))

case_type_passes : Passes case_type holds_case
unfolding case_type
case_type_passes = bind_passes _ _ label_passes (λ name h. bind_passes _ _ (optional_passes _ _ val_type_passes) (λ payload k. bind_passes _ _ (fixed_passes _ _) (λ nothing t. done_passes _ (and_from (holds_label name) (holds_optional holds_val_type payload) h k))))

def_val_type_of_passes : (f : ValueForm) → Passes (def_val_type_of f) holds_def_val_type
unfolding def_val_type_of
def_val_type_of_passes (value_forms.Primitive p) = done_passes _ refl
def_val_type_of_passes value_forms.Record = bind_passes _ _ (vec_passes _ _ _ param_passes) (λ fields h. done_passes _ h)
def_val_type_of_passes value_forms.Variant = bind_passes _ _ (vec_passes _ _ _ case_type_passes) (λ cases h. done_passes _ h)
def_val_type_of_passes value_forms.List = bind_passes _ _ val_type_passes (λ element h. done_passes _ h)
def_val_type_of_passes value_forms.FixedList = bind_passes _ _ val_type_passes (λ element h. bind_passes _ _ index_passes (λ count k. done_passes _ (and_from (holds_val_type element) (is_index count) h k)))
def_val_type_of_passes value_forms.Tuple = bind_passes _ _ (vec_passes _ _ _ val_type_passes) (λ parts h. done_passes _ h)
def_val_type_of_passes value_forms.Flags = bind_passes _ _ (vec_passes _ _ _ label_passes) (λ labels h. done_passes _ h)
def_val_type_of_passes value_forms.Enum = bind_passes _ _ (vec_passes _ _ _ label_passes) (λ labels h. done_passes _ h)
def_val_type_of_passes value_forms.Option = bind_passes _ _ val_type_passes (λ some h. done_passes _ h)
def_val_type_of_passes value_forms.Result = bind_passes _ _ (optional_passes _ _ val_type_passes) (λ ok h. bind_passes _ _ (optional_passes _ _ val_type_passes) (λ error k. done_passes _ (and_from (holds_optional holds_val_type ok) (holds_optional holds_val_type error) h k)))
def_val_type_of_passes value_forms.Own = bind_passes _ _ index_passes (λ resource h. done_passes _ h)
def_val_type_of_passes value_forms.Borrow = bind_passes _ _ index_passes (λ resource h. done_passes _ h)

func_result_of_passes : (f : ResultForm) → Passes (func_result_of f) (holds_optional holds_val_type)
unfolding func_result_of
func_result_of_passes result_forms.One = bind_passes _ _ val_type_passes (λ ty h. done_passes _ h)
func_result_of_passes result_forms.Zero = bind_passes _ _ (fixed_passes _ _) (λ nothing h. done_passes _ refl)

func_result_passes : Passes func_result (holds_optional holds_val_type)
unfolding func_result
func_result_passes = bind_passes _ _ (code_passes _) (λ form h. func_result_of_passes form)

func_type_passes : Passes func_type holds_func
unfolding func_type
func_type_passes = bind_passes _ _ (vec_passes _ _ _ param_passes) (λ params h. bind_passes _ _ func_result_passes (λ r k. done_passes _ (and_from (list_all holds_param params) (holds_optional holds_val_type r) h k)))

declared_type_of_passes : (f : DeclaredTypeForm) → Passes (declared_type_of f) holds_declared_type
unfolding declared_type_of
declared_type_of_passes (declared_type_forms.Value form) = bind_passes _ _ (def_val_type_of_passes form) (λ value h. done_passes _ h)
declared_type_of_passes declared_type_forms.Func = bind_passes _ _ func_type_passes (λ func h. done_passes _ h)

declared_type_passes : Passes declared_type holds_declared_type
unfolding declared_type
declared_type_passes = bind_passes _ _ (code_passes _) (λ form h. declared_type_of_passes form)

declared_type_from_passes : (stock : ℕ) → Passes (declared_type_from stock) holds_declared_type
unfolding declared_type_from
declared_type_from_passes stock = from_stock_passes _ _ (λ left. declared_type_passes) stock

declared_alias_of_passes : (s : AliasSort) → Passes (declared_alias_of s) holds_outer_type
unfolding declared_alias_of
declared_alias_of_passes alias_sorts.Core = bind_passes _ _ (code_passes _) (λ sort h. refuse_passes _)
declared_alias_of_passes alias_sorts.Func = refuse_passes _
declared_alias_of_passes alias_sorts.Type = bind_passes _ _ (code_passes _) (λ target h. outer_type_passes)
declared_alias_of_passes alias_sorts.Instance = refuse_passes _

declared_alias_passes : Passes declared_alias holds_outer_type
unfolding declared_alias
declared_alias_passes = bind_passes _ _ (code_passes _) (λ sort h. declared_alias_of_passes sort)

type_bound_of_passes : (f : TypeBoundForm) → Passes (type_bound_of f) holds_type_bound
unfolding type_bound_of
type_bound_of_passes bound_forms.Equal = bind_passes _ _ index_passes (λ ty h. done_passes _ h)
type_bound_of_passes bound_forms.SubResource = done_passes _ refl

type_bound_passes : Passes type_bound holds_type_bound
unfolding type_bound
type_bound_passes = bind_passes _ _ (code_passes _) (λ form h. type_bound_of_passes form)

export_desc_of_passes : (f : DeclaredDescForm) → Passes (export_desc_of f) holds_export_desc
unfolding export_desc_of
export_desc_of_passes declared_descs.Func = bind_passes _ _ index_passes (λ ty h. done_passes _ h)
export_desc_of_passes declared_descs.Type = bind_passes _ _ type_bound_passes (λ bound h. done_passes _ h)

export_desc_passes : Passes export_desc holds_export_desc
unfolding export_desc
export_desc_passes = bind_passes _ _ (code_passes _) (λ form h. export_desc_of_passes form)

export_decl_passes : Passes export_decl holds_export_decl
unfolding export_decl
export_decl_passes = bind_passes _ _ extern_name_passes (λ name h. bind_passes _ _ export_desc_passes (λ desc k. done_passes _ (and_from (holds_name name) (holds_export_desc desc) h k)))

declaration_of_passes : (stock : ℕ) (f : DeclarationForm) → Passes (declaration_of stock f) holds_declaration
unfolding declaration_of
declaration_of_passes stock declaration_forms.Type = bind_passes _ _ (declared_type_from_passes stock) (λ ty h. done_passes _ h)
declaration_of_passes stock declaration_forms.Alias = bind_passes _ _ declared_alias_passes (λ outer h. done_passes _ h)
declaration_of_passes stock declaration_forms.Export = bind_passes _ _ export_decl_passes (λ export h. done_passes _ h)

declaration_passes : (stock : ℕ) → Passes (declaration stock) holds_declaration
unfolding declaration
declaration_passes stock = bind_passes _ _ (code_passes _) (λ form h. declaration_of_passes stock form)

declarations_pass : (stock : ℕ) → Passes (declarations stock) (list_all holds_declaration)
unfolding declarations
declarations_pass stock = stocked_passes _ declaration types_in_declaration holds_declaration declaration_passes stock

def_type_of_passes : (left : ℕ) (f : TypeForm) → Passes (def_type_of left f) holds_def
unfolding def_type_of
def_type_of_passes left (type_forms.Value form) = bind_passes _ _ (def_val_type_of_passes form) (λ value h. done_passes _ h)
def_type_of_passes left type_forms.Func = bind_passes _ _ func_type_passes (λ func h. done_passes _ h)
def_type_of_passes left type_forms.Resource = bind_passes _ _ (fixed_passes _ _) (λ representation t. bind_passes _ _ (optional_passes _ _ index_passes) (λ destructor h. done_passes _ h))
def_type_of_passes left type_forms.Instance = bind_passes _ _ (declarations_pass left) (λ items h. done_passes _ h)

def_type_passes : (left : ℕ) → Passes (def_type left) holds_def
unfolding def_type
def_type_passes left = bind_passes _ _ (code_passes _) (λ form h. def_type_of_passes left form)

def_type_from_passes : (stock : ℕ) → Passes (def_type_from stock) holds_def
unfolding def_type_from
def_type_from_passes stock = from_stock_passes def_type _ def_type_passes stock

type_defs_pass : (stock : ℕ) → Passes (type_defs stock) (list_all holds_def)
unfolding type_defs
type_defs_pass stock = stocked_passes _ def_type_from types_in_def holds_def def_type_from_passes stock

-- ---- canonical definitions, imports and exports

canon_option_of_passes : (f : OptionForm) → Passes (canon_option_of f) holds_option
unfolding canon_option_of
canon_option_of_passes option_forms.Utf8 = done_passes _ refl
canon_option_of_passes option_forms.Utf16 = done_passes _ refl
canon_option_of_passes option_forms.Latin1Utf16 = done_passes _ refl
canon_option_of_passes option_forms.Memory = bind_passes _ _ index_passes (λ i h. done_passes _ h)
canon_option_of_passes option_forms.Realloc = bind_passes _ _ index_passes (λ i h. done_passes _ h)
canon_option_of_passes option_forms.PostReturn = bind_passes _ _ index_passes (λ i h. done_passes _ h)

canon_option_passes : Passes canon_option holds_option
unfolding canon_option
canon_option_passes = bind_passes _ _ (code_passes _) (λ form h. canon_option_of_passes form)

canon_of_passes : (f : CanonForm) → Passes (canon_of f) holds_canon
unfolding canon_of
canon_of_passes canon_forms.Lift = bind_passes _ _ (fixed_passes _ _) (λ sort t. bind_passes _ _ index_passes (λ func h. bind_passes _ _ (vec_passes _ _ _ canon_option_passes) (λ opts k. bind_passes _ _ index_passes (λ ty l. done_passes _ (and_from (is_index func) _ h (and_from (list_all holds_option opts) (is_index ty) k l))))))
canon_of_passes canon_forms.Lower = bind_passes _ _ (fixed_passes _ _) (λ sort t. bind_passes _ _ index_passes (λ func h. bind_passes _ _ (vec_passes _ _ _ canon_option_passes) (λ opts k. done_passes _ (and_from (is_index func) (list_all holds_option opts) h k))))
canon_of_passes canon_forms.ResourceNew = bind_passes _ _ index_passes (λ resource h. done_passes _ h)
canon_of_passes canon_forms.ResourceDrop = bind_passes _ _ index_passes (λ resource h. done_passes _ h)
canon_of_passes canon_forms.ResourceRep = bind_passes _ _ index_passes (λ resource h. done_passes _ h)

canon_passes : Passes canon holds_canon
unfolding canon
canon_passes = bind_passes _ _ (code_passes _) (λ form h. canon_of_passes form)

extern_desc_of_passes : (f : DescForm) → Passes (extern_desc_of f) holds_desc
unfolding extern_desc_of
extern_desc_of_passes desc_forms.Func = bind_passes _ _ index_passes (λ ty h. done_passes _ h)
extern_desc_of_passes desc_forms.Instance = bind_passes _ _ index_passes (λ ty h. done_passes _ h)

extern_desc_passes : Passes extern_desc holds_desc
unfolding extern_desc
extern_desc_passes = bind_passes _ _ (code_passes _) (λ form h. extern_desc_of_passes form)

import_passes : Passes import_item holds_import
unfolding import_item
import_passes = bind_passes _ _ extern_name_passes (λ name h. bind_passes _ _ extern_desc_passes (λ desc k. done_passes _ (and_from (holds_name name) (holds_desc desc) h k)))

export_passes : Passes export_item holds_export
unfolding export_item
export_passes = bind_passes _ _ extern_name_passes (λ name h. bind_passes _ _ (code_passes _) (λ sort t. bind_passes _ _ index_passes (λ i k. bind_passes _ _ (code_passes _) (λ desc u. done_passes _ (and_from (holds_name name) (is_index i) h k)))))

-- ---- sections

contents_pass : (room : ℕ) (kind : SectionKind) → PassesWhole (contents room kind) holds
unfolding contents
contents_pass room kinds.Custom = join_passes _ _ text_passes (λ name h. build_passes _ remainder (record { passed = λ x bytes s. h }))
contents_pass room kinds.CoreModule = build_passes _ (begins_with _ _) (record { passed = λ x bytes s. refl })
contents_pass room kinds.CoreInstances = build_passes _ _ (exactly_passes _ _ (vec_passes _ _ _ core_instance_passes))
contents_pass room kinds.Instances = build_passes _ _ (exactly_passes _ _ (vec_passes _ _ _ instance_passes))
contents_pass room kinds.Aliases = build_passes _ _ (exactly_passes _ _ (vec_passes _ _ _ alias_passes))
contents_pass room kinds.Types = build_passes _ _ (exactly_passes _ _ (type_defs_pass room))
contents_pass room kinds.Canons = build_passes _ _ (exactly_passes _ _ (vec_passes _ _ _ canon_passes))
contents_pass room kinds.Imports = build_passes _ _ (exactly_passes _ _ (vec_passes _ _ _ import_passes))
contents_pass room kinds.Exports = build_passes _ _ (exactly_passes _ _ (vec_passes _ _ _ export_passes))

section_passes : (room : ℕ) → Passes (section room) holds
unfolding section
section_passes room = bind_passes _ _ (code_passes _) (λ kind h. bind_passes _ _ index_passes (λ size k. of_size_passes _ size _ (contents_pass room kind)))

each_holds : (room : ℕ) (c : List SectionTree) (bytes : List ℕ) → SpellsEach section room_after room c bytes → list_all holds c ≡ true
each_holds room [] bytes s = refl
each_holds room (x ∷ c) bytes s = and_from (holds x) (list_all holds c) ((section_passes room).passed x s.0 s.2) (each_holds (room_after room x) c s.1 s.3)

-- The sections of a component that is spelled hold theirs, whether or not its bytes are few enough.
pub component_holds : (c : List SectionTree) (bytes : List ℕ) → component.Spells c bytes → list_all holds c ≡ true
unfolding component sections
component_holds c bytes s = each_holds MAX_TYPES c s.2 s.4

pub file_holds : (c : List SectionTree) (bytes : List ℕ) → Spells c bytes → list_all holds c ≡ true
unfolding file
file_holds c bytes s = component_holds c bytes s.1
