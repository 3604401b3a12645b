-- Types (Binary.md, "Type Definitions").
use Rattle.std.specs.Prelude.{ℕ, ◌^◌, ℤ, pos, negsuc, Bool, true, false, nat_lt, List, [], ◌∷◌}
use Rattle.std.specs.Prelude.{Option, Some, None}
use Rattle.cm_binary_grammar.specs.Grammar.{done, ◌>>=◌, ahead, code, signed, check, fixed}
use Rattle.cm_binary_grammar.specs.Grammar.{from_stock}
use Rattle.cm_binary_grammar.specs.Grammar.{refuse, stocked}
use Rattle.cm_types.specs.declared.def_types.ValType.{ValType}
use Rattle.cm_types.specs.declared.def_types.ValType.TheVariants as val_types
use Rattle.cm_types.specs.declared.def_types.LabeledValType.{LabeledValType}
use Rattle.cm_types.specs.declared.def_types.CaseType.{CaseType}
use Rattle.cm_types.specs.declared.def_types.OuterType.{OuterType}
use Rattle.cm_types.specs.declared.def_types.TypeBound.{TypeBound}
use Rattle.cm_types.specs.declared.def_types.TypeBound.TheVariants as bounds
use Rattle.cm_types.specs.declared.def_types.ExportDesc.{ExportDesc}
use Rattle.cm_types.specs.declared.def_types.ExportDesc.TheVariants as export_descs
use Rattle.cm_types.specs.declared.def_types.ExportDecl.{ExportDecl}
use Rattle.cm_types.specs.DefTypes as types
use Rattle.cm_types.specs.DefTypes.{DefValTypeTree, FuncTypeTree, DeclaredTypeTree}
use Rattle.cm_types.specs.DefTypes.{DeclarationTree, DefTypeTree}
use Rattle.cm_types.specs.DefTypes.{value_def, func_def, resource_def, instance_def}
use Rattle.cm_binary_model.specs.Limits.{types_in_declaration, types_in_def}
use Rattle.cm_binary_forms.specs.declared.fault.DecodeReason.TheVariants.{UnknownCode, TooMany}
use Rattle.cm_binary_forms.specs.declared.fault.DecodeReason.TheVariants.{BadNumber}
use Rattle.cm_binary_forms.specs.declared.codes.OptionalForm.{OptionalForm}
use Rattle.cm_binary_forms.specs.declared.codes.OptionalForm.TheVariants as optional_forms
use Rattle.cm_binary_forms.specs.declared.codes.ResultForm.{ResultForm}
use Rattle.cm_binary_forms.specs.declared.codes.ResultForm.TheVariants as result_forms
use Rattle.cm_binary_forms.specs.declared.codes.ValueForm.{ValueForm}
use Rattle.cm_binary_forms.specs.declared.codes.ValueForm.TheVariants as value_forms
use Rattle.cm_binary_forms.specs.declared.codes.DeclaredTypeForm.{DeclaredTypeForm}
use Rattle.cm_binary_forms.specs.declared.codes.DeclaredTypeForm.TheVariants as declared_type_forms
use Rattle.cm_binary_forms.specs.declared.codes.DeclarationForm.{DeclarationForm}
use Rattle.cm_binary_forms.specs.declared.codes.DeclarationForm.TheVariants as declaration_forms
use Rattle.cm_binary_forms.specs.declared.codes.DeclaredDescForm.{DeclaredDescForm}
use Rattle.cm_binary_forms.specs.declared.codes.DeclaredDescForm.TheVariants as declared_descs
use Rattle.cm_binary_forms.specs.declared.codes.TypeBoundForm.{TypeBoundForm}
use Rattle.cm_binary_forms.specs.declared.codes.TypeBoundForm.TheVariants as bound_forms
use Rattle.cm_binary_forms.specs.declared.codes.AliasSort.{AliasSort}
use Rattle.cm_binary_forms.specs.declared.codes.AliasSort.TheVariants as alias_sorts
use Rattle.cm_binary_forms.specs.declared.codes.TypeForm.{TypeForm}
use Rattle.cm_binary_forms.specs.declared.codes.TypeForm.TheVariants as type_forms
use Rattle.cm_binary_forms.specs.Codes.{is_from, optional_form, prim_val_type, result_form}
use Rattle.cm_binary_forms.specs.Codes.{declared_type_form, declaration_form, declared_desc_form}
use Rattle.cm_binary_forms.specs.Codes.{type_bound_form, core_sort, alias_sort, outer_type_target}
use Rattle.cm_binary_forms.specs.Codes.{no_alias_target, type_form}
use Rattle.cm_binary_forms.specs.Texts.{Production, index, vector, label, extern_name}
use Rattle.cm_binary_forms.specs.Aliases.{outer_type}

-- What may be there, behind the byte for whether it is.
unfoldable pub optional_of : {A : Type 0} → Production A → OptionalForm → Production (Option A)
optional_of g optional_forms.Absent = done None
optional_of g optional_forms.Present = do
  x ← g
  done (Some x)

-- What may be there (`<T>?`).
unfoldable pub optional : {A : Type 0} → Production A → Production (Option A)
optional g = do
  form ← code optional_form
  optional_of g form

-- A number with a sign is the index of a type where it is not below 0. One of 33 bits is below
-- 2 ^ 32 then.
abbrev pub is_type_index : ℤ → Bool
is_type_index (pos n) = nat_lt n (2 ^ 32)
is_type_index (negsuc n) = false

-- The index that the number is.
abbrev pub as_index : ℤ → ℕ
as_index (pos n) = n
as_index (negsuc n) = 0

-- The index of a type, as a number with a sign. One below 0 is a fault at its first byte.
unfoldable pub type_index : Production ℤ
type_index = check is_type_index BadNumber (signed BadNumber)

-- A value type, by whether it begins with the byte of a primitive one.
unfoldable pub val_type_of : Bool → Production ValType
val_type_of true = do
  primitive ← code prim_val_type
  done (val_types.Primitive primitive)
val_type_of false = do
  number ← type_index
  done (val_types.Index (as_index number))

-- A value type (`valtype`).
unfoldable pub val_type : Production ValType
val_type = ahead (λ b. val_type_of (is_from 0x40 0x7f b))

-- A parameter or a field: its label, its type (`labelvaltype`).
unfoldable pub param : Production LabeledValType
param = do
  name ← label
  ty ← val_type
  done (record { label = name; ty = ty })

-- A case: its label, the type that it carries, if it does, a byte 00 (`case`).
unfoldable pub case_type : Production CaseType
case_type = do
  name ← label
  payload ← optional val_type
  nothing ← fixed (0x00 ∷ []) UnknownCode
  done (record { label = name; payload = payload })

-- A value type that is defined, behind its form.
unfoldable pub def_val_type_of : ValueForm → Production DefValTypeTree
def_val_type_of (value_forms.Primitive p) = done (types.primitive p)
def_val_type_of value_forms.Record = do
  fields ← vector param
  done (types.record_of fields)
def_val_type_of value_forms.Variant = do
  cases ← vector case_type
  done (types.variant_of cases)
def_val_type_of value_forms.List = do
  element ← val_type
  done (types.list_of element)
def_val_type_of value_forms.FixedList = do
  element ← val_type
  count ← index
  done (types.fixed_list_of element count)
def_val_type_of value_forms.Tuple = do
  parts ← vector val_type
  done (types.tuple_of parts)
def_val_type_of value_forms.Flags = do
  labels ← vector label
  done (types.flags_of labels)
def_val_type_of value_forms.Enum = do
  labels ← vector label
  done (types.enum_of labels)
def_val_type_of value_forms.Option = do
  some ← val_type
  done (types.option_of some)
def_val_type_of value_forms.Result = do
  ok ← optional val_type
  error ← optional val_type
  done (types.result_of ok error)
def_val_type_of value_forms.Own = do
  resource ← index
  done (types.own_of resource)
def_val_type_of value_forms.Borrow = do
  resource ← index
  done (types.borrow_of resource)

-- The result behind its form.
unfoldable pub func_result_of : ResultForm → Production (Option ValType)
func_result_of result_forms.One = do
  ty ← val_type
  done (Some ty)
func_result_of result_forms.Zero = do
  nothing ← fixed (0x00 ∷ []) UnknownCode
  done None

-- The result of a function, or that it has none (`resultlist`).
unfoldable pub func_result : Production (Option ValType)
func_result = do
  form ← code result_form
  func_result_of form

-- A function's type behind its code: the parameters, the result (`functype`).
unfoldable pub func_type : Production FuncTypeTree
func_type = do
  params ← vector param
  result ← func_result
  done (record { params = params; result = result })

-- A type in the type of an instance, behind its form.
unfoldable pub declared_type_of : DeclaredTypeForm → Production DeclaredTypeTree
declared_type_of (declared_type_forms.Value form) = do
  value ← def_val_type_of form
  done (types.declared_value value)
declared_type_of declared_type_forms.Func = do
  func ← func_type
  done (types.declared_func func)

-- A type in the type of an instance (`type`).
unfoldable pub declared_type : Production DeclaredTypeTree
declared_type = do
  form ← code declared_type_form
  declared_type_of form

-- A type in the type of an instance, of which so many may stand.
unfoldable pub declared_type_from : ℕ → Production DeclaredTypeTree
declared_type_from stock = from_stock (λ left. declared_type) TooMany stock

-- An alias in the type of an instance, behind its sort: a type of a component around.
unfoldable pub declared_alias_of : AliasSort → Production OuterType
declared_alias_of alias_sorts.Core = do
  sort ← code core_sort
  refuse no_alias_target
declared_alias_of alias_sorts.Func = refuse no_alias_target
declared_alias_of alias_sorts.Type = do
  target ← code outer_type_target
  outer_type
declared_alias_of alias_sorts.Instance = refuse no_alias_target

-- An alias in the type of an instance (`alias`).
unfoldable pub declared_alias : Production OuterType
declared_alias = do
  sort ← code alias_sort
  declared_alias_of sort

-- What is known of a type, behind its form.
unfoldable pub type_bound_of : TypeBoundForm → Production TypeBound
type_bound_of bound_forms.Equal = do
  ty ← index
  done (bounds.Equal ty)
type_bound_of bound_forms.SubResource = done bounds.SubResource

-- What is known of a type (`typebound`).
unfoldable pub type_bound : Production TypeBound
type_bound = do
  form ← code type_bound_form
  type_bound_of form

-- What the instances of a type export, behind its form.
unfoldable pub export_desc_of : DeclaredDescForm → Production ExportDesc
export_desc_of declared_descs.Func = do
  ty ← index
  done (export_descs.Func ty)
export_desc_of declared_descs.Type = do
  bound ← type_bound
  done (export_descs.Type bound)

-- What the instances of a type export (`externdesc`).
unfoldable pub export_desc : Production ExportDesc
export_desc = do
  form ← code declared_desc_form
  export_desc_of form

-- An export of the instances of a type: its name, what it is (`exportdecl`).
unfoldable pub export_decl : Production ExportDecl
export_decl = do
  name ← extern_name
  desc ← export_desc
  done (record { name = name; desc = desc })

-- What the type of an instance declares, behind its form, where so many more types may stand.
unfoldable pub declaration_of : ℕ → DeclarationForm → Production DeclarationTree
declaration_of stock declaration_forms.Type = do
  ty ← declared_type_from stock
  done (types.type_decl ty)
declaration_of stock declaration_forms.Alias = do
  outer ← declared_alias
  done (types.outer_type_decl outer)
declaration_of stock declaration_forms.Export = do
  export ← export_decl
  done (types.export_decl export)

-- What the type of an instance declares (`instancedecl`), where so many more types may stand.
unfoldable pub declaration : ℕ → Production DeclarationTree
declaration stock = do
  form ← code declaration_form
  declaration_of stock form

-- All that the type of an instance declares, where so many more types may stand.
unfoldable pub declarations : ℕ → Production (List DeclarationTree)
declarations stock = stocked BadNumber declaration types_in_declaration stock

-- A type definition, behind its form, where so many more types may stand. Behind the form of a
-- resource stands what represents it, an `i32`.
unfoldable pub def_type_of : ℕ → TypeForm → Production DefTypeTree
def_type_of left (type_forms.Value form) = do
  value ← def_val_type_of form
  done (value_def value)
def_type_of left type_forms.Func = do
  func ← func_type
  done (func_def func)
def_type_of left type_forms.Resource = do
  representation ← fixed (0x7f ∷ []) UnknownCode
  destructor ← optional index
  done (resource_def destructor)
def_type_of left type_forms.Instance = do
  items ← declarations left
  done (instance_def items)

-- A type definition (`deftype`), where so many more types may stand.
unfoldable pub def_type : ℕ → Production DefTypeTree
def_type left = do
  form ← code type_form
  def_type_of left form

-- A type definition, of which so many may stand, those in it counted.
unfoldable pub def_type_from : ℕ → Production DefTypeTree
def_type_from stock = from_stock def_type TooMany stock

-- The types of a section, of which so many may stand.
unfoldable pub type_defs : ℕ → Production (List DefTypeTree)
type_defs stock = stocked BadNumber def_type_from types_in_def stock
