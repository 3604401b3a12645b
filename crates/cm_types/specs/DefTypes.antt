-- Types as a component file writes them, without where they lie in memory: lists in place of
-- vectors, and each label as its bytes (Binary.md, "Type Definitions"). A type that holds no list
-- is its own tree.
use Rattle.std.specs.Prelude.{ℕ, List, Option, map}
use Rattle.cm_types.specs.declared.def_types.PrimValType.{PrimValType}
use Rattle.cm_types.specs.declared.def_types.ValType.{ValType}
use Rattle.cm_types.specs.declared.def_types.LabeledValType.{LabeledValType}
use Rattle.cm_types.specs.declared.def_types.CaseType.{CaseType}
use Rattle.cm_types.specs.declared.def_types.DefValType.{DefValType}
use Rattle.cm_types.specs.declared.def_types.DefValType.TheVariants as def_val_type
use Rattle.cm_types.specs.declared.def_types.FuncType.{FuncType}
use Rattle.cm_types.specs.declared.def_types.OuterType.{OuterType}
use Rattle.cm_types.specs.declared.def_types.ExportDecl.{ExportDecl}
use Rattle.cm_types.specs.declared.def_types.DeclaredType.{DeclaredType}
use Rattle.cm_types.specs.declared.def_types.DeclaredType.TheVariants as declared_type
use Rattle.cm_types.specs.declared.def_types.Declaration.{Declaration}
use Rattle.cm_types.specs.declared.def_types.Declaration.TheVariants as declaration
use Rattle.cm_types.specs.declared.def_types.DefType.{DefType}
use Rattle.cm_types.specs.declared.def_types.DefType.TheVariants as def_type

-- a value type that is defined: a primitive one; fields, cases, an element, an element and how many
-- of it, parts; labels of flags and of cases; what may be there; what is there and the error; the
-- resource type (`defvaltype`)
pub data DefValTypeTree : Type 0 where
  primitive : PrimValType → DefValTypeTree
  record_of : List LabeledValType → DefValTypeTree
  variant_of : List CaseType → DefValTypeTree
  list_of : ValType → DefValTypeTree
  fixed_list_of : ValType → ℕ → DefValTypeTree
  tuple_of : List ValType → DefValTypeTree
  flags_of : List (List ℕ) → DefValTypeTree
  enum_of : List (List ℕ) → DefValTypeTree
  option_of : ValType → DefValTypeTree
  result_of : Option ValType → Option ValType → DefValTypeTree
  own_of : ℕ → DefValTypeTree
  borrow_of : ℕ → DefValTypeTree

abbrev pub def_val_type_tree : DefValType → DefValTypeTree
def_val_type_tree (def_val_type.Primitive p) = primitive p
def_val_type_tree (def_val_type.Record fields) = record_of fields.items
def_val_type_tree (def_val_type.Variant cases) = variant_of cases.items
def_val_type_tree (def_val_type.List element) = list_of element
def_val_type_tree (def_val_type.FixedList element length) = fixed_list_of element length
def_val_type_tree (def_val_type.Tuple parts) = tuple_of parts.items
def_val_type_tree (def_val_type.Flags labels) = flags_of labels.items
def_val_type_tree (def_val_type.Enum labels) = enum_of labels.items
def_val_type_tree (def_val_type.Option some) = option_of some
def_val_type_tree (def_val_type.Result ok error) = result_of ok error
def_val_type_tree (def_val_type.Own resource) = own_of resource
def_val_type_tree (def_val_type.Borrow resource) = borrow_of resource

-- the type of a function: parameters, each a label and a type, and the result (`functype`)
pub record FuncTypeTree : Type 0 where
  pub params : List LabeledValType
  pub result : Option ValType

abbrev pub func_type_tree : FuncType → FuncTypeTree
func_type_tree f = record { params = f.params.items; result = f.result }

-- a type in the type of an instance: a value type, the type of a function (`type`)
pub data DeclaredTypeTree : Type 0 where
  declared_value : DefValTypeTree → DeclaredTypeTree
  declared_func : FuncTypeTree → DeclaredTypeTree

abbrev pub declared_type_tree : DeclaredType → DeclaredTypeTree
declared_type_tree (declared_type.Value v) = declared_value (def_val_type_tree v)
declared_type_tree (declared_type.Func f) = declared_func (func_type_tree f)

-- what the type of an instance declares: a type, a type of a component around, an export
-- (`instancedecl`)
pub data DeclarationTree : Type 0 where
  type_decl : DeclaredTypeTree → DeclarationTree
  outer_type_decl : OuterType → DeclarationTree
  export_decl : ExportDecl → DeclarationTree

abbrev pub declaration_tree : Declaration → DeclarationTree
declaration_tree (declaration.Type t) = type_decl (declared_type_tree t)
declaration_tree (declaration.OuterType outer) = outer_type_decl outer
declaration_tree (declaration.Export e) = export_decl e

-- a type definition: a value type, the type of a function, a resource type with its destructor, if
-- it has one, the type of an instance by what it declares (`deftype`)
pub data DefTypeTree : Type 0 where
  value_def : DefValTypeTree → DefTypeTree
  func_def : FuncTypeTree → DefTypeTree
  resource_def : Option ℕ → DefTypeTree
  instance_def : List DeclarationTree → DefTypeTree

abbrev pub def_type_tree : DefType → DefTypeTree
def_type_tree (def_type.Value v) = value_def (def_val_type_tree v)
def_type_tree (def_type.Func f) = func_def (func_type_tree f)
def_type_tree (def_type.Resource destructor) = resource_def destructor
def_type_tree (def_type.Instance declarations) =
    instance_def (map declaration_tree declarations.items)
