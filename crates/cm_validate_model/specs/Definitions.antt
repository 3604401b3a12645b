-- What an index of a component stands for (Explainer.md, "Index Spaces").
use Rattle.std.specs.Prelude.{ℕ, List, Option, map}
use Rattle.cm_types.specs.Types.{Ty, FuncTy}
use Rattle.cm_types.specs.Signatures.{NamedItem}
use Rattle.cm_binary_model.specs.declared.canons.CanonOption.{CanonOption}
use Rattle.cm_validate_model.specs.declared.sorts.TypeSort.{TypeSort}
use Rattle.cm_validate_model.specs.declared.sorts.TypeSort.TheVariants as sort

-- ---- types

-- the type of an instance: its items; the resources that it brings are numbered from one on, and so
-- many
pub record InstanceTy : Type 0 where
  pub items : List NamedItem
  pub first : ℕ
  pub fresh : ℕ

-- what an index of a type stands for: a value type, the type of a function, a resource by its
-- number, the type of an instance; `faulty` where the definition named what is not there, or is of
-- another sort
pub data TypeDef : Type 0 where
  value : Ty → TypeDef
  func_type : FuncTy → TypeDef
  resource : ℕ → TypeDef
  instance_type : InstanceTy → TypeDef
  faulty : TypeDef

-- the sort of a type, and those of types
abbrev pub sort_of : TypeDef → TypeSort
sort_of (value t) = sort.Value
sort_of (func_type f) = sort.Func
sort_of (resource n) = sort.Resource
sort_of (instance_type i) = sort.Instance
sort_of faulty = sort.Faulty

abbrev pub sorts_of : List TypeDef → List TypeSort
sorts_of types = map sort_of types

-- a resource: one that the component defines, with its destructor, if it has one; or one that an
-- item of an imported instance brings, by the numbers of import and item
pub data ResourceDef : Type 0 where
  defined : Option ℕ → ResourceDef
  brought : ℕ → ℕ → ResourceDef

-- ---- core definitions

-- what a core instance that is made of a module exports under a name
pub record CoreExport : Type 0 where
  pub instance : ℕ
  pub name : List ℕ

-- a core function: a guest's; an import that was lowered (its number, the item of an imported
-- instance, its type, the options); what makes, drops or reads handles of a resource
pub data CoreFuncDef : Type 0 where
  guest : CoreExport → CoreFuncDef
  lowered : ℕ → Option ℕ → FuncTy → List CanonOption → CoreFuncDef
  making : ℕ → CoreFuncDef
  dropping : ℕ → CoreFuncDef
  reading : ℕ → CoreFuncDef

-- a core definition, of whatever sort
pub data CoreDef : Type 0 where
  core_func : CoreFuncDef → CoreDef
  table : CoreExport → CoreDef
  memory : CoreExport → CoreDef
  global : CoreExport → CoreDef

-- a core definition under a name
pub record NamedCoreDef : Type 0 where
  pub name : List ℕ
  pub def : CoreDef

-- a core instance: one made of a module, whose exports nobody knows; or definitions under names
pub data CoreInstanceDef : Type 0 where
  instantiated : ℕ → CoreInstanceDef
  exporting : List NamedCoreDef → CoreInstanceDef

-- ---- functions and instances

-- a function: a core function lifted to a type, with the options; or an import (its number, the
-- item of an imported instance, its type)
pub data FuncDef : Type 0 where
  lifted : ℕ → FuncTy → List CanonOption → FuncDef
  imported : ℕ → Option ℕ → FuncTy → FuncDef

-- what an instance has under a name
pub data MemberDef : Type 0 where
  func_member : FuncDef → MemberDef
  type_member : TypeDef → MemberDef

pub record NamedMember : Type 0 where
  pub name : List ℕ
  pub def : MemberDef

-- what a component exports: a function, or an instance with its members
pub data ExportDef : Type 0 where
  exported_func : FuncDef → ExportDef
  exported_instance : List NamedMember → ExportDef

pub record NamedExport : Type 0 where
  pub name : List ℕ
  pub def : ExportDef

-- the type of a function
abbrev pub func_type_of : FuncDef → FuncTy
func_type_of (lifted f ty options) = ty
func_type_of (imported import item ty) = ty
