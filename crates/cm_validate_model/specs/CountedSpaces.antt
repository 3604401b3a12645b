-- The resources that the types in the index spaces of a component name: those that it has.
use Rattle.std.specs.Prelude.{◌≡◌, ◌+◌, ◌<◌, ◌≤◌, ⊤, ℕ, zero, suc, List, [], ◌∷◌, ◌++◌}
use Rattle.std.specs.List.{AllByRecursion}
use Rattle.cm_types.specs.Signatures.{ItemTy, NamedItem, fresh_resource, ExternTy, NamedExtern}
use Rattle.cm_types.specs.Signatures as extern
use Rattle.cm_validate_model.specs.Definitions.{TypeDef, value, func_type, resource, instance_type}
use Rattle.cm_validate_model.specs.Definitions.{faulty, InstanceTy, MemberDef, func_member}
use Rattle.cm_validate_model.specs.Definitions.{type_member}
use Rattle.cm_validate_model.specs.Definitions.{NamedMember, ExportDef, exported_func}
use Rattle.cm_validate_model.specs.Definitions.{exported_instance, FuncDef, func_type_of}
use Rattle.cm_validate_model.specs.Spaces.{Spaces, next_resource}
use Rattle.cm_validate_model.specs.Counted.{IsCounted, IsFuncCounted, IsItemCounted}

abbrev pub AreItemsCounted : ℕ → List NamedItem → Type 0
AreItemsCounted n items = AllByRecursion (λ i. IsItemCounted n i.desc) items

-- the numbers of the resources that items bring
abbrev pub fresh_of : ItemTy → List ℕ
fresh_of (fresh_resource r) = r.number ∷ []
fresh_of _ = []

abbrev pub fresh_numbers : List NamedItem → List ℕ
fresh_numbers [] = []
fresh_numbers (i ∷ is) = fresh_of i.desc ++ fresh_numbers is

-- so many numbers from one on
abbrev pub numbers_from : ℕ → ℕ → List ℕ
numbers_from first zero = []
numbers_from first (suc n) = first ∷ numbers_from (suc first) n

-- The type of an instance: besides the component's resources where it was defined, it names its
-- own, which it brings one after another.
pub record IsInstanceCounted (n : ℕ) (i : InstanceTy) : Type 0 where
  pub known : i.first ≤ n
  pub items : AreItemsCounted (i.first + i.fresh) i.items
  pub fresh : fresh_numbers i.items ≡ numbers_from i.first i.fresh

-- what an index of a type stands for
abbrev pub IsDefCounted : ℕ → TypeDef → Type 0
IsDefCounted n (value t) = IsCounted n t
IsDefCounted n (func_type f) = IsFuncCounted n f
IsDefCounted n (resource k) = k < n
IsDefCounted n (instance_type i) = IsInstanceCounted n i
IsDefCounted n faulty = ⊤

-- functions, and the members of instances
abbrev pub IsFuncDefCounted : ℕ → FuncDef → Type 0
IsFuncDefCounted n f = IsFuncCounted n (func_type_of f)

abbrev pub IsMemberCounted : ℕ → MemberDef → Type 0
IsMemberCounted n (func_member f) = IsFuncDefCounted n f
IsMemberCounted n (type_member t) = IsDefCounted n t

abbrev pub AreMembersCounted : ℕ → List NamedMember → Type 0
AreMembersCounted n ms = AllByRecursion (λ m. IsMemberCounted n m.def) ms

-- imports and exports
abbrev pub IsExternCounted : ℕ → ExternTy → Type 0
IsExternCounted n (extern.func f) = IsFuncCounted n f
IsExternCounted n (extern.instance items) = AreItemsCounted n items

abbrev pub IsExportCounted : ℕ → ExportDef → Type 0
IsExportCounted n (exported_func f) = IsFuncDefCounted n f
IsExportCounted n (exported_instance ms) = AreMembersCounted n ms

-- index spaces: the number of the next resource is that of those that the component has
pub record AreSpacesCounted (s : Spaces) : Type 0 where
  pub types : AllByRecursion (IsDefCounted (next_resource s)) s.types
  pub funcs : AllByRecursion (IsFuncDefCounted (next_resource s)) s.funcs
  pub instances : AllByRecursion (AreMembersCounted (next_resource s)) s.instances
  pub imports : AllByRecursion (λ i. IsExternCounted (next_resource s) i.desc) s.imports
  pub exports : AllByRecursion (λ e. IsExportCounted (next_resource s) e.def) s.exports
