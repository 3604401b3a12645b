-- The type of an instance (Explainer.md, "Instance Types"; Binary.md, `instancetype`): declarations
-- one after another, each with an index space of types of its own, over that of the component.
use Rattle.std.specs.Prelude.{ℕ, zero, suc, ◌+◌, ◌-◌, List, [], ◌∷◌, ◌++◌, Option, Some, None}
use Rattle.std.specs.Prelude.{slice_get, option_to_list, unwrap_or}
use Rattle.std.specs.Option.{option_map, option_and_then}
use Rattle.cm_types.specs.DefTypes.{DeclarationTree, type_decl, outer_type_decl, export_decl}
use Rattle.cm_types.specs.DefTypes.{DeclaredTypeTree, declared_value, declared_func}
use Rattle.cm_types.specs.declared.def_types.ExportDesc.{ExportDesc}
use Rattle.cm_types.specs.declared.def_types.ExportDesc.TheVariants as desc
use Rattle.cm_types.specs.declared.def_types.TypeBound.TheVariants as bound
use Rattle.cm_types.specs.Signatures.{ItemTy, NamedItem, func_item, equal_type, equal_resource}
use Rattle.cm_types.specs.Signatures.{fresh_resource}
use Rattle.cm_validate_model.specs.declared.fault.ValidReason.{ValidReason}
use Rattle.cm_validate_model.specs.Definitions.{TypeDef, value, func_type, resource, faulty}
use Rattle.cm_validate_model.specs.Definitions.{InstanceTy}
use Rattle.cm_validate_model.specs.Definitions.{sorts_of}
use Rattle.cm_validate_model.specs.declared.sorts.TypeSort.{TypeSort}
use Rattle.cm_validate_model.specs.declared.sorts.TypeSort.TheVariants as sort
use Rattle.cm_validate_model.specs.ItemNames.{item_names_broken}
use Rattle.cm_validate_model.specs.Reasons.{found, index_broken}
use Rattle.cm_validate_model.specs.Scopes.{resource_id, value_def_of, func_def_of}
use Rattle.cm_validate_model.specs.TypeRules.{value_def_broken, func_def_broken, has_sort}
use Rattle.cm_validate_model.specs.TypeRules.{is_value_or_resource}

-- what a declaration sees: the types that were declared before it, those of the component around,
-- and the items so far; the next resource that it may bring has this number
pub record Scope : Type 0 where
  pub types : List TypeDef
  pub around : List TypeDef
  pub next : ℕ
  pub items : List NamedItem

-- at the first declaration of an instance type, in a component with these types, whose next
-- resource has this number
abbrev pub scope_in : List TypeDef → ℕ → Scope
scope_in around next = record { types = []; around = around; next = next; items = [] }

-- the types of the level that is so many levels out: the declarations' own, the component's
abbrev pub level : Scope → ℕ → Option (List TypeDef)
level s zero = Some s.types
level s (suc zero) = Some s.around
level s (suc (suc n)) = None

-- the type that an outer alias names
abbrev pub outer_type_of : Scope → ℕ → ℕ → Option TypeDef
outer_type_of s count index = option_and_then (λ ts. slice_get ts index) (level s count)

-- the item that a function of this type is, and that a type is
abbrev pub func_in : TypeDef → Option ItemTy
func_in (func_type f) = Some (func_item f)
func_in _ = None

abbrev pub type_in : TypeDef → Option ItemTy
type_in (value t) = Some (equal_type t)
type_in (resource n) = Some (equal_resource (resource_id n))
type_in _ = None

-- the items with one more, if there is one
abbrev pub with_item : List NamedItem → List ℕ → Option ItemTy → List NamedItem
with_item items name d =
    items ++ option_to_list (option_map (λ i. record { name = name; desc = i }) d)

-- ---- what a declaration adds

-- a type that is declared, in place of the types before it
abbrev pub declared_type_of : List TypeDef → DeclaredTypeTree → TypeDef
declared_type_of types (declared_value v) = value_def_of types v
declared_type_of types (declared_func f) = func_def_of types f

abbrev pub with_type : Scope → TypeDef → Scope
with_type s t = record s { types = s.types ++ t ∷ [] }

-- an export of a type that is known: the type stands once more, and is an item
abbrev pub with_equal : Scope → List ℕ → TypeDef → Scope
with_equal s name t =
    record s { types = s.types ++ t ∷ []; items = with_item s.items name (type_in t) }

-- an export of a resource of the instance's own
abbrev pub with_fresh : Scope → List ℕ → Scope
with_fresh s name =
    record s {
      types = s.types ++ resource s.next ∷ [];
      items = with_item s.items name (Some (fresh_resource (resource_id s.next)));
      next = s.next + 1;
    }

abbrev pub with_export : Scope → List ℕ → ExportDesc → Scope
with_export s name (desc.Func i) =
    record s { items = with_item s.items name (option_and_then func_in (slice_get s.types i)) }
with_export s name (desc.Type (bound.Equal i)) =
    with_equal s name (unwrap_or (slice_get s.types i) faulty)
with_export s name (desc.Type bound.SubResource) = with_fresh s name

-- the scope after a declaration, and after declarations
abbrev pub after_declaration : Scope → DeclarationTree → Scope
after_declaration s (type_decl t) = with_type s (declared_type_of s.types t)
after_declaration s (outer_type_decl o) =
    with_type s (unwrap_or (outer_type_of s o.count o.index) faulty)
after_declaration s (export_decl e) = with_export s e.name e.desc

abbrev pub after_declarations : Scope → List DeclarationTree → Scope
after_declarations s [] = s
after_declarations s (d ∷ ds) = after_declarations (after_declaration s d) ds

-- the type that declarations make, in a component with these types, whose next resource has this
-- number
abbrev pub instance_of : ℕ → Scope → InstanceTy
instance_of next s = record { items = s.items; first = next; fresh = s.next - next }

abbrev pub instance_defined : List TypeDef → ℕ → List DeclarationTree → InstanceTy
instance_defined types next ds = instance_of next (after_declarations (scope_in types next) ds)

-- ---- what a declaration breaks

abbrev pub declared_type_broken : List TypeDef → DeclaredTypeTree → List ValidReason
declared_type_broken types (declared_value v) = value_def_broken types v
declared_type_broken types (declared_func f) = func_def_broken types f

-- an export names the type of a function; a type that an export is equal to is a value type or a
-- resource
abbrev pub export_desc_broken : List TypeSort → ExportDesc → List ValidReason
export_desc_broken sorts (desc.Func i) = index_broken (has_sort sort.Func) sorts i
export_desc_broken sorts (desc.Type (bound.Equal i)) = index_broken is_value_or_resource sorts i
export_desc_broken sorts (desc.Type bound.SubResource) = []

-- the rules that a declaration violates, by the sorts of the types in its scope
abbrev pub declaration_broken : Scope → DeclarationTree → List ValidReason
declaration_broken s (type_decl t) = declared_type_broken s.types t
declaration_broken s (outer_type_decl o) =
    found (λ t. []) (outer_type_of s o.count o.index)
declaration_broken s (export_decl e) = export_desc_broken (sorts_of s.types) e.desc

-- the rules that declarations violate, each in the scope after those before it
abbrev pub declarations_broken : Scope → List DeclarationTree → List ValidReason
declarations_broken s [] = []
declarations_broken s (d ∷ ds) =
    declaration_broken s d ++ declarations_broken (after_declaration s d) ds

-- the type of an instance: its declarations, one after another, and the names of its items
abbrev pub instance_def_broken : List TypeDef → ℕ → List DeclarationTree → List ValidReason
instance_def_broken types next ds =
    declarations_broken (scope_in types next) ds
    ++ item_names_broken (instance_defined types next ds).items
