-- In a valid component the result of no function's type holds a borrow.
use Rattle.std.proofs.Common.{◌≡◌, ℕ, ◌+◌, List, [], ◌∷◌, ◌++◌, Bool, true, false, Option, Some, None, refl, subst}
use Rattle.std.specs.Prelude.{IfSome, slice_get, not, option_to_list, if◌then◌else◌, ⊤}
use Rattle.std.specs.List.{AllByRecursion, flat_map}
use Rattle.std.specs.Option.{option_map, option_map_or, option_and_then}
use Rattle.std.specs.Str.{bytes_eq}
use Rattle.cm_types.specs.DefTypes.{DefTypeTree, FuncTypeTree, value_def, func_def, resource_def, instance_def}
use Rattle.cm_types.specs.Holds.{holds, is_borrow}
use Rattle.cm_types.specs.Signatures.{ItemTy, NamedItem, func_item, equal_type, equal_resource, fresh_resource}
use Rattle.cm_types.specs.Types.{FuncTy, Ty, fields, tuple_type}
use Rattle.cm_binary_model.specs.Trees.{AliasTree, instance_export, outer_type, core_instance_export}
use Rattle.cm_binary_model.specs.declared.instances.InlineExport.{InlineExport}
use Rattle.cm_binary_model.specs.declared.instances.InstanceExportSort.{InstanceExportSort}
use Rattle.cm_binary_model.specs.declared.instances.InstanceExportSort.TheVariants as member_sort
use Rattle.cm_binary_model.specs.declared.externs.ExportSort.{ExportSort}
use Rattle.cm_binary_model.specs.declared.externs.ExportSort.TheVariants as export_sort
use Rattle.cm_validate_model.specs.declared.fault.ValidReason.TheVariants as reason
use Rattle.cm_validate_model.specs.Definitions.{TypeDef, value, func_type, resource, instance_type, faulty, FuncDef, InstanceTy, MemberDef, func_member, type_member, NamedMember, ExportDef, exported_func, exported_instance, sorts_of}
use Rattle.cm_validate_model.specs.Items.{Item, core_module_item, core_instance_item, instance_item, alias_item, type_item, canon_item, import_item, export_item}
use Rattle.cm_validate_model.specs.Options.{result_holds}
use Rattle.cm_validate_model.specs.Reasons.{if_found, unless}
use Rattle.cm_validate_model.specs.Rules.{broken, func_ty_at}
use Rattle.cm_validate_model.specs.Scopes.{func_def_of, func_defined, value_defined}
use Rattle.cm_validate_model.specs.Sources.{IsItemAt}
use Rattle.cm_validate_model.specs.Spaces.{Spaces, after_item, after_items, aliased_member, empty_spaces, exported, func_ty_in, imported_instance, instance_exported, member_alias, member_at, member_named, member_of_item, members_from, members_imported, named_member, new_instances, new_types, next_import, next_resource, type_alias, type_of_member}
use Rattle.cm_validate_model.specs.TypeRules.{func_def_broken, func_ty_broken, limits_broken, no_borrow_broken, params_broken, uses_broken}
use Rattle.cm_validate_model.specs.Valid.{IsValidFrom}
use Rattle.cm_validate_model.proofs.Stepping.{holds_before}
use Rattle.cm_lemmas.proofs.Lists.{all_flat, all_both, got_there, nil_front, nil_rest, to_list}
use Rattle.cm_lemmas.proofs.Options.{and_then, mapped_any, then_map}

-- the result of a function holds no borrow
abbrev pub LendsNone : FuncTy → Type 0
LendsNone f = result_holds is_borrow f ≡ false

abbrev DefLends : TypeDef → Type 0
DefLends (value t) = ⊤
DefLends (func_type f) = LendsNone f
DefLends (resource n) = ⊤
DefLends (instance_type i) = ⊤
DefLends faulty = ⊤

abbrev MemberLends : MemberDef → Type 0
MemberLends (func_member f) = ⊤
MemberLends (type_member t) = DefLends t

abbrev MembersLend : List NamedMember → Type 0
MembersLend ms = AllByRecursion (λ m. MemberLends m.def) ms

-- so it is of each type of a function in index spaces
record Lends (s : Spaces) : Type 0 where
  types : AllByRecursion DefLends s.types
  instances : AllByRecursion MembersLend s.instances

-- ---- definitions

holds_none : (b : Bool) → unless (not b) reason.BorrowInResult ≡ [] → b ≡ false
holds_none true h = cc h
holds_none false h = refl

answer_lends : (o : Option Ty) → if_found (λ t. no_borrow_broken t ++ limits_broken t) o ≡ [] → option_map_or (holds is_borrow) o false ≡ false
answer_lends None h = refl
answer_lends (Some t) h = holds_none (holds is_borrow t) (nil_front (no_borrow_broken t) (limits_broken t) h)

func_lends : (f : FuncTy) → func_ty_broken f ≡ [] → LendsNone f
func_lends f h = answer_lends f.result (nil_rest (limits_broken (fields tuple_type f.params)) (if_found (λ t. no_borrow_broken t ++ limits_broken t) f.result) h)

def_lends : (o : Option FuncTy) → if_found func_ty_broken o ≡ [] → DefLends (option_map_or func_type o faulty)
def_lends None h = tt {0}
def_lends (Some f) h = func_lends f h

func_def_lends : (types : List TypeDef) (f : FuncTypeTree) → func_def_broken types f ≡ [] → DefLends (func_def_of types f)
func_def_lends types f h =
    def_lends (func_defined types f) (nil_rest (uses_broken (sorts_of types) f ++ params_broken f) (if_found func_ty_broken (func_defined types f)) h)

value_lends : (o : Option Ty) → DefLends (option_map_or value o faulty)
value_lends None = tt {0}
value_lends (Some t) = tt {0}

-- ---- members

named_lends : (d : MemberDef) (o : Option MemberDef) (b : Bool) → MemberLends d → IfSome o MemberLends → IfSome (if b then Some d else o) MemberLends
named_lends d o true k l = k
named_lends d o false k l = l

under_name : (ms : List NamedMember) (name : List ℕ) → MembersLend ms → IfSome (member_named ms name) MemberLends
under_name [] name k = tt {0}
under_name (m ∷ ms) name k = named_lends m.def (member_named ms name) (bytes_eq m.name name) k.0 (under_name ms name k.1)

type_lends : (d : MemberDef) → MemberLends d → IfSome (type_of_member d) DefLends
type_lends (func_member f) k = tt {0}
type_lends (type_member t) k = k

item_lends : (i : InstanceTy) (next import item : ℕ) (d : ItemTy) → MemberLends (member_of_item i next import item d)
item_lends i next import item (func_item f) = tt {0}
item_lends i next import item (equal_type t) = tt {0}
item_lends i next import item (equal_resource r) = tt {0}
item_lends i next import item (fresh_resource r) = tt {0}

items_lend : (i : InstanceTy) (next import item : ℕ) (xs : List NamedItem) → MembersLend (members_from i next import item xs)
items_lend i next import item [] = tt {0}
items_lend i next import item (x ∷ xs) = (item_lends i next import item x.desc, items_lend i next import (item + 1) xs)

exported_lends : (d : Option (List NamedMember)) → IfSome d MembersLend → IfSome (option_and_then instance_exported (option_map exported_instance d)) MembersLend
exported_lends None k = tt {0}
exported_lends (Some ms) k = k

no_members : (o : Option FuncDef) → IfSome (option_and_then instance_exported (option_map exported_func o)) MembersLend
no_members None = tt {0}
no_members (Some f) = tt {0}

-- ---- after an item

module _ (s : Spaces) (h : Lends s) where
  member_lends : (sort : InstanceExportSort) (i : ℕ) → IfSome (member_at s sort i) MemberLends
  member_lends member_sort.Func i = mapped_any MemberLends func_member (λ f. tt {0}) (slice_get s.funcs i)
  member_lends member_sort.Type i = then_map DefLends MemberLends type_member (λ t k. k) (slice_get s.types i) (got_there DefLends s.types i h.types)

  inline_lends : (e : InlineExport) → MembersLend (named_member s e)
  inline_lends e =
      to_list (λ m. MemberLends m.def) (option_map (λ d. record { name = e.name; def = d }) (member_at s e.sort e.index))
      (then_map MemberLends (λ m. MemberLends m.def) (λ d. record { name = e.name; def = d }) (λ d k. k) (member_at s e.sort e.index) (member_lends e.sort e.index))

  alias_lends : (a : AliasTree) → IfSome (type_alias s a) DefLends
  alias_lends (instance_export sort instance name) =
      and_then MemberLends DefLends type_of_member type_lends (aliased_member s instance name)
      (and_then MembersLend MemberLends (λ ms. member_named ms name) (λ ms k. under_name ms name k) (slice_get s.instances instance) (got_there MembersLend s.instances instance h.instances))
  alias_lends (core_instance_export sort instance name) = tt {0}
  alias_lends (outer_type o) = got_there DefLends s.types o.index h.types

  export_lends : (sort : ExportSort) (i : ℕ) → IfSome (option_and_then instance_exported (exported s sort i)) MembersLend
  export_lends export_sort.Func i = no_members (slice_get s.funcs i)
  export_lends export_sort.Instance i = exported_lends (slice_get s.instances i) (got_there MembersLend s.instances i h.instances)

  defined_lends : (d : DefTypeTree) → broken s (type_item d) ≡ [] → AllByRecursion DefLends (new_types s (type_item d))
  defined_lends (value_def v) none = (value_lends (value_defined s.types v), tt {0})
  defined_lends (func_def f) none = (func_def_lends s.types f none, tt {0})
  defined_lends (resource_def d) none = (tt {0}, tt {0})
  defined_lends (instance_def ds) none = (tt {0}, tt {0})

  types_lend : (x : Item) → broken s x ≡ [] → AllByRecursion DefLends (new_types s x)
  types_lend core_module_item none = tt {0}
  types_lend (core_instance_item i) none = tt {0}
  types_lend (instance_item es) none = tt {0}
  types_lend (alias_item a) none = to_list DefLends (type_alias s a) (alias_lends a)
  types_lend (type_item d) none = defined_lends d none
  types_lend (canon_item c) none = tt {0}
  types_lend (import_item i) none = tt {0}
  types_lend (export_item e) none = tt {0}

  instances_lend : (x : Item) → AllByRecursion MembersLend (new_instances s x)
  instances_lend core_module_item = tt {0}
  instances_lend (core_instance_item i) = tt {0}
  instances_lend (instance_item es) = (all_flat (λ m. MemberLends m.def) (named_member s) inline_lends es, tt {0})
  instances_lend (alias_item a) = tt {0}
  instances_lend (type_item d) = tt {0}
  instances_lend (canon_item c) = tt {0}
  instances_lend (import_item i) =
      to_list MembersLend (option_map (members_imported s) (imported_instance s i.desc))
      (mapped_any MembersLend (members_imported s) (λ t. items_lend t (next_resource s) (next_import s) 0 t.items) (imported_instance s i.desc))
  instances_lend (export_item e) = to_list MembersLend (option_and_then instance_exported (exported s e.sort e.index)) (export_lends e.sort e.index)

item_keeps : (s : Spaces) (x : Item) → broken s x ≡ [] → Lends s → Lends (after_item s x)
item_keeps s x none h =
    record {
      types = all_both DefLends s.types (new_types s x) h.types (types_lend s h x none);
      instances = all_both MembersLend s.instances (new_instances s x) h.instances (instances_lend s h x);
    }

ty_lends : (d : TypeDef) → DefLends d → IfSome (func_ty_in d) LendsNone
ty_lends (value t) k = tt {0}
ty_lends (func_type f) k = k
ty_lends (resource n) k = tt {0}
ty_lends (instance_type i) k = tt {0}
ty_lends faulty k = tt {0}

-- the type of a function before an item of a valid component
pub lends_none : (items : List Item) (s : Spaces) (x : Item) → IsValidFrom empty_spaces items → IsItemAt items s x → (i : ℕ) (ty : FuncTy) → func_ty_at s i ≡ Some ty → LendsNone ty
lends_none items s x valid at i ty e =
    let keeps : (t : Spaces) (y : Item) → IsItemAt items t y → Lends t → Lends (after_item t y) =
    λ t y here h. item_keeps t y (subst (λ v. broken v y ≡ []) here.spaces (valid here.front y here.rest here.split)) h in
    let h = holds_before items Lends keeps (record { types = tt {0}; instances = tt {0} }) s x at in
    subst (λ o. IfSome o LendsNone) e (and_then DefLends LendsNone func_ty_in ty_lends (slice_get s.types i) (got_there DefLends s.types i h.types))
