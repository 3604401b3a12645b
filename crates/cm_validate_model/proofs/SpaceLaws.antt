-- The index spaces of a component name the resources that it has.
use Rattle.std.proofs.Common.{◌≡◌, ℕ, zero, suc, ◌+◌, ◌≤◌, List, [], ◌∷◌, length, map, Option, Some, None, Bool, true, false, refl, ap, sym, ◌∙◌, subst, arith}
use Rattle.std.specs.Prelude.{IfSome, slice_get, option_to_list, if◌then◌else◌}
use Rattle.std.specs.List.{AllByRecursion, flat_map}
use Rattle.std.specs.Option.{option_map, option_map_or, option_and_then}
use Rattle.std.specs.Str.{bytes_eq}
use Rattle.std.proofs.lemmas.List.{length-append}
use Rattle.cm_types.specs.DefTypes.{value_def, func_def, resource_def, instance_def}
use Rattle.cm_types.specs.Signatures.{ItemTy, NamedItem, func_item, equal_type, equal_resource, fresh_resource, ExternTy, NamedExtern}
use Rattle.cm_types.specs.Signatures as extern
use Rattle.cm_binary_model.specs.Trees.{AliasTree, CanonTree, SectionTree, instance_export, outer_type, core_instance_export, lift, lower, resource_new, resource_drop, resource_rep}
use Rattle.cm_binary_model.specs.declared.instances.InlineExport.{InlineExport}
use Rattle.cm_binary_model.specs.declared.instances.InstanceExportSort.{InstanceExportSort}
use Rattle.cm_binary_model.specs.declared.instances.InstanceExportSort.TheVariants as member_sort
use Rattle.cm_binary_model.specs.declared.externs.ExternDesc.{ExternDesc}
use Rattle.cm_binary_model.specs.declared.externs.ExternDesc.TheVariants as desc
use Rattle.cm_binary_model.specs.declared.externs.Import.{Import}
use Rattle.cm_binary_model.specs.declared.externs.ExportSort.{ExportSort}
use Rattle.cm_binary_model.specs.declared.externs.ExportSort.TheVariants as export_sort
use Rattle.cm_validate_model.specs.Definitions.{TypeDef, value, func_type, resource, instance_type, faulty, InstanceTy, FuncDef, lifted, imported, func_type_of, MemberDef, func_member, type_member, NamedMember, ExportDef, exported_func, exported_instance}
use Rattle.cm_validate_model.specs.Items.{Item, core_module_item, core_instance_item, instance_item, alias_item, type_item, canon_item, import_item, export_item, all_items}
use Rattle.cm_validate_model.specs.Moves.{moved_item}
use Rattle.cm_validate_model.specs.Scopes.{value_def_of, func_def_of}
use Rattle.cm_validate_model.specs.Spaces.{Spaces, empty_spaces, member_at, named_member, member_named, aliased_member, member_of_item, members_from, brought_by, brought_from, next_resource, func_of_member, type_of_member, member_alias, type_alias, new_types, func_ty_in, instance_ty_in, imported_func, imported_instance, next_import, lifted_func, canon_func, exported, func_exported, instance_exported, new_funcs, members_imported, new_instances, new_resources, moved_named, import_desc, new_imports, new_exports, after_item, after_items, spaces_of}
use Rattle.cm_validate_model.specs.Counted.{IsFuncCounted, IsItemCounted}
use Rattle.cm_validate_model.specs.CountedSpaces.{AreItemsCounted, fresh_of, fresh_numbers, numbers_from, IsInstanceCounted, IsDefCounted, IsFuncDefCounted, IsMemberCounted, AreMembersCounted, IsExternCounted, IsExportCounted, AreSpacesCounted}
use Rattle.cm_validate_model.proofs.TypeLaws.{all_weaker, func_grows, value_def_counted, func_def_counted, number_moved, id_moved, type_moved, func_moved}
use Rattle.cm_validate_model.proofs.ScopeLaws.{items_grow, def_grows, defs_grow, instance_counted}
use Rattle.cm_lemmas.proofs.Lists.{all_both, all_flat, got_there, to_list}
use Rattle.cm_lemmas.proofs.Options.{and_then, then_map}

-- ---- lists and options

all_map : {A B : Type 0} (P : A → Type 0) (Q : B → Type 0) (f : A → B) → ((x : A) → P x → Q (f x)) → (xs : List A) → AllByRecursion P xs → AllByRecursion Q (map f xs)
all_map P Q f g [] h = tt {0}
all_map P Q f g (x ∷ xs) h = (g x h.0, all_map P Q f g xs h.1)

-- ---- more resources

member_grows : (n m : ℕ) → n ≤ m → (d : MemberDef) → IsMemberCounted n d → IsMemberCounted m d
member_grows n m le (func_member f) h = func_grows n m le (func_type_of f) h
member_grows n m le (type_member t) h = def_grows n m le t h

members_grow : (n m : ℕ) → n ≤ m → (ms : List NamedMember) → AreMembersCounted n ms → AreMembersCounted m ms
members_grow n m le ms h = all_weaker (λ x. IsMemberCounted n x.def) (λ x. IsMemberCounted m x.def) (λ x. member_grows n m le x.def) ms h

extern_grows : (n m : ℕ) → n ≤ m → (e : ExternTy) → IsExternCounted n e → IsExternCounted m e
extern_grows n m le (extern.func f) h = func_grows n m le f h
extern_grows n m le (extern.instance is) h = items_grow n m le is h

export_grows : (n m : ℕ) → n ≤ m → (e : ExportDef) → IsExportCounted n e → IsExportCounted m e
export_grows n m le (exported_func f) h = func_grows n m le (func_type_of f) h
export_grows n m le (exported_instance ms) h = members_grow n m le ms h

-- ---- imports of instances

one_brought : (import item : ℕ) (d : ItemTy) → length (brought_by import item d) ≡ length (fresh_of d)
one_brought import item (func_item f) = refl
one_brought import item (equal_type t) = refl
one_brought import item (equal_resource r) = refl
one_brought import item (fresh_resource r) = refl

brought_as_many : (import item : ℕ) (is : List NamedItem) → length (brought_from import item is) ≡ length (fresh_numbers is)
brought_as_many import item [] = refl
brought_as_many import item (i ∷ is) =
    length-append (brought_by import item i.desc) (brought_from import (item + 1) is)
    ∙ ap (λ k. k + length (brought_from import (item + 1) is)) (one_brought import item i.desc)
    ∙ ap (λ k. length (fresh_of i.desc) + k) (brought_as_many import (item + 1) is)
    ∙ sym (length-append (fresh_of i.desc) (fresh_numbers is))

so_many_numbers : (first k : ℕ) → length (numbers_from first k) ≡ k
so_many_numbers first zero = refl
so_many_numbers first (suc k) = ap suc (so_many_numbers (suc first) k)

brought_count : (n import : ℕ) (i : InstanceTy) → IsInstanceCounted n i → length (brought_from import 0 i.items) ≡ i.fresh
brought_count n import i h = brought_as_many import 0 i.items ∙ ap length h.fresh ∙ so_many_numbers i.first i.fresh

module _ (i : InstanceTy) (next import : ℕ) (le : i.first ≤ next) where
  member_moved : (item : ℕ) (d : ItemTy) → IsItemCounted (i.first + i.fresh) d → IsMemberCounted (next + i.fresh) (member_of_item i next import item d)
  member_moved item (func_item f) h = func_moved i next le f h
  member_moved item (equal_type t) h = type_moved i next le t h
  member_moved item (equal_resource r) h = number_moved i next r.number le h.1
  member_moved item (fresh_resource r) h = number_moved i next r.number le h.1

  members_moved : (item : ℕ) (is : List NamedItem) → AreItemsCounted (i.first + i.fresh) is → AreMembersCounted (next + i.fresh) (members_from i next import item is)
  members_moved item [] h = tt {0}
  members_moved item (x ∷ is) h = (member_moved item x.desc h.0, members_moved (item + 1) is h.1)

  item_moved : (d : ItemTy) → IsItemCounted (i.first + i.fresh) d → IsItemCounted (next + i.fresh) (moved_item i next d)
  item_moved (func_item f) h = func_moved i next le f h
  item_moved (equal_type t) h = type_moved i next le t h
  item_moved (equal_resource r) h = id_moved i next le r h
  item_moved (fresh_resource r) h = id_moved i next le r h

-- ---- what items add

func_known : (n : ℕ) (d : TypeDef) → IsDefCounted n d → IfSome (func_ty_in d) (IsFuncCounted n)
func_known n (value t) h = tt {0}
func_known n (func_type f) h = h
func_known n (resource k) h = tt {0}
func_known n (instance_type i) h = tt {0}
func_known n faulty h = tt {0}

instance_known : (n : ℕ) (d : TypeDef) → IsDefCounted n d → IfSome (instance_ty_in d) (IsInstanceCounted n)
instance_known n (value t) h = tt {0}
instance_known n (func_type f) h = tt {0}
instance_known n (resource k) h = tt {0}
instance_known n (instance_type i) h = h
instance_known n faulty h = tt {0}

by_test : (P : MemberDef → Type 0) (d : MemberDef) (o : Option MemberDef) (b : Bool) → P d → IfSome o P → IfSome (if b then Some d else o) P
by_test P d o true h k = h
by_test P d o false h k = k

pub named_known : (n : ℕ) (ms : List NamedMember) (name : List ℕ) → AreMembersCounted n ms → IfSome (member_named ms name) (IsMemberCounted n)
named_known n [] name h = tt {0}
named_known n (m ∷ ms) name h = by_test (IsMemberCounted n) m.def (member_named ms name) (bytes_eq m.name name) h.0 (named_known n ms name h.1)

func_in_member : (n : ℕ) (d : MemberDef) → IsMemberCounted n d → IfSome (func_of_member d) (IsFuncDefCounted n)
func_in_member n (func_member f) h = h
func_in_member n (type_member t) h = tt {0}

type_in_member : (n : ℕ) (d : MemberDef) → IsMemberCounted n d → IfSome (type_of_member d) (IsDefCounted n)
type_in_member n (func_member f) h = tt {0}
type_in_member n (type_member t) h = h

func_in_export : (n : ℕ) (d : ExportDef) → IsExportCounted n d → IfSome (func_exported d) (IsFuncDefCounted n)
func_in_export n (exported_func f) h = h
func_in_export n (exported_instance ms) h = tt {0}

instance_in_export : (n : ℕ) (d : ExportDef) → IsExportCounted n d → IfSome (instance_exported d) (AreMembersCounted n)
instance_in_export n (exported_func f) h = tt {0}
instance_in_export n (exported_instance ms) h = h

module _ (s : Spaces) (c : AreSpacesCounted s) where
  abbrev n : ℕ
  n = next_resource s

  aliased_known : (instance : ℕ) (name : List ℕ) → IfSome (aliased_member s instance name) (IsMemberCounted n)
  aliased_known instance name = and_then (AreMembersCounted n) (IsMemberCounted n) (λ ms. member_named ms name) (λ ms. named_known n ms name) (slice_get s.instances instance) (got_there (AreMembersCounted n) s.instances instance c.instances)

  alias_known : (a : AliasTree) → IfSome (member_alias s a) (IsMemberCounted n)
  alias_known (instance_export sort instance name) = aliased_known instance name
  alias_known (core_instance_export sort instance name) = tt {0}
  alias_known (outer_type o) = tt {0}

  type_known : (a : AliasTree) → IfSome (type_alias s a) (IsDefCounted n)
  type_known (instance_export sort instance name) = and_then (IsMemberCounted n) (IsDefCounted n) type_of_member (type_in_member n) (aliased_member s instance name) (aliased_known instance name)
  type_known (core_instance_export sort instance name) = tt {0}
  type_known (outer_type o) = got_there (IsDefCounted n) s.types o.index c.types

  imported_func_known : (d : ExternDesc) → IfSome (imported_func s d) (IsFuncCounted n)
  imported_func_known (desc.Func i) = and_then (IsDefCounted n) (IsFuncCounted n) func_ty_in (func_known n) (slice_get s.types i) (got_there (IsDefCounted n) s.types i c.types)
  imported_func_known (desc.Instance i) = tt {0}

  imported_instance_known : (d : ExternDesc) → IfSome (imported_instance s d) (IsInstanceCounted n)
  imported_instance_known (desc.Func i) = tt {0}
  imported_instance_known (desc.Instance i) = and_then (IsDefCounted n) (IsInstanceCounted n) instance_ty_in (instance_known n) (slice_get s.types i) (got_there (IsDefCounted n) s.types i c.types)

  canon_known : (t : CanonTree) → IfSome (canon_func s t) (IsFuncDefCounted n)
  canon_known (lift f os i) =
      and_then (IsDefCounted n) (IsFuncDefCounted n) (lifted_func f os)
      (λ d h. then_map (IsFuncCounted n) (IsFuncDefCounted n) (λ ty. lifted f ty os) (λ ty k. k) (func_ty_in d) (func_known n d h))
      (slice_get s.types i) (got_there (IsDefCounted n) s.types i c.types)
  canon_known (lower f os) = tt {0}
  canon_known (resource_new i) = tt {0}
  canon_known (resource_drop i) = tt {0}
  canon_known (resource_rep i) = tt {0}

  exported_known : (sort : ExportSort) (i : ℕ) → IfSome (exported s sort i) (IsExportCounted n)
  exported_known export_sort.Func i = then_map (IsFuncDefCounted n) (IsExportCounted n) exported_func (λ f h. h) (slice_get s.funcs i) (got_there (IsFuncDefCounted n) s.funcs i c.funcs)
  exported_known export_sort.Instance i = then_map (AreMembersCounted n) (IsExportCounted n) exported_instance (λ ms h. h) (slice_get s.instances i) (got_there (AreMembersCounted n) s.instances i c.instances)

  member_known : (sort : InstanceExportSort) (i : ℕ) → IfSome (member_at s sort i) (IsMemberCounted n)
  member_known member_sort.Func i = then_map (IsFuncDefCounted n) (IsMemberCounted n) func_member (λ f h. h) (slice_get s.funcs i) (got_there (IsFuncDefCounted n) s.funcs i c.funcs)
  member_known member_sort.Type i = then_map (IsDefCounted n) (IsMemberCounted n) type_member (λ t h. h) (slice_get s.types i) (got_there (IsDefCounted n) s.types i c.types)

  named_member_known : (e : InlineExport) → AreMembersCounted n (named_member s e)
  named_member_known e =
      to_list (λ m. IsMemberCounted n m.def) (option_map (λ d. record { name = e.name; def = d }) (member_at s e.sort e.index))
      (then_map (IsMemberCounted n) (λ m. IsMemberCounted n m.def) (λ d. record { name = e.name; def = d }) (λ d h. h) (member_at s e.sort e.index) (member_known e.sort e.index))

  -- those of new types are of the resources after the item
  module _ (m : ℕ) (le : n ≤ m) where
    defs : (o : Option TypeDef) → IfSome o (IsDefCounted n) → AllByRecursion (IsDefCounted m) (option_to_list o)
    defs o h = defs_grow n m le (option_to_list o) (to_list (IsDefCounted n) o h)

    funcs : (o : Option FuncDef) → IfSome o (IsFuncDefCounted n) → AllByRecursion (IsFuncDefCounted m) (option_to_list o)
    funcs o h = all_weaker (IsFuncDefCounted n) (IsFuncDefCounted m) (λ f. func_grows n m le (func_type_of f)) (option_to_list o) (to_list (IsFuncDefCounted n) o h)

    instances : (o : Option (List NamedMember)) → IfSome o (AreMembersCounted n) → AllByRecursion (AreMembersCounted m) (option_to_list o)
    instances o h = all_weaker (AreMembersCounted n) (AreMembersCounted m) (members_grow n m le) (option_to_list o) (to_list (AreMembersCounted n) o h)

-- ---- after an item

-- so many resources stand behind an import of an instance of this type
behind_import : (s : Spaces) (i : Import) (t : InstanceTy) → imported_instance s i.desc ≡ Some t → IsInstanceCounted (next_resource s) t
    → next_resource (after_item s (import_item i)) ≡ next_resource s + t.fresh
behind_import s i t e h =
    length-append s.resources (new_resources s (import_item i))
    ∙ ap (λ o. next_resource s + length (option_map_or (λ u. brought_from (next_import s) 0 u.items) o [])) e
    ∙ ap (λ k. next_resource s + k) (brought_count (next_resource s) (next_import s) t h)

more : (s : Spaces) (x : Item) → next_resource s ≤ next_resource (after_item s x)
more s x = rw (length-append s.resources (new_resources s x)) (omega arith)

types_added : (s : Spaces) (c : AreSpacesCounted s) (x : Item) → AllByRecursion (IsDefCounted (next_resource (after_item s x))) (new_types s x)
types_added s c core_module_item = tt {0}
types_added s c (core_instance_item i) = tt {0}
types_added s c (instance_item es) = tt {0}
types_added s c (alias_item a) = defs s c _ (more s (alias_item a)) (type_alias s a) (type_known s c a)
types_added s c (type_item (value_def v)) = (def_grows _ _ (more s (type_item (value_def v))) (value_def_of s.types v) (value_def_counted (next_resource s) s.types c.types v), tt {0})
types_added s c (type_item (func_def f)) = (def_grows _ _ (more s (type_item (func_def f))) (func_def_of s.types f) (func_def_counted (next_resource s) s.types c.types f), tt {0})
types_added s c (type_item (resource_def d)) = (rw (length-append s.resources (new_resources s (type_item (resource_def d)))) (omega arith), tt {0})
types_added s c (type_item (instance_def ds)) = (instance_counted s.types (next_resource s) ds c.types _ (more s (type_item (instance_def ds))), tt {0})
types_added s c (canon_item t) = tt {0}
types_added s c (import_item i) = tt {0}
types_added s c (export_item e) = tt {0}

funcs_added : (s : Spaces) (c : AreSpacesCounted s) (x : Item) → AllByRecursion (IsFuncDefCounted (next_resource (after_item s x))) (new_funcs s x)
funcs_added s c core_module_item = tt {0}
funcs_added s c (core_instance_item i) = tt {0}
funcs_added s c (instance_item es) = tt {0}
funcs_added s c (alias_item a) =
    funcs s c _ (more s (alias_item a)) (option_and_then func_of_member (member_alias s a))
    (and_then (IsMemberCounted (next_resource s)) (IsFuncDefCounted (next_resource s)) func_of_member (func_in_member (next_resource s)) (member_alias s a) (alias_known s c a))
funcs_added s c (type_item d) = tt {0}
funcs_added s c (canon_item t) = funcs s c _ (more s (canon_item t)) (canon_func s t) (canon_known s c t)
funcs_added s c (import_item i) =
    funcs s c _ (more s (import_item i)) (option_map (imported (next_import s) None) (imported_func s i.desc))
    (then_map (IsFuncCounted (next_resource s)) (IsFuncDefCounted (next_resource s)) (imported (next_import s) None) (λ f h. h) (imported_func s i.desc) (imported_func_known s c i.desc))
funcs_added s c (export_item e) =
    funcs s c _ (more s (export_item e)) (option_and_then func_exported (exported s e.sort e.index))
    (and_then (IsExportCounted (next_resource s)) (IsFuncDefCounted (next_resource s)) func_exported (func_in_export (next_resource s)) (exported s e.sort e.index) (exported_known s c e.sort e.index))

instance_imported : (s : Spaces) (c : AreSpacesCounted s) (i : Import) (o : Option InstanceTy) → imported_instance s i.desc ≡ o → IfSome o (IsInstanceCounted (next_resource s))
    → AllByRecursion (AreMembersCounted (next_resource (after_item s (import_item i)))) (option_to_list (option_map (members_imported s) o))
instance_imported s c i None e h = tt {0}
instance_imported s c i (Some t) e h =
    (subst (λ k. AreMembersCounted k (members_imported s t)) (sym (behind_import s i t e h)) (members_moved t (next_resource s) (next_import s) h.known 0 t.items h.items), tt {0})

instances_added : (s : Spaces) (c : AreSpacesCounted s) (x : Item) → AllByRecursion (AreMembersCounted (next_resource (after_item s x))) (new_instances s x)
instances_added s c core_module_item = tt {0}
instances_added s c (core_instance_item i) = tt {0}
instances_added s c (instance_item es) =
    (members_grow _ _ (more s (instance_item es)) (flat_map (named_member s) es) (all_flat (λ m. IsMemberCounted (next_resource s) m.def) (named_member s) (named_member_known s c) es), tt {0})
instances_added s c (alias_item a) = tt {0}
instances_added s c (type_item d) = tt {0}
instances_added s c (canon_item t) = tt {0}
instances_added s c (import_item i) = instance_imported s c i (imported_instance s i.desc) refl (imported_instance_known s c i.desc)
instances_added s c (export_item e) =
    instances s c _ (more s (export_item e)) (option_and_then instance_exported (exported s e.sort e.index))
    (and_then (IsExportCounted (next_resource s)) (AreMembersCounted (next_resource s)) instance_exported (instance_in_export (next_resource s)) (exported s e.sort e.index) (exported_known s c e.sort e.index))

extern_imported : (s : Spaces) (i : Import) (o : Option InstanceTy) → imported_instance s i.desc ≡ o → IfSome o (IsInstanceCounted (next_resource s))
    → IfSome (option_map (λ t. extern.instance (map (moved_named s t) t.items)) o) (IsExternCounted (next_resource (after_item s (import_item i))))
extern_imported s i None e h = tt {0}
extern_imported s i (Some t) e h =
    subst (λ k. AreItemsCounted k (map (moved_named s t) t.items)) (sym (behind_import s i t e h))
    (all_map (λ x. IsItemCounted (t.first + t.fresh) x.desc) (λ x. IsItemCounted (next_resource s + t.fresh) x.desc) (moved_named s t)
    (λ x. item_moved t (next_resource s) (next_import s) h.known x.desc) t.items h.items)

import_counted : (s : Spaces) (c : AreSpacesCounted s) (name : List ℕ) (d : ExternDesc) → IfSome (import_desc s d) (IsExternCounted (next_resource (after_item s (import_item (record { name = name; desc = d })))))
import_counted s c name (desc.Func i) =
    then_map (IsFuncCounted (next_resource s)) _ extern.func (λ f h. func_grows _ _ (more s (import_item (record { name = name; desc = desc.Func i }))) f h) (imported_func s (desc.Func i)) (imported_func_known s c (desc.Func i))
import_counted s c name (desc.Instance i) =
    extern_imported s (record { name = name; desc = desc.Instance i }) (imported_instance s (desc.Instance i)) refl (imported_instance_known s c (desc.Instance i))

imports_added : (s : Spaces) (c : AreSpacesCounted s) (x : Item) → AllByRecursion (λ e. IsExternCounted (next_resource (after_item s x)) e.desc) (new_imports s x)
imports_added s c core_module_item = tt {0}
imports_added s c (core_instance_item i) = tt {0}
imports_added s c (instance_item es) = tt {0}
imports_added s c (alias_item a) = tt {0}
imports_added s c (type_item d) = tt {0}
imports_added s c (canon_item t) = tt {0}
imports_added s c (import_item i) =
    to_list (λ e. IsExternCounted (next_resource (after_item s (import_item i))) e.desc) (option_map (λ d. record { name = i.name; desc = d }) (import_desc s i.desc))
    (then_map (IsExternCounted (next_resource (after_item s (import_item i)))) (λ e. IsExternCounted (next_resource (after_item s (import_item i))) e.desc) (λ d. record { name = i.name; desc = d }) (λ d h. h)
    (import_desc s i.desc) (import_counted s c i.name i.desc))
imports_added s c (export_item e) = tt {0}

exports_added : (s : Spaces) (c : AreSpacesCounted s) (x : Item) → AllByRecursion (λ e. IsExportCounted (next_resource (after_item s x)) e.def) (new_exports s x)
exports_added s c core_module_item = tt {0}
exports_added s c (core_instance_item i) = tt {0}
exports_added s c (instance_item es) = tt {0}
exports_added s c (alias_item a) = tt {0}
exports_added s c (type_item d) = tt {0}
exports_added s c (canon_item t) = tt {0}
exports_added s c (import_item i) = tt {0}
exports_added s c (export_item e) =
    to_list (λ x. IsExportCounted (next_resource (after_item s (export_item e))) x.def) (option_map (λ d. record { name = e.name; def = d }) (exported s e.sort e.index))
    (then_map (IsExportCounted (next_resource s)) (λ x. IsExportCounted (next_resource (after_item s (export_item e))) x.def) (λ d. record { name = e.name; def = d })
    (λ d h. export_grows _ _ (more s (export_item e)) d h) (exported s e.sort e.index) (exported_known s c e.sort e.index))

item_counted : (s : Spaces) (x : Item) → AreSpacesCounted s → AreSpacesCounted (after_item s x)
item_counted s x c =
    let m : ℕ = next_resource (after_item s x) in
    let le : next_resource s ≤ next_resource (after_item s x) = more s x in
    record {
      types = all_both (IsDefCounted m) s.types (new_types s x) (defs_grow _ m le s.types c.types) (types_added s c x);
      funcs = all_both (IsFuncDefCounted m) s.funcs (new_funcs s x)
          (all_weaker (IsFuncDefCounted (next_resource s)) (IsFuncDefCounted m) (λ f. func_grows _ m le (func_type_of f)) s.funcs c.funcs) (funcs_added s c x);
      instances = all_both (AreMembersCounted m) s.instances (new_instances s x)
          (all_weaker (AreMembersCounted (next_resource s)) (AreMembersCounted m) (members_grow _ m le) s.instances c.instances) (instances_added s c x);
      imports = all_both (λ e. IsExternCounted m e.desc) s.imports (new_imports s x)
          (all_weaker (λ e. IsExternCounted (next_resource s) e.desc) (λ e. IsExternCounted m e.desc) (λ e. extern_grows _ m le e.desc) s.imports c.imports) (imports_added s c x);
      exports = all_both (λ e. IsExportCounted m e.def) s.exports (new_exports s x)
          (all_weaker (λ e. IsExportCounted (next_resource s) e.def) (λ e. IsExportCounted m e.def) (λ e. export_grows _ m le e.def) s.exports c.exports) (exports_added s c x);
    }

items_counted : (s : Spaces) (xs : List Item) → AreSpacesCounted s → AreSpacesCounted (after_items s xs)
items_counted s [] c = c
items_counted s (x ∷ xs) c = items_counted (after_item s x) xs (item_counted s x c)

pub before_all : (xs : List Item) → AreSpacesCounted (after_items empty_spaces xs)
before_all xs = items_counted empty_spaces xs (record { types = tt {0}; funcs = tt {0}; instances = tt {0}; imports = tt {0}; exports = tt {0} })

pub whole : (ss : List SectionTree) → AreSpacesCounted (spaces_of ss)
whole ss = before_all (all_items ss)
