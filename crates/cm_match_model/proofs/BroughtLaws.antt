-- What an import of an instance brings, wherever in a component.
use Rattle.std.proofs.Common.{◌≡◌, ◌∙◌, ℕ, suc, ◌+◌, ◌<◌, ◌≤◌, List, [], ◌∷◌, ◌++◌, length, map, Bool, true, false, Option, Some, None, refl, ap, sym, subst, arith, inl, inr, slice_get, option_and_then, nat_lt}
use Rattle.std.specs.Prelude.{IfSome, option_to_list, if◌then◌else◌}
use Rattle.std.specs.List.{AllByRecursion}
use Rattle.std.specs.Option.{option_map, option_map_or}
use Rattle.std.specs.Str.{bytes_eq}
use Rattle.std.proofs.lemmas.List.{append_assoc}
use Rattle.std.proofs.lemmas.Bool.{cases_Bool, ltb-true, ltb-false, le-ltb}
use Rattle.cm_types.specs.declared.resource.ResourceId.{ResourceId}
use Rattle.cm_types.specs.DefTypes.{value_def, func_def, resource_def, instance_def}
use Rattle.cm_types.specs.Signatures.{ItemTy, NamedItem, func_item, equal_type, equal_resource, fresh_resource, ExternTy, NamedExtern}
use Rattle.cm_types.specs.Signatures as extern
use Rattle.cm_types.specs.Types.{Ty, FuncTy, Fields, Cases, bool, signed, unsigned, char, string, list, fixed_list, fields, cases, flags, own, borrow, no_fields, field, no_cases, plain, carrying}
use Rattle.cm_binary_model.specs.Trees.{AliasTree, SectionTree, instance_export, outer_type, core_instance_export}
use Rattle.cm_binary_model.specs.declared.externs.ExternDesc.{ExternDesc}
use Rattle.cm_binary_model.specs.declared.externs.ExternDesc.TheVariants as desc
use Rattle.cm_binary_model.specs.declared.externs.ExportSort.{ExportSort}
use Rattle.cm_binary_model.specs.declared.externs.ExportSort.TheVariants as export_sort
use Rattle.cm_binary_model.specs.declared.instances.InlineExport.{InlineExport}
use Rattle.cm_binary_model.specs.declared.instances.InstanceExportSort.{InstanceExportSort}
use Rattle.cm_binary_model.specs.declared.instances.InstanceExportSort.TheVariants as member_sort
use Rattle.cm_validate_model.specs.Definitions.{InstanceTy, TypeDef, value, func_type, resource, instance_type, faulty, ResourceDef, brought, MemberDef, func_member, type_member, NamedMember, ExportDef, exported_func, exported_instance}
use Rattle.cm_validate_model.specs.Items.{Item, core_module_item, core_instance_item, instance_item, alias_item, type_item, canon_item, import_item, export_item, all_items}
use Rattle.cm_validate_model.specs.Moves.{moved, moved_id, moved_type, moved_fields, moved_cases, moved_func, moved_item}
use Rattle.cm_validate_model.specs.Scopes.{resource_id, value_defined, func_defined}
use Rattle.cm_validate_model.specs.Spaces.{Spaces, empty_spaces, member_at, named_member, member_named, aliased_member, member_of_item, members_from, members_imported, brought_by, brought_from, next_resource, next_import, type_of_member, member_alias, type_alias, new_types, new_instances, new_resources, new_imports, imported_func, imported_instance, instance_ty_in, instance_exported, exported, import_desc, moved_named, after_item, after_items, spaces_of}
use Rattle.cm_validate_model.specs.Counted.{IsAmongFirst, IsCounted, AreCounted, AreCasesCounted, IsFuncCounted, IsItemCounted}
use Rattle.cm_validate_model.specs.CountedSpaces.{AreItemsCounted, AreSpacesCounted, IsDefCounted, IsInstanceCounted}
use Rattle.cm_types_arena.specs.Moves.{moved as moved_range}
use Rattle.cm_types_arena.specs.Replaced.{replaced, replaced_func}
use Rattle.cm_types_arena.specs.Instances.{replaced_desc, replaced_item}
use Rattle.cm_match_model.specs.Brought.{AreBrought, AreInOrder, BringsInOrder, IsBrought, IsInOrder, behind}
use Rattle.cm_match_model.proofs.AlikeLists.{AllFrom, from_at, from_joined, from_weaker, get_behind}
use Rattle.cm_match_model.proofs.OrderLaws.{type_ordered}
use Rattle.cm_validate_model.proofs.ListLemmas.{after_both}
use Rattle.cm_lemmas.proofs.Lists.{all_flat, all_both, get_front, got_there, one_longer, nil_right, to_list}
use Rattle.cm_lemmas.proofs.Options.{and_then, mapped_any, then_map}

-- ---- the items of an import, as it counts their resources

module _ (t : InstanceTy) (next : ℕ) (le : t.first ≤ next) where
  number_moved : (m n : ℕ) → n < t.first + m → moved t next n < next + m
  number_moved m n h = elim (cases_Bool (nat_lt n t.first)) [
    | inl y ↦ rw y (omega (arith, le, ltb-true n t.first y))
    | inr k ↦ rw k (omega (arith, le, h, ltb-false n t.first k))
  ]

  id_moved : (m : ℕ) (r : ResourceId) → IsAmongFirst (t.first + m) r → IsAmongFirst (next + m) (moved_id t next r)
  id_moved m r h = (refl, number_moved m r.number h.1)

  mutual
    type_moved : (m : ℕ) (u : Ty) → IsCounted (t.first + m) u → IsCounted (next + m) (moved_type t next u)
    type_moved m bool h = h
    type_moved m (signed w) h = h
    type_moved m (unsigned w) h = h
    type_moved m char h = h
    type_moved m string h = h
    type_moved m (list u) h = type_moved m u h
    type_moved m (fixed_list u k) h = type_moved m u h
    type_moved m (fields k fs) h = fields_moved m fs h
    type_moved m (cases k cs) h = cases_moved m cs h
    type_moved m (flags ls) h = h
    type_moved m (own r) h = id_moved m r h
    type_moved m (borrow r) h = id_moved m r h

    fields_moved : (m : ℕ) (fs : Fields) → AreCounted (t.first + m) fs → AreCounted (next + m) (moved_fields t next fs)
    fields_moved m no_fields h = h
    fields_moved m (field l u fs) h = (type_moved m u h.0, fields_moved m fs h.1)

    cases_moved : (m : ℕ) (cs : Cases) → AreCasesCounted (t.first + m) cs → AreCasesCounted (next + m) (moved_cases t next cs)
    cases_moved m no_cases h = h
    cases_moved m (plain l cs) h = cases_moved m cs h
    cases_moved m (carrying l u cs) h = (type_moved m u h.0, cases_moved m cs h.1)

  func_moved : (m : ℕ) (f : FuncTy) → IsFuncCounted (t.first + m) f → IsFuncCounted (next + m) (moved_func t next f)
  func_moved m f h = (fields_moved m f.params h.0, then_map (IsCounted (t.first + m)) (IsCounted (next + m)) (moved_type t next) (type_moved m) f.result h.1)

  own_moved : (m : ℕ) → moved_id t next (resource_id (t.first + m)) ≡ resource_id (next + m)
  own_moved m = rw (le-ltb (t.first + m) t.first (omega arith)) (ap resource_id (omega arith))

  -- an item, and those behind it
  abbrev as_moved : NamedItem → NamedItem
  as_moved i = record { name = i.name; desc = moved_item t next i.desc }

  order_by : (m : ℕ) (is : List NamedItem) → ((n : ℕ) → AreInOrder (t.first + n) is → AreInOrder (next + n) (map as_moved is)) → (d : ItemTy) → IsInOrder (t.first + m) d
      → AreInOrder (behind (t.first + m) d) is → IsInOrder (next + m) (moved_item t next d) × AreInOrder (behind (next + m) (moved_item t next d)) (map as_moved is)
  order_by m is more (func_item f) k l = (func_moved m f k, more m l)
  order_by m is more (equal_type u) k l = (type_moved m u k, more m l)
  order_by m is more (equal_resource r) k l = (id_moved m r k, more m l)
  order_by m is more (fresh_resource r) k l = (
    ap (moved_id t next) k ∙ own_moved m,
    subst (λ n. AreInOrder n (map as_moved is)) (omega arith) (more (suc m) (subst (λ n. AreInOrder n is) (omega arith) l)),
  )

  order_moved : (m : ℕ) (is : List NamedItem) → AreInOrder (t.first + m) is → AreInOrder (next + m) (map as_moved is)
  order_moved m [] h = tt {0}
  order_moved m (i ∷ is) h = order_by m is (λ n. order_moved n is) i.desc h.0 h.1

  -- the resources of the component are those before the import, of which there are so many, and what
  -- it brings
  abbrev BroughtFrom : ℕ → ℕ → List NamedItem → Type 0
  BroughtFrom import number is =
      (m : ℕ) (front : List ResourceDef) → length front ≡ next + m → AreInOrder (t.first + m) is → AreBrought (front ++ brought_from import number is) import number (map as_moved is)

  brought_one : (import number m : ℕ) (is : List NamedItem) (front : List ResourceDef) → BroughtFrom import (number + 1) is → length front ≡ next + m
      → (d : ItemTy) → IsInOrder (t.first + m) d → AreInOrder (behind (t.first + m) d) is
      → IsBrought (front ++ (brought_by import number d ++ brought_from import (number + 1) is)) import number (moved_item t next d)
      × AreBrought (front ++ (brought_by import number d ++ brought_from import (number + 1) is)) import (number + 1) (map as_moved is)
  brought_one import number m is front more e (func_item f) k l = (tt {0}, more m front e l)
  brought_one import number m is front more e (equal_type u) k l = (tt {0}, more m front e l)
  brought_one import number m is front more e (equal_resource r) k l = (tt {0}, more m front e l)
  brought_one import number m is front more e (fresh_resource r) k l =
      let b : ResourceDef = brought import number in
      let rest = brought_from import (number + 1) is in
      let place : moved t next r.number ≡ length front = ap (λ (q : ResourceId). moved t next q.number) k ∙ ap (λ (q : ResourceId). q.number) (own_moved m) ∙ sym e in
      let longer : length (front ++ b ∷ []) ≡ next + suc m = omega (arith, one_longer front b, e) in (
        subst (λ n. slice_get (front ++ b ∷ rest) n ≡ Some b) (sym place) (get_behind front b rest),
        subst (λ l. AreBrought l import (number + 1) (map as_moved is)) (append_assoc front (b ∷ []) rest)
            (more (suc m) (front ++ b ∷ []) longer (subst (λ n. AreInOrder n is) (omega arith) l)),
      )

  are_brought : (import number : ℕ) (is : List NamedItem) → BroughtFrom import number is
  are_brought import number [] m front e h = tt {0}
  are_brought import number (i ∷ is) m front e h = brought_one import number m is front (are_brought import (number + 1) is) e i.desc h.0 h.1

-- ---- the items of an import are those of its type, with a range of resources moved

abbrev with_desc : NamedItem → ItemTy → NamedItem
with_desc i d = record { name = i.name; desc = d }

-- items that name what is counted, as an import has them
abbrev Ranged : Type 0
Ranged = (t : InstanceTy) (next : ℕ) (is : List NamedItem) → AreItemsCounted (t.first + t.fresh) is
    → map (λ (i : NamedItem). with_desc i (moved_item t next i.desc)) is ≡ map (replaced_item (moved_range t.first t.fresh next)) is

module _ (types : (t : InstanceTy) (next : ℕ) (u : Ty) → IsCounted (t.first + t.fresh) u → moved_type t next u ≡ replaced (moved_range t.first t.fresh next) u)
    (funcs : (t : InstanceTy) (next : ℕ) (f : FuncTy) → IsFuncCounted (t.first + t.fresh) f → moved_func t next f ≡ replaced_func (moved_range t.first t.fresh next) f) where
  id_ranged : (t : InstanceTy) (next : ℕ) (r : ResourceId) → IsAmongFirst (t.first + t.fresh) r → moved_id t next r ≡ moved_range t.first t.fresh next r
  id_ranged t next r h = let e : own (moved_id t next r) ≡ own (moved_range t.first t.fresh next r) = types t next (own r) h in cc

  desc_ranged : (t : InstanceTy) (next : ℕ) (d : ItemTy) → IsItemCounted (t.first + t.fresh) d → moved_item t next d ≡ replaced_desc (moved_range t.first t.fresh next) d
  desc_ranged t next (func_item f) h = ap func_item (funcs t next f h)
  desc_ranged t next (equal_type u) h = ap equal_type (types t next u h)
  desc_ranged t next (equal_resource r) h = ap equal_resource (id_ranged t next r h)
  desc_ranged t next (fresh_resource r) h = ap fresh_resource (id_ranged t next r h)

  pub items_ranged : Ranged
  items_ranged t next [] h = refl
  items_ranged t next (i ∷ is) h =
      ap (λ d. with_desc i d ∷ map (λ (x : NamedItem). with_desc x (moved_item t next x.desc)) is) (desc_ranged t next i.desc h.0)
      ∙ ap (λ l. replaced_item (moved_range t.first t.fresh next) i ∷ l) (items_ranged t next is h.1)

-- ---- types of instances, wherever they stand

abbrev IsOrdered : TypeDef → Type 0
IsOrdered (instance_type t) = AreInOrder t.first t.items
IsOrdered (value t) = Unit {0}
IsOrdered (func_type f) = Unit {0}
IsOrdered (resource n) = Unit {0}
IsOrdered faulty = Unit {0}

abbrev IsMemberOrdered : MemberDef → Type 0
IsMemberOrdered (func_member f) = Unit {0}
IsMemberOrdered (type_member t) = IsOrdered t

abbrev AreMembersOrdered : List NamedMember → Type 0
AreMembersOrdered ms = AllByRecursion (λ m. IsMemberOrdered m.def) ms

-- ---- imports, wherever they stand

abbrev ImportsInOrder : List ResourceDef → ℕ → ExternTy → Type 0
ImportsInOrder resources import (extern.func f) = Unit {0}
ImportsInOrder resources import (extern.instance items) = BringsInOrder resources import items

abbrev ImportInOrder : List ResourceDef → ℕ → NamedExtern → Type 0
ImportInOrder resources import x = ImportsInOrder resources import x.desc

-- what is brought stays where more resources come
brought_grows : (import number : ℕ) (is : List NamedItem) (old new : List ResourceDef) → AreBrought old import number is → AreBrought (old ++ new) import number is
brought_grows import number [] old new h = tt {0}
brought_grows import number (i ∷ is) old new h = (by_desc i.desc h.0, brought_grows import (number + 1) is old new h.1)
  where
    by_desc : (d : ItemTy) → IsBrought old import number d → IsBrought (old ++ new) import number d
    by_desc (func_item f) k = tt {0}
    by_desc (equal_type u) k = tt {0}
    by_desc (equal_resource r) k = tt {0}
    by_desc (fresh_resource r) k = get_front old new r.number (brought import number) k

import_grows : (old new : List ResourceDef) (import : ℕ) (x : ExternTy) → ImportsInOrder old import x → ImportsInOrder (old ++ new) import x
import_grows old new import (extern.func f) h = h
import_grows old new import (extern.instance items) h =
    record { ty = h.ty; owns = h.owns; next = h.next; are_of_type = h.are_of_type; in_order = h.in_order; brought = brought_grows import 0 items old new h.brought }

-- in index spaces
record Ordered (s : Spaces) : Type 0 where
  types : AllByRecursion IsOrdered s.types
  instances : AllByRecursion AreMembersOrdered s.instances
  imports : AllFrom (ImportInOrder s.resources) 0 s.imports

-- ---- what items add

by_test : (d : MemberDef) (o : Option MemberDef) (b : Bool) → IsMemberOrdered d → IfSome o IsMemberOrdered → IfSome (if b then Some d else o) IsMemberOrdered
by_test d o true h k = h
by_test d o false h k = k

named_ordered : (ms : List NamedMember) (name : List ℕ) → AreMembersOrdered ms → IfSome (member_named ms name) IsMemberOrdered
named_ordered [] name h = tt {0}
named_ordered (m ∷ ms) name h = by_test m.def (member_named ms name) (bytes_eq m.name name) h.0 (named_ordered ms name h.1)

type_in_member : (d : MemberDef) → IsMemberOrdered d → IfSome (type_of_member d) IsOrdered
type_in_member (func_member f) h = tt {0}
type_in_member (type_member t) h = h

value_ordered : (o : Option Ty) → IsOrdered (option_map_or value o faulty)
value_ordered None = tt {0}
value_ordered (Some t) = tt {0}

func_ordered : (o : Option FuncTy) → IsOrdered (option_map_or func_type o faulty)
func_ordered None = tt {0}
func_ordered (Some f) = tt {0}

imported_members : (t : InstanceTy) (next import number : ℕ) (is : List NamedItem) → AreMembersOrdered (members_from t next import number is)
imported_members t next import number [] = tt {0}
imported_members t next import number (i ∷ is) = (by_desc i.desc, imported_members t next import (number + 1) is)
  where
    by_desc : (d : ItemTy) → IsMemberOrdered (member_of_item t next import number d)
    by_desc (func_item f) = tt {0}
    by_desc (equal_type u) = tt {0}
    by_desc (equal_resource r) = tt {0}
    by_desc (fresh_resource r) = tt {0}

module _ (s : Spaces) (h : Ordered s) where
  alias_ordered : (a : AliasTree) → IfSome (member_alias s a) IsMemberOrdered
  alias_ordered (instance_export sort instance name) =
      and_then AreMembersOrdered IsMemberOrdered (λ ms. member_named ms name) (λ ms. named_ordered ms name) (slice_get s.instances instance) (got_there AreMembersOrdered s.instances instance h.instances)
  alias_ordered (core_instance_export sort instance name) = tt {0}
  alias_ordered (outer_type o) = tt {0}

  type_alias_ordered : (a : AliasTree) → IfSome (type_alias s a) IsOrdered
  type_alias_ordered (instance_export sort instance name) =
      and_then IsMemberOrdered IsOrdered type_of_member type_in_member (aliased_member s instance name) (alias_ordered (instance_export sort instance name))
  type_alias_ordered (core_instance_export sort instance name) = tt {0}
  type_alias_ordered (outer_type o) = got_there IsOrdered s.types o.index h.types

  types_added : ((x : Item) → AreSpacesCounted (after_item s x)) → (x : Item) → AllByRecursion IsOrdered (new_types s x)
  types_added told core_module_item = tt {0}
  types_added told (core_instance_item i) = tt {0}
  types_added told (instance_item es) = tt {0}
  types_added told (alias_item a) = to_list IsOrdered (type_alias s a) (type_alias_ordered a)
  types_added told (type_item (value_def v)) = (value_ordered (value_defined s.types v), tt {0})
  types_added told (type_item (func_def f)) = (func_ordered (func_defined s.types f), tt {0})
  types_added told (type_item (resource_def d)) = (tt {0}, tt {0})
  types_added told (type_item (instance_def ds)) = (type_ordered s told ds, tt {0})
  types_added told (canon_item t) = tt {0}
  types_added told (import_item i) = tt {0}
  types_added told (export_item e) = tt {0}

  member_ordered : (sort : InstanceExportSort) (i : ℕ) → IfSome (member_at s sort i) IsMemberOrdered
  member_ordered member_sort.Func i = mapped_any IsMemberOrdered func_member (λ f. tt {0}) (slice_get s.funcs i)
  member_ordered member_sort.Type i = then_map IsOrdered IsMemberOrdered type_member (λ t k. k) (slice_get s.types i) (got_there IsOrdered s.types i h.types)

  inline_ordered : (e : InlineExport) → AreMembersOrdered (named_member s e)
  inline_ordered e =
      to_list (λ m. IsMemberOrdered m.def) (option_map (λ d. record { name = e.name; def = d }) (member_at s e.sort e.index))
      (then_map IsMemberOrdered (λ m. IsMemberOrdered m.def) (λ d. record { name = e.name; def = d }) (λ d k. k) (member_at s e.sort e.index) (member_ordered e.sort e.index))

  abbrev IsExportOrdered : ExportDef → Type 0
  IsExportOrdered (exported_func f) = Unit {0}
  IsExportOrdered (exported_instance ms) = AreMembersOrdered ms

  exported_ordered : (sort : ExportSort) (i : ℕ) → IfSome (exported s sort i) IsExportOrdered
  exported_ordered export_sort.Func i = mapped_any IsExportOrdered exported_func (λ f. tt {0}) (slice_get s.funcs i)
  exported_ordered export_sort.Instance i = then_map AreMembersOrdered IsExportOrdered exported_instance (λ ms k. k) (slice_get s.instances i) (got_there AreMembersOrdered s.instances i h.instances)

  instance_ordered : (d : ExportDef) → IsExportOrdered d → IfSome (instance_exported d) AreMembersOrdered
  instance_ordered (exported_func f) k = tt {0}
  instance_ordered (exported_instance ms) k = k

  instances_added : (x : Item) → AllByRecursion AreMembersOrdered (new_instances s x)
  instances_added core_module_item = tt {0}
  instances_added (core_instance_item i) = tt {0}
  instances_added (instance_item es) = (all_flat (λ m. IsMemberOrdered m.def) (named_member s) inline_ordered es, tt {0})
  instances_added (alias_item a) = tt {0}
  instances_added (type_item d) = tt {0}
  instances_added (canon_item t) = tt {0}
  instances_added (import_item i) =
      to_list AreMembersOrdered (option_map (members_imported s) (imported_instance s i.desc))
      (mapped_any AreMembersOrdered (members_imported s) (λ t. imported_members t (next_resource s) (next_import s) 0 t.items) (imported_instance s i.desc))
  instances_added (export_item e) =
      to_list AreMembersOrdered (option_and_then instance_exported (exported s e.sort e.index))
      (and_then IsExportOrdered AreMembersOrdered instance_exported instance_ordered (exported s e.sort e.index) (exported_ordered e.sort e.index))

  -- an import
  abbrev IsKnown : InstanceTy → Type 0
  IsKnown t = AreInOrder t.first t.items × IsInstanceCounted (next_resource s) t

  instance_known : (d : TypeDef) → IsOrdered d → IsDefCounted (next_resource s) d → IfSome (instance_ty_in d) IsKnown
  instance_known (value t) k l = tt {0}
  instance_known (func_type f) k l = tt {0}
  instance_known (resource n) k l = tt {0}
  instance_known (instance_type t) k l = (k, l)
  instance_known faulty k l = tt {0}

  abbrev resources_with : Option InstanceTy → List ResourceDef
  resources_with o = s.resources ++ option_map_or (λ t. brought_from (next_import s) 0 t.items) o []

  func_imported : (name : List ℕ) (all : List ResourceDef) (o : Option FuncTy)
      → AllFrom (ImportInOrder all) (length s.imports) (option_to_list (option_map (λ d. record { name = name; desc = d }) (option_map extern.func o)))
  func_imported name all None = tt {0}
  func_imported name all (Some f) = (tt {0}, tt {0})

  instance_imported : Ranged → (name : List ℕ) (o : Option InstanceTy) → IfSome o IsKnown
      → AllFrom (ImportInOrder (resources_with o)) (length s.imports)
      (option_to_list (option_map (λ d. record { name = name; desc = d }) (option_map (λ t. extern.instance (map (moved_named s t) t.items)) o)))
  instance_imported ranged name None k = tt {0}
  instance_imported ranged name (Some t) k =
      let order : AreInOrder (t.first + 0) t.items = subst (λ n. AreInOrder n t.items) (omega arith) k.0 in (
        record {
          ty = t;
          owns = k.1.fresh;
          next = next_resource s;
          are_of_type = ranged t (next_resource s) t.items k.1.items;
          in_order = subst (λ n. AreInOrder n (map (moved_named s t) t.items)) (omega arith) (order_moved t (next_resource s) k.1.known 0 t.items order);
          brought = are_brought t (next_resource s) k.1.known (next_import s) 0 t.items 0 s.resources (omega arith) order;
        },
        tt {0},
      )

  import_added : Ranged → AreSpacesCounted s → (name : List ℕ) (d : ExternDesc)
      → AllFrom (ImportInOrder (resources_with (imported_instance s d))) (length s.imports) (option_to_list (option_map (λ e. record { name = name; desc = e }) (import_desc s d)))
  import_added ranged c name (desc.Func i) = func_imported name (resources_with (imported_instance s (desc.Func i))) (imported_func s (desc.Func i))
  import_added ranged c name (desc.Instance i) = instance_imported ranged name (imported_instance s (desc.Instance i)) (known (slice_get s.types i) (got_there IsOrdered s.types i h.types) (got_there (IsDefCounted (next_resource s)) s.types i c.types))
    where
      known : (o : Option TypeDef) → IfSome o IsOrdered → IfSome o (IsDefCounted (next_resource s)) → IfSome (option_and_then instance_ty_in o) IsKnown
      known None k l = tt {0}
      known (Some d) k l = instance_known d k l

  imports_added : Ranged → AreSpacesCounted s → (x : Item) → AllFrom (ImportInOrder (s.resources ++ new_resources s x)) (length s.imports) (new_imports s x)
  imports_added ranged c core_module_item = tt {0}
  imports_added ranged c (core_instance_item i) = tt {0}
  imports_added ranged c (instance_item es) = tt {0}
  imports_added ranged c (alias_item a) = tt {0}
  imports_added ranged c (type_item d) = tt {0}
  imports_added ranged c (canon_item t) = tt {0}
  imports_added ranged c (import_item i) = import_added ranged c i.name i.desc
  imports_added ranged c (export_item e) = tt {0}

item_ordered : Ranged → (s : Spaces) (x : Item) → AreSpacesCounted s → ((y : Item) → AreSpacesCounted (after_item s y)) → Ordered s → Ordered (after_item s x)
item_ordered ranged s x c told h =
    let all = s.resources ++ new_resources s x in
    record {
      types = all_both IsOrdered s.types (new_types s x) h.types (types_added s h told x);
      instances = all_both AreMembersOrdered s.instances (new_instances s x) h.instances (instances_added s h x);
      imports = from_joined (ImportInOrder all) 0 s.imports (new_imports s x)
          (from_weaker (ImportInOrder s.resources) (ImportInOrder all) (λ n y. import_grows s.resources (new_resources s x) n y.desc) 0 s.imports h.imports)
          (subst (λ n. AllFrom (ImportInOrder all) n (new_imports s x)) (omega arith) (imports_added s h ranged c x));
    }

-- ---- after all items

module _ (counted : (front : List Item) → AreSpacesCounted (after_items empty_spaces front)) (ranged : Ranged) where
  items_ordered : (front rest : List Item) → Ordered (after_items empty_spaces front) → Ordered (after_items empty_spaces (front ++ rest))
  items_ordered front [] h = subst (λ l. Ordered (after_items empty_spaces l)) (sym (nil_right front)) h
  items_ordered front (x ∷ rest) h =
      let s = after_items empty_spaces front in
      let told : (y : Item) → AreSpacesCounted (after_item s y) = λ y. subst AreSpacesCounted (after_both empty_spaces front (y ∷ [])) (counted (front ++ y ∷ [])) in
      let next : Ordered (after_item s x) = item_ordered ranged s x (counted front) told h in
      subst (λ l. Ordered (after_items empty_spaces l)) (append_assoc front (x ∷ []) rest)
      (items_ordered (front ++ x ∷ []) rest (subst Ordered (sym (after_both empty_spaces front (x ∷ []))) next))

  pub before_all : (front : List Item) (import : ℕ) (x : NamedExtern) (items : List NamedItem) → slice_get (after_items empty_spaces front).imports import ≡ Some x
      → x.desc ≡ extern.instance items → BringsInOrder (after_items empty_spaces front).resources import items
  before_all front import x items there is =
      let none : Ordered empty_spaces = record { types = tt {0}; instances = tt {0}; imports = tt {0} } in
      let s = after_items empty_spaces front in
      let h : Ordered s = items_ordered [] front none in
      let k : ImportsInOrder s.resources (0 + import) x.desc = from_at (ImportInOrder s.resources) 0 s.imports h.imports import x there in
      subst (λ n. BringsInOrder s.resources n items) (omega arith) (subst (ImportsInOrder s.resources (0 + import)) is k)

  pub whole : (sections : List SectionTree) (import : ℕ) (x : NamedExtern) (items : List NamedItem) → slice_get (spaces_of sections).imports import ≡ Some x
      → x.desc ≡ extern.instance items → BringsInOrder (spaces_of sections).resources import items
  whole sections = before_all (all_items sections)
