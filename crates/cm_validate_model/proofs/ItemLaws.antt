-- Each function of a component is one that an item adds.
use Rattle.std.proofs.Common.{◌≡◌, ◌∙◌, ℕ, zero, suc, ◌+◌, List, [], ◌∷◌, ◌++◌, Option, Some, None, Bool, true, false, refl, ap, sym, subst, arith}
use Rattle.std.specs.Prelude.{IfSome, slice_get, option_to_list, if◌then◌else◌, ⊤}
use Rattle.std.specs.List.{AllByRecursion, flat_map}
use Rattle.std.specs.Option.{option_map, option_and_then}
use Rattle.std.specs.Str.{bytes_eq}
use Rattle.std.proofs.lemmas.List.{append_assoc}
use Rattle.cm_types.specs.Types.{FuncTy}
use Rattle.cm_types.specs.Signatures.{ItemTy, NamedItem, func_item, equal_type, equal_resource, fresh_resource}
use Rattle.cm_binary_model.specs.Trees.{AliasTree, CanonTree, CoreExportTree, CoreInstanceTree, SectionTree, instance_export, outer_type, core_instance_export, lift, lower, resource_new, resource_drop, resource_rep, instantiate, core_exports}
use Rattle.cm_binary_model.specs.declared.canons.CanonOption.{CanonOption}
use Rattle.cm_binary_model.specs.declared.externs.Import.{Import}
use Rattle.cm_binary_model.specs.declared.instances.CoreSort.{CoreSort}
use Rattle.cm_binary_model.specs.declared.instances.CoreSort.TheVariants as core_sort
use Rattle.cm_binary_model.specs.declared.instances.InlineExport.{InlineExport}
use Rattle.cm_binary_model.specs.declared.instances.InstanceExportSort.{InstanceExportSort}
use Rattle.cm_binary_model.specs.declared.instances.InstanceExportSort.TheVariants as member_sort
use Rattle.cm_binary_model.specs.declared.externs.ExportSort.{ExportSort}
use Rattle.cm_binary_model.specs.declared.externs.ExportSort.TheVariants as export_sort
use Rattle.cm_validate_model.specs.Definitions.{TypeDef, InstanceTy, FuncDef, lifted, imported, MemberDef, func_member, type_member, NamedMember, ExportDef, exported_func, exported_instance}
use Rattle.cm_validate_model.specs.Definitions.{CoreDef, core_func, table, memory, global, NamedCoreDef, CoreInstanceDef, instantiated, exporting, CoreFuncDef, guest, lowered, making, dropping, reading}
use Rattle.cm_validate_model.specs.Items.{Item, core_module_item, core_instance_item, instance_item, alias_item, type_item, canon_item, import_item, export_item, all_items}
use Rattle.cm_validate_model.specs.Rules.{func_ty_at, resource_at}
use Rattle.cm_validate_model.specs.Spaces.{Spaces, empty_spaces, member_at, named_member, member_named, member_of_item, members_from, next_resource, next_import, func_of_member, member_alias, func_ty_in, imported_func, imported_instance, lifted_func, canon_func, exported, func_exported, instance_exported, members_imported}
use Rattle.cm_validate_model.specs.Spaces.{new_core_instances, new_core_funcs, new_funcs, new_instances, new_exports, after_item, after_items, spaces_of, core_def_at, core_def_named, core_def_of_sort, core_export_in, core_alias, core_func_in, core_instance_of, named_core_def, lower_func, canon_core_func}
use Rattle.cm_validate_model.specs.Sources.{IsAdded, IsCoreAdded, IsItemAt, OfExport, OfFunctions, OfMember, OfMembers, by_drop, by_import, by_item, by_lift, by_lower, by_new, by_rep, of_guest}
use Rattle.cm_validate_model.proofs.ListLemmas.{after_both}
use Rattle.cm_lemmas.proofs.Lists.{all_flat, all_both, got_there, nil_right, to_list}
use Rattle.cm_lemmas.proofs.Options.{and_then, mapped_any, then_map}

-- ---- core definitions, which may be functions

CoreHas : List Item → CoreDef → Type 0
CoreHas is (core_func f) = IsCoreAdded is f
CoreHas is (table e) = ⊤
CoreHas is (memory e) = ⊤
CoreHas is (global e) = ⊤

CoreInstanceHas : List Item → CoreInstanceDef → Type 0
CoreInstanceHas is (instantiated m) = ⊤
CoreInstanceHas is (exporting ds) = AllByRecursion (λ d. CoreHas is d.def) ds

-- that what stands in index spaces is added by items
record Has (is : List Item) (s : Spaces) : Type 0 where
  core_instances : AllByRecursion (CoreInstanceHas is) s.core_instances
  core_funcs : AllByRecursion (IsCoreAdded is) s.core_funcs
  funcs : AllByRecursion (IsAdded is) s.funcs
  instances : AllByRecursion (OfMembers (IsAdded is)) s.instances
  exports : AllByRecursion (λ e. OfExport (IsAdded is) e.def) s.exports

-- what an instance has under a name
by_name : (is : List Item) (d : MemberDef) (o : Option MemberDef) (b : Bool) → OfMember (IsAdded is) d → IfSome o (OfMember (IsAdded is)) → IfSome (if b then Some d else o) (OfMember (IsAdded is))
by_name is d o true k l = k
by_name is d o false k l = l

named : (is : List Item) (ms : List NamedMember) (name : List ℕ) → OfMembers (IsAdded is) ms → IfSome (member_named ms name) (OfMember (IsAdded is))
named is [] name k = tt {0}
named is (m ∷ ms) name k = by_name is m.def (member_named ms name) (bytes_eq m.name name) k.0 (named is ms name k.1)

-- ---- what items add

module _ (is : List Item) (s : Spaces) (h : Has is s) where
  core_at : (sort : CoreSort) (i : ℕ) → IfSome (core_def_at s sort i) (CoreHas is)
  unfolding CoreHas
  core_at core_sort.Func i = then_map (IsCoreAdded is) (CoreHas is) core_func (λ f k. k) (slice_get s.core_funcs i) (got_there (IsCoreAdded is) s.core_funcs i h.core_funcs)
  core_at core_sort.Table i = mapped_any (CoreHas is) table (λ e. tt {0}) (slice_get s.tables i)
  core_at core_sort.Memory i = mapped_any (CoreHas is) memory (λ e. tt {0}) (slice_get s.memories i)
  core_at core_sort.Global i = mapped_any (CoreHas is) global (λ e. tt {0}) (slice_get s.globals i)

  named_core : (e : CoreExportTree) → AllByRecursion (λ d. CoreHas is d.def) (named_core_def s e)
  named_core e =
      to_list (λ d. CoreHas is d.def) (option_map (λ d. record { name = e.name; def = d }) (core_def_at s e.sort e.index))
      (then_map (CoreHas is) (λ d. CoreHas is d.def) (λ d. record { name = e.name; def = d }) (λ d k. k) (core_def_at s e.sort e.index) (core_at e.sort e.index))

  core_instance : (i : CoreInstanceTree) → CoreInstanceHas is (core_instance_of s i)
  unfolding CoreInstanceHas
  core_instance (instantiate m args) = tt {0}
  core_instance (core_exports es) = all_flat (λ d. CoreHas is d.def) (named_core_def s) named_core es

  core_instances_added : (x : Item) → AllByRecursion (CoreInstanceHas is) (new_core_instances s x)
  core_instances_added core_module_item = tt {0}
  core_instances_added (core_instance_item i) = (core_instance i, tt {0})
  core_instances_added (instance_item es) = tt {0}
  core_instances_added (alias_item a) = tt {0}
  core_instances_added (type_item d) = tt {0}
  core_instances_added (canon_item c) = tt {0}
  core_instances_added (import_item i) = tt {0}
  core_instances_added (export_item e) = tt {0}

  -- a core function that an alias names
  by_core_name : (d : CoreDef) (o : Option CoreDef) (b : Bool) → CoreHas is d → IfSome o (CoreHas is) → IfSome (if b then Some d else o) (CoreHas is)
  by_core_name d o true k l = k
  by_core_name d o false k l = l

  core_named : (ds : List NamedCoreDef) (name : List ℕ) → AllByRecursion (λ d. CoreHas is d.def) ds → IfSome (core_def_named ds name) (CoreHas is)
  core_named [] name k = tt {0}
  core_named (d ∷ ds) name k = by_core_name d.def (core_def_named ds name) (bytes_eq d.name name) k.0 (core_named ds name k.1)

  of_module : (sort : CoreSort) (instance : ℕ) (name : List ℕ) → CoreHas is (core_def_of_sort sort (record { instance = instance; name = name }))
  unfolding CoreHas
  of_module core_sort.Func instance name = of_guest (record { instance = instance; name = name })
  of_module core_sort.Table instance name = tt {0}
  of_module core_sort.Memory instance name = tt {0}
  of_module core_sort.Global instance name = tt {0}

  core_exported : (sort : CoreSort) (instance : ℕ) (name : List ℕ) (i : CoreInstanceDef) → CoreInstanceHas is i → IfSome (core_export_in sort instance name i) (CoreHas is)
  unfolding CoreInstanceHas
  core_exported sort instance name (instantiated m) k = of_module sort instance name
  core_exported sort instance name (exporting ds) k = core_named ds name k

  core_aliased : (a : AliasTree) → IfSome (core_alias s a) (CoreHas is)
  core_aliased (core_instance_export sort instance name) =
      and_then (CoreInstanceHas is) (CoreHas is) (core_export_in sort instance name) (core_exported sort instance name)
      (slice_get s.core_instances instance) (got_there (CoreInstanceHas is) s.core_instances instance h.core_instances)
  core_aliased (instance_export sort instance name) = tt {0}
  core_aliased (outer_type o) = tt {0}

  core_func_of : (d : CoreDef) → CoreHas is d → IfSome (core_func_in d) (IsCoreAdded is)
  unfolding CoreHas
  core_func_of (core_func f) k = k
  core_func_of (table e) k = tt {0}
  core_func_of (memory e) k = tt {0}
  core_func_of (global e) k = tt {0}

  -- functions and instances
  aliased_has : (a : AliasTree) → IfSome (member_alias s a) (OfMember (IsAdded is))
  aliased_has (instance_export sort instance name) =
      and_then (OfMembers (IsAdded is)) (OfMember (IsAdded is)) (λ ms. member_named ms name) (λ ms k. named is ms name k)
      (slice_get s.instances instance) (got_there (OfMembers (IsAdded is)) s.instances instance h.instances)
  aliased_has (core_instance_export sort instance name) = tt {0}
  aliased_has (outer_type o) = tt {0}

  func_of : (d : MemberDef) → OfMember (IsAdded is) d → IfSome (func_of_member d) (IsAdded is)
  func_of (func_member f) k = k
  func_of (type_member d) k = tt {0}

  exported_has : (sort : ExportSort) (i : ℕ) → IfSome (exported s sort i) (OfExport (IsAdded is))
  exported_has export_sort.Func i = then_map (IsAdded is) (OfExport (IsAdded is)) exported_func (λ f k. k) (slice_get s.funcs i) (got_there (IsAdded is) s.funcs i h.funcs)
  exported_has export_sort.Instance i =
      then_map (OfMembers (IsAdded is)) (OfExport (IsAdded is)) exported_instance (λ ms k. k) (slice_get s.instances i) (got_there (OfMembers (IsAdded is)) s.instances i h.instances)

  func_of_export : (d : ExportDef) → OfExport (IsAdded is) d → IfSome (func_exported d) (IsAdded is)
  func_of_export (exported_func f) k = k
  func_of_export (exported_instance ms) k = tt {0}

  instance_of_export : (d : ExportDef) → OfExport (IsAdded is) d → IfSome (instance_exported d) (OfMembers (IsAdded is))
  instance_of_export (exported_func f) k = tt {0}
  instance_of_export (exported_instance ms) k = k

  member_has : (sort : InstanceExportSort) (i : ℕ) → IfSome (member_at s sort i) (OfMember (IsAdded is))
  member_has member_sort.Func i = then_map (IsAdded is) (OfMember (IsAdded is)) func_member (λ f k. k) (slice_get s.funcs i) (got_there (IsAdded is) s.funcs i h.funcs)
  member_has member_sort.Type i = mapped_any (OfMember (IsAdded is)) type_member (λ d. tt {0}) (slice_get s.types i)

  inline_has : (e : InlineExport) → OfMembers (IsAdded is) (named_member s e)
  inline_has e =
      to_list (λ m. OfMember (IsAdded is) m.def) (option_map (λ d. record { name = e.name; def = d }) (member_at s e.sort e.index))
      (then_map (OfMember (IsAdded is)) (λ m. OfMember (IsAdded is) m.def) (λ d. record { name = e.name; def = d }) (λ d k. k) (member_at s e.sort e.index) (member_has e.sort e.index))

  exports_added : (x : Item) → AllByRecursion (λ e. OfExport (IsAdded is) e.def) (new_exports s x)
  exports_added core_module_item = tt {0}
  exports_added (core_instance_item i) = tt {0}
  exports_added (instance_item es) = tt {0}
  exports_added (alias_item a) = tt {0}
  exports_added (type_item d) = tt {0}
  exports_added (canon_item c) = tt {0}
  exports_added (import_item i) = tt {0}
  exports_added (export_item e) =
      to_list (λ x. OfExport (IsAdded is) x.def) (option_map (λ d. record { name = e.name; def = d }) (exported s e.sort e.index))
      (then_map (OfExport (IsAdded is)) (λ x. OfExport (IsAdded is) x.def) (λ d. record { name = e.name; def = d }) (λ d k. k) (exported s e.sort e.index) (exported_has e.sort e.index))

  -- what an item adds of its own
  module _ (x : Item) (at : IsItemAt is s x) where
    lower_at : (f : ℕ) (os : List CanonOption) → x ≡ canon_item (lower f os) → (o : Option FuncDef) → slice_get s.funcs f ≡ o → IfSome (option_and_then (lower_func os) o) (IsCoreAdded is)
    lower_at f os e None k = tt {0}
    lower_at f os e (Some (lifted g ty ps)) k = tt {0}
    lower_at f os e (Some (imported import item ty)) k = by_lower s f os import item ty (subst (IsItemAt is s) e at) k

    new_at : (i : ℕ) → x ≡ canon_item (resource_new i) → (o : Option ℕ) → resource_at s i ≡ o → IfSome (option_map making o) (IsCoreAdded is)
    new_at i e None k = tt {0}
    new_at i e (Some n) k = by_new s i n (subst (IsItemAt is s) e at) k

    drop_at : (i : ℕ) → x ≡ canon_item (resource_drop i) → (o : Option ℕ) → resource_at s i ≡ o → IfSome (option_map dropping o) (IsCoreAdded is)
    drop_at i e None k = tt {0}
    drop_at i e (Some n) k = by_drop s i n (subst (IsItemAt is s) e at) k

    rep_at : (i : ℕ) → x ≡ canon_item (resource_rep i) → (o : Option ℕ) → resource_at s i ≡ o → IfSome (option_map reading o) (IsCoreAdded is)
    rep_at i e None k = tt {0}
    rep_at i e (Some n) k = by_rep s i n (subst (IsItemAt is s) e at) k

    core_canon : (c : CanonTree) → x ≡ canon_item c → IfSome (canon_core_func s c) (IsCoreAdded is)
    core_canon (lift f os ty) e = tt {0}
    core_canon (lower f os) e = lower_at f os e (slice_get s.funcs f) refl
    core_canon (resource_new i) e = new_at i e (resource_at s i) refl
    core_canon (resource_drop i) e = drop_at i e (resource_at s i) refl
    core_canon (resource_rep i) e = rep_at i e (resource_at s i) refl

    lift_at : (f : ℕ) (os : List CanonOption) (i : ℕ) → x ≡ canon_item (lift f os i) → (o : Option FuncTy) → func_ty_at s i ≡ o → IfSome (option_map (λ ty. lifted f ty os) o) (IsAdded is)
    lift_at f os i e None k = tt {0}
    lift_at f os i e (Some ty) k = by_lift s f os i ty (subst (IsItemAt is s) e at) k

    lift_of : (f : ℕ) (os : List CanonOption) (i : ℕ) → x ≡ canon_item (lift f os i) → (o : Option TypeDef) → slice_get s.types i ≡ o → IfSome (option_and_then (lifted_func f os) o) (IsAdded is)
    lift_of f os i e None k = tt {0}
    lift_of f os i e (Some d) k = lift_at f os i e (func_ty_in d) (ap (option_and_then func_ty_in) k)

    canon_has : (c : CanonTree) → x ≡ canon_item c → IfSome (canon_func s c) (IsAdded is)
    canon_has (lift f os i) e = lift_of f os i e (slice_get s.types i) refl
    canon_has (lower f os) e = tt {0}
    canon_has (resource_new i) e = tt {0}
    canon_has (resource_drop i) e = tt {0}
    canon_has (resource_rep i) e = tt {0}

    -- an import
    func_at : (i : Import) → x ≡ import_item i → (o : Option FuncTy) → imported_func s i.desc ≡ o → AllByRecursion (IsAdded is) (option_to_list (option_map (imported (next_import s) None) o))
    func_at i e None k = tt {0}
    func_at i e (Some ty) k = (by_import s i ty (subst (IsItemAt is s) e at) k, tt {0})

    item_at : (i : Import) → x ≡ import_item i → (t : InstanceTy) → imported_instance s i.desc ≡ Some t → (n : ℕ) (y : NamedItem) → slice_get t.items n ≡ Some y
        → (d : ItemTy) → y.desc ≡ d → OfMember (IsAdded is) (member_of_item t (next_resource s) (next_import s) n d)
    item_at i e t k n y g (func_item f) d = by_item s i t n y f (subst (IsItemAt is s) e at) k g d
    item_at i e t k n y g (equal_type u) d = tt {0}
    item_at i e t k n y g (equal_resource r) d = tt {0}
    item_at i e t k n y g (fresh_resource r) d = tt {0}

    items_at : (i : Import) → x ≡ import_item i → (t : InstanceTy) → imported_instance s i.desc ≡ Some t → (n : ℕ) (ys : List NamedItem)
        → ((k : ℕ) (y : NamedItem) → slice_get ys k ≡ Some y → slice_get t.items (n + k) ≡ Some y)
        → OfMembers (IsAdded is) (members_from t (next_resource s) (next_import s) n ys)
    items_at i e t k n [] w = tt {0}
    items_at i e t k n (y ∷ ys) w = (
      item_at i e t k n y (subst (λ m. slice_get t.items m ≡ Some y) (omega arith) (w 0 y refl)) y.desc refl,
      items_at i e t k (n + 1) ys (λ m z g. subst (λ l. slice_get t.items l ≡ Some z) (omega arith) (w (suc m) z g)),
    )

    instance_at : (i : Import) → x ≡ import_item i → (o : Option InstanceTy) → imported_instance s i.desc ≡ o
        → AllByRecursion (OfMembers (IsAdded is)) (option_to_list (option_map (members_imported s) o))
    instance_at i e None k = tt {0}
    instance_at i e (Some t) k = (items_at i e t k 0 t.items (λ m z g. subst (λ l. slice_get t.items l ≡ Some z) (omega arith) g), tt {0})

  core_funcs_added : (x : Item) → IsItemAt is s x → AllByRecursion (IsCoreAdded is) (new_core_funcs s x)
  core_funcs_added core_module_item at = tt {0}
  core_funcs_added (core_instance_item i) at = tt {0}
  core_funcs_added (instance_item es) at = tt {0}
  core_funcs_added (alias_item a) at =
      to_list (IsCoreAdded is) (option_and_then core_func_in (core_alias s a))
      (and_then (CoreHas is) (IsCoreAdded is) core_func_in core_func_of (core_alias s a) (core_aliased a))
  core_funcs_added (type_item d) at = tt {0}
  core_funcs_added (canon_item c) at = to_list (IsCoreAdded is) (canon_core_func s c) (core_canon (canon_item c) at c refl)
  core_funcs_added (import_item i) at = tt {0}
  core_funcs_added (export_item e) at = tt {0}

  funcs_added : (x : Item) → IsItemAt is s x → AllByRecursion (IsAdded is) (new_funcs s x)
  funcs_added core_module_item at = tt {0}
  funcs_added (core_instance_item i) at = tt {0}
  funcs_added (instance_item es) at = tt {0}
  funcs_added (alias_item a) at =
      to_list (IsAdded is) (option_and_then func_of_member (member_alias s a))
      (and_then (OfMember (IsAdded is)) (IsAdded is) func_of_member func_of (member_alias s a) (aliased_has a))
  funcs_added (type_item d) at = tt {0}
  funcs_added (canon_item c) at = to_list (IsAdded is) (canon_func s c) (canon_has (canon_item c) at c refl)
  funcs_added (import_item i) at = func_at (import_item i) at i refl (imported_func s i.desc) refl
  funcs_added (export_item e) at =
      to_list (IsAdded is) (option_and_then func_exported (exported s e.sort e.index))
      (and_then (OfExport (IsAdded is)) (IsAdded is) func_exported func_of_export (exported s e.sort e.index) (exported_has e.sort e.index))

  instances_added : (x : Item) → IsItemAt is s x → AllByRecursion (OfMembers (IsAdded is)) (new_instances s x)
  instances_added core_module_item at = tt {0}
  instances_added (core_instance_item i) at = tt {0}
  instances_added (instance_item es) at = (all_flat (λ m. OfMember (IsAdded is) m.def) (named_member s) inline_has es, tt {0})
  instances_added (alias_item a) at = tt {0}
  instances_added (type_item d) at = tt {0}
  instances_added (canon_item c) at = tt {0}
  instances_added (import_item i) at = instance_at (import_item i) at i refl (imported_instance s i.desc) refl
  instances_added (export_item e) at =
      to_list (OfMembers (IsAdded is)) (option_and_then instance_exported (exported s e.sort e.index))
      (and_then (OfExport (IsAdded is)) (OfMembers (IsAdded is)) instance_exported instance_of_export (exported s e.sort e.index) (exported_has e.sort e.index))

item_has : (is : List Item) (s : Spaces) (x : Item) → IsItemAt is s x → Has is s → Has is (after_item s x)
item_has is s x at h =
    record {
      core_instances = all_both (CoreInstanceHas is) s.core_instances (new_core_instances s x) h.core_instances (core_instances_added is s h x);
      core_funcs = all_both (IsCoreAdded is) s.core_funcs (new_core_funcs s x) h.core_funcs (core_funcs_added is s h x at);
      funcs = all_both (IsAdded is) s.funcs (new_funcs s x) h.funcs (funcs_added is s h x at);
      instances = all_both (OfMembers (IsAdded is)) s.instances (new_instances s x) h.instances (instances_added is s h x at);
      exports = all_both (λ d. OfExport (IsAdded is) d.def) s.exports (new_exports s x) h.exports (exports_added is s h x);
    }

-- ---- after all items

items_have : (is front rest : List Item) → is ≡ front ++ rest → Has is (after_items empty_spaces front) → Has is (after_items empty_spaces is)
items_have is front [] e h = subst (λ l. Has is (after_items empty_spaces l)) (sym (e ∙ nil_right front)) h
items_have is front (x ∷ rest) e h =
    let next : Has is (after_item (after_items empty_spaces front) x) = item_has is (after_items empty_spaces front) x (record { front = front; rest = rest; split = e; spaces = refl }) h in
    items_have is (front ++ x ∷ []) rest (e ∙ sym (append_assoc front (x ∷ []) rest)) (subst (Has is) (sym (after_both empty_spaces front (x ∷ []))) next)

pub come_from_items : (sections : List SectionTree) → OfFunctions (IsAdded (all_items sections)) (IsCoreAdded (all_items sections)) (spaces_of sections)
come_from_items sections =
    let none : Has (all_items sections) empty_spaces = record { core_instances = tt {0}; core_funcs = tt {0}; funcs = tt {0}; instances = tt {0}; exports = tt {0} } in
    let h = items_have (all_items sections) [] (all_items sections) refl none in
    record { funcs = h.funcs; instances = h.instances; exports = h.exports; core_funcs = h.core_funcs }
