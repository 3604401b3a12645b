-- What lifts and lowers of a valid component name is there.
use Rattle.std.proofs.Common.{◌≡◌, ◌∙◌, ◌<◌, ◌+◌, ℕ, List, [], ◌∷◌, ◌++◌, Bool, true, false, Option, Some, None, refl, ap, sym, subst}
use Rattle.std.specs.Prelude.{IfSome, slice_get}
use Rattle.std.specs.Option.{option_map_or}
use Rattle.std.specs.List.{AllByRecursion, flat_map}
use Rattle.cm_types.specs.DefTypes.{value_def, func_def, resource_def, instance_def}
use Rattle.cm_types.specs.Signatures.{ItemTy, NamedItem, func_item, equal_type, equal_resource, fresh_resource}
use Rattle.cm_types.specs.Types.{FuncTy}
use Rattle.cm_binary_model.specs.Trees.{SectionTree, lift, lower, resource_new, resource_drop, resource_rep}
use Rattle.cm_binary_model.specs.declared.canons.CanonOption.{CanonOption}
use Rattle.cm_binary_model.specs.declared.canons.CanonOption.TheVariants as option
use Rattle.cm_validate_model.specs.declared.fault.ValidReason.TheVariants as reason
use Rattle.cm_validate_model.specs.Definitions.{CoreExport, CoreFuncDef, FuncDef, InstanceTy, ResourceDef, brought, defined, guest, imported, lowered, making, dropping, reading, sorts_of}
use Rattle.cm_validate_model.specs.Declarations.{instance_def_broken}
use Rattle.cm_validate_model.specs.Items.{Item, core_module_item, core_instance_item, instance_item, alias_item, type_item, canon_item, import_item, export_item, all_items}
use Rattle.cm_validate_model.specs.Options.{are_once, guest_broken, is_guest, is_only_memory, lift_type_broken, lower_type_broken, memory_broken, no_post_return_broken, option_broken, options_broken}
use Rattle.cm_validate_model.specs.Reasons.{found, if_found, unless}
use Rattle.cm_validate_model.specs.Rules.{broken, func_ty_at, is_defined, is_imported, lowered_broken, own_resource_broken, resource_at, resource_broken, type_index_broken}
use Rattle.cm_validate_model.specs.Spaces.{Spaces, aliased, after_items, brought_by, brought_from, empty_spaces, imported_instance, memory_in, new_core_funcs, new_resources, next_import, next_resource, spaces_of}
use Rattle.cm_validate_model.specs.TypeRules.{has_sort}
use Rattle.cm_validate_model.specs.Valid.{IsValid, IsValidFrom}
use Rattle.cm_validate_model.specs.declared.sorts.TypeSort.TheVariants as sort
use Rattle.cm_validate_model.specs.Named.{AreOptionsThere, IsGuestAt, IsLiftWhole, IsCoreWhole, IsOptionThere, IsOwnResourceAt, IsResourceAt, IsResourceWhole}
use Rattle.cm_validate_model.specs.Sources.{IsAdded, IsCoreAdded, IsItemAt, OfFunctions, by_drop, by_import, by_item, by_lift, by_lower, by_new, by_rep, of_guest}
use Rattle.cm_validate_model.proofs.ImportedLaws.{functions_weaker}
use Rattle.cm_validate_model.specs.CountedSpaces.{AreSpacesCounted, IsDefCounted}
use Rattle.cm_validate_model.proofs.BorrowLaws.{lends_none}
use Rattle.cm_validate_model.proofs.ListLemmas.{stays}
use Rattle.cm_validate_model.proofs.SpaceLaws.{before_all}
use Rattle.cm_validate_model.proofs.Stepping.{holds_after}
use Rattle.cm_validate_model.proofs.TypeLaws.{resource_of_def}
use Rattle.cm_lemmas.proofs.Lists.{all_both, item_there, got_there, nil_front, nil_rest}

-- ---- what breaks no rule

guest_by : (f : CoreFuncDef) → unless (is_guest f) reason.NotGuestFunction ≡ [] → (e : CoreExport) × (f ≡ guest e)
guest_by (guest e) h = (e, refl)
guest_by (lowered import item ty os) h = cc h
guest_by (making n) h = cc h
guest_by (dropping n) h = cc h
guest_by (reading n) h = cc h

guest_in : (o : Option CoreFuncDef) → found (λ f. unless (is_guest f) reason.NotGuestFunction) o ≡ [] → (e : CoreExport) × (o ≡ Some (guest e))
guest_in None h = cc h
guest_in (Some f) h =
    let e = guest_by f h in
    (e.0, ap Some e.1)

guest_at : (s : Spaces) (i : ℕ) → guest_broken s.core_funcs i ≡ [] → IsGuestAt s i
guest_at s i h = guest_in (slice_get s.core_funcs i) h

memory_by : (s : Spaces) (o : Option CoreExport) → found (λ e. unless (is_only_memory s.memory e) reason.SecondMemory) o ≡ [] → (e : CoreExport) × (o ≡ Some e)
memory_by s None h = cc h
memory_by s (Some e) h = (e, refl)

option_at : (s : Spaces) (o : CanonOption) → option_broken s o ≡ [] → IsOptionThere s o
option_at s option.Utf8 h = tt {0}
option_at s option.Utf16 h = tt {0}
option_at s option.Latin1Utf16 h = tt {0}
option_at s (option.Memory i) h = memory_by s (slice_get s.memories i) h
option_at s (option.Realloc i) h = guest_at s i h
option_at s (option.PostReturn i) h = guest_at s i h

options_at : (s : Spaces) (os : List CanonOption) → flat_map (option_broken s) os ≡ [] → AreOptionsThere s os
options_at s [] h = tt {0}
options_at s (o ∷ os) h = (option_at s o (nil_front (option_broken s o) (flat_map (option_broken s) os) h), options_at s os (nil_rest (option_broken s o) (flat_map (option_broken s) os) h))

type_by : (broken : FuncTy → List _) (o : Option FuncTy) (ty : FuncTy) → if_found broken o ≡ [] → o ≡ Some ty → broken ty ≡ []
type_by broken o ty h e = subst (λ v. if_found broken v ≡ []) e h

found_by : {A : Type 0} (broken : A → List _) (o : Option A) (x : A) → found broken o ≡ [] → o ≡ Some x → broken x ≡ []
found_by broken o x h e = subst (λ v. found broken v ≡ []) e h

-- ---- an item of a valid component breaks nothing

pub item_breaks_nothing : (items : List Item) (s : Spaces) (x : Item) → IsValidFrom empty_spaces items → IsItemAt items s x → broken s x ≡ []
item_breaks_nothing items s x valid at = subst (λ v. broken v x ≡ []) at.spaces (valid at.front x at.rest at.split)

-- what is there before an item is there after all
module _ (items : List Item) (s : Spaces) (x : Item) (at : IsItemAt items s x) where
  guest_stays : (i : ℕ) → IsGuestAt s i → IsGuestAt (after_items empty_spaces items) i
  guest_stays i g = (g.0, stays (λ (v : Spaces). v.core_funcs) new_core_funcs (λ v y. refl) items s x at i (guest g.0) g.1)

  option_stays : (o : CanonOption) → IsOptionThere s o → IsOptionThere (after_items empty_spaces items) o
  option_stays option.Utf8 h = h
  option_stays option.Utf16 h = h
  option_stays option.Latin1Utf16 h = h
  option_stays (option.Memory i) h = (h.0, stays (λ (v : Spaces). v.memories) (aliased memory_in) (λ v y. refl) items s x at i h.0 h.1)
  option_stays (option.Realloc i) h = guest_stays i h
  option_stays (option.PostReturn i) h = guest_stays i h

  options_stay : (os : List CanonOption) → AreOptionsThere s os → AreOptionsThere (after_items empty_spaces items) os
  options_stay [] h = tt {0}
  options_stay (o ∷ os) h = (option_stays o h.0, options_stay os h.1)

-- ---- resources

own_by : (r : ResourceDef) → unless (is_defined r) reason.NotOwnResource ≡ [] → (d : Option ℕ) × (r ≡ defined d)
own_by (defined d) h = (d, refl)
own_by (brought import item) h = cc h

brought_whole : (s : Spaces) (import item : ℕ) (d : ItemTy) → AllByRecursion (IsResourceWhole s) (brought_by import item d)
brought_whole s import item (func_item f) = tt {0}
brought_whole s import item (equal_type t) = tt {0}
brought_whole s import item (equal_resource r) = tt {0}
brought_whole s import item (fresh_resource r) = (tt {0}, tt {0})

all_brought_whole : (s : Spaces) (import item : ℕ) (xs : List NamedItem) → AllByRecursion (IsResourceWhole s) (brought_from import item xs)
all_brought_whole s import item [] = tt {0}
all_brought_whole s import item (x ∷ xs) =
    all_both (IsResourceWhole s) (brought_by import item x.desc) (brought_from import (item + 1) xs) (brought_whole s import item x.desc) (all_brought_whole s import (item + 1) xs)

import_whole : (s : Spaces) (import : ℕ) (o : Option InstanceTy) → AllByRecursion (IsResourceWhole s) (option_map_or (λ t. brought_from import 0 t.items) o [])
import_whole s import None = tt {0}
import_whole s import (Some t) = all_brought_whole s import 0 t.items

-- ---- lifts and lowers

module _ (items : List Item) (valid : IsValidFrom empty_spaces items) where
  lift_whole : (f : FuncDef) → IsAdded items f → IsLiftWhole (after_items empty_spaces items) f
  lift_whole _ (by_lift s f os i ty at e) =
      let guest = guest_broken s.core_funcs f in
      let ty_index = type_index_broken s (has_sort sort.Func) i in
      let ty_rules = if_found (lift_type_broken os) (func_ty_at s i) in
      let none : ((guest_broken s.core_funcs f ++ type_index_broken s (has_sort sort.Func) i) ++ options_broken s os) ++ if_found (lift_type_broken os) (func_ty_at s i) ≡ [] =
      item_breaks_nothing items s (canon_item (lift f os i)) valid at in
      let before = nil_front ((guest ++ ty_index) ++ options_broken s os) ty_rules none in
      let options : flat_map (option_broken s) os ++ unless (are_once os) reason.OptionTwice ≡ [] = nil_rest (guest ++ ty_index) (options_broken s os) before in (
        guest_stays items s (canon_item (lift f os i)) at f (guest_at s f (nil_front guest ty_index (nil_front (guest ++ ty_index) (options_broken s os) before))),
        options_stay items s (canon_item (lift f os i)) at os (options_at s os (nil_front (flat_map (option_broken s) os) (unless (are_once os) reason.OptionTwice) options)),
        type_by (lift_type_broken os) (func_ty_at s i) ty (nil_rest ((guest ++ ty_index) ++ options_broken s os) ty_rules none) e,
        lends_none items s (canon_item (lift f os i)) valid at i ty e,
      )
  lift_whole _ (by_import s i ty at e) = tt {0}
  lift_whole _ (by_item s i t n x f at e g d) = tt {0}

  -- resources
  resource_stays : (s : Spaces) (x : Item) → IsItemAt items s x → (n : ℕ) → IsResourceAt s n → IsResourceAt (after_items empty_spaces items) n
  resource_stays s x at n r = (r.0, stays (λ (v : Spaces). v.resources) new_resources (λ v y. refl) items s x at n r.0 r.1)

  own_stays : (s : Spaces) (x : Item) → IsItemAt items s x → (n : ℕ) → IsOwnResourceAt s n → IsOwnResourceAt (after_items empty_spaces items) n
  own_stays s x at n r = (r.0, stays (λ (v : Spaces). v.resources) new_resources (λ v y. refl) items s x at n (defined r.0) r.1)

  there_at : {x : Item} (s : Spaces) (i n : ℕ) → IsItemAt items s x → resource_at s i ≡ Some n → IsResourceAt s n
  there_at s i n at e =
      let counted = subst AreSpacesCounted at.spaces (before_all at.front) in
      let few : IfSome (resource_at s i) (λ k. k < next_resource s) =
      resource_of_def (next_resource s) (slice_get s.types i) (got_there (IsDefCounted (next_resource s)) s.types i counted.types) in
      item_there s.resources n (subst (λ o. IfSome o (λ k. k < next_resource s)) e few)

  own_at : {x : Item} (s : Spaces) (i n : ℕ) → IsItemAt items s x → resource_at s i ≡ Some n → resource_broken s i ++ if_found (own_resource_broken s) (resource_at s i) ≡ [] → IsOwnResourceAt s n
  own_at s i n at e none =
      let r = there_at s i n at e in
      let own : if_found (own_resource_broken s) (Some n) ≡ [] =
      subst (λ o. if_found (own_resource_broken s) o ≡ []) e (nil_rest (resource_broken s i) (if_found (own_resource_broken s) (resource_at s i)) none) in
      let d = own_by r.0 (subst (λ o. if_found (λ r. unless (is_defined r) reason.NotOwnResource) o ≡ []) r.1 own) in
      (d.0, r.1 ∙ ap Some d.1)

  core_whole : (f : CoreFuncDef) → IsCoreAdded items f → IsCoreWhole (after_items empty_spaces items) f
  core_whole _ (of_guest e) = tt {0}
  core_whole _ (by_lower s f os import item ty at e) =
      let func = found (lowered_broken os) (slice_get s.funcs f) in
      let none : (found (lowered_broken os) (slice_get s.funcs f) ++ options_broken s os) ++ no_post_return_broken os ≡ [] =
      item_breaks_nothing items s (canon_item (lower f os)) valid at in
      let before = nil_front (func ++ options_broken s os) (no_post_return_broken os) none in
      let options : flat_map (option_broken s) os ++ unless (are_once os) reason.OptionTwice ≡ [] = nil_rest func (options_broken s os) before in (
        options_stay items s (canon_item (lower f os)) at os (options_at s os (nil_front (flat_map (option_broken s) os) (unless (are_once os) reason.OptionTwice) options)),
        found_by (lowered_broken os) (slice_get s.funcs f) (imported import item ty) (nil_front func (options_broken s os) before) e,
      )
  core_whole _ (by_new s i n at e) = own_stays s (canon_item (resource_new i)) at n (own_at s i n at e (item_breaks_nothing items s (canon_item (resource_new i)) valid at))
  core_whole _ (by_drop s i n at e) = resource_stays s (canon_item (resource_drop i)) at n (there_at s i n at e)
  core_whole _ (by_rep s i n at e) = own_stays s (canon_item (resource_rep i)) at n (own_at s i n at e (item_breaks_nothing items s (canon_item (resource_rep i)) valid at))

  -- ---- destructors

  destructor_whole : (s : Spaces) (d : Option ℕ) → IsItemAt items s (type_item (resource_def d)) → if_found (guest_broken s.core_funcs) d ≡ [] → IsResourceWhole (after_items empty_spaces items) (defined d)
  destructor_whole s None at none = tt {0}
  destructor_whole s (Some f) at none = guest_stays items s (type_item (resource_def (Some f))) at f (guest_at s f none)

  resources_whole : (s : Spaces) (x : Item) → IsItemAt items s x → AllByRecursion (IsResourceWhole (after_items empty_spaces items)) (new_resources s x)
  resources_whole s core_module_item at = tt {0}
  resources_whole s (core_instance_item i) at = tt {0}
  resources_whole s (instance_item es) at = tt {0}
  resources_whole s (alias_item a) at = tt {0}
  resources_whole s (type_item (value_def v)) at = tt {0}
  resources_whole s (type_item (func_def f)) at = tt {0}
  resources_whole s (type_item (resource_def d)) at = (destructor_whole s d at (item_breaks_nothing items s (type_item (resource_def d)) valid at), tt {0})
  resources_whole s (type_item (instance_def ds)) at = tt {0}
  resources_whole s (canon_item c) at = tt {0}
  resources_whole s (import_item i) at = import_whole (after_items empty_spaces items) (next_import s) (imported_instance s i.desc)
  resources_whole s (export_item e) at = tt {0}

  pub all_resources_whole : AllByRecursion (IsResourceWhole (after_items empty_spaces items)) (after_items empty_spaces items).resources
  all_resources_whole =
      holds_after items (λ s. AllByRecursion (IsResourceWhole (after_items empty_spaces items)) s.resources)
      (λ s x at h. all_both (IsResourceWhole (after_items empty_spaces items)) s.resources (new_resources s x) h (resources_whole s x at))
      (tt {0})

pub all_whole : (sections : List SectionTree) → IsValid sections → OfFunctions (IsAdded (all_items sections)) (IsCoreAdded (all_items sections)) (spaces_of sections)
    → OfFunctions (IsLiftWhole (spaces_of sections)) (IsCoreWhole (spaces_of sections)) (spaces_of sections)
all_whole sections valid h =
    functions_weaker (IsAdded (all_items sections)) (IsLiftWhole (spaces_of sections)) (IsCoreAdded (all_items sections)) (IsCoreWhole (spaces_of sections)) (spaces_of sections)
    (lift_whole (all_items sections) valid) (core_whole (all_items sections) valid) h
