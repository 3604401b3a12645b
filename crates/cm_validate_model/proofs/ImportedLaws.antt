-- A function that is imported has the type with which it is imported.
use Rattle.std.proofs.Common.{◌≡◌, ◌∙◌, ℕ, List, [], ◌∷◌, ◌++◌, map, Option, Some, None, refl, ap, sym, subst}
use Rattle.std.specs.Prelude.{slice_get, option_to_list}
use Rattle.std.specs.List.{AllByRecursion}
use Rattle.std.specs.Option.{option_map, option_and_then}
use Rattle.cm_types.specs.Types.{FuncTy}
use Rattle.cm_types.specs.Signatures.{ExternTy, NamedExtern, NamedItem, func_item}
use Rattle.cm_types.specs.Signatures as extern
use Rattle.cm_binary_model.specs.Trees.{SectionTree}
use Rattle.cm_binary_model.specs.declared.externs.ExternDesc.{ExternDesc}
use Rattle.cm_binary_model.specs.declared.externs.ExternDesc.TheVariants as desc
use Rattle.cm_binary_model.specs.declared.externs.Import.{Import}
use Rattle.cm_validate_model.specs.Definitions.{InstanceTy, FuncDef, MemberDef, func_member, type_member, ExportDef, exported_func, exported_instance, CoreFuncDef, lifted, imported}
use Rattle.cm_validate_model.specs.Items.{Item, all_items, import_item}
use Rattle.cm_validate_model.specs.Moves.{moved_item, moved_func}
use Rattle.cm_validate_model.specs.Spaces.{Spaces, after_item, after_items, empty_spaces, import_desc, imported_func, imported_instance, moved_named, new_funcs, new_imports, next_import, next_resource, spaces_of}
use Rattle.cm_validate_model.specs.Imported.{IsAsImported, IsLoweredAsImported, func_item_of, wanted_func, wanted_of}
use Rattle.cm_validate_model.specs.Sources.{IsAdded, IsCoreAdded, IsItemAt, OfExport, OfFunctions, OfMember, OfMembers, by_drop, by_import, by_item, by_lift, by_lower, by_new, by_rep, of_guest}
use Rattle.cm_validate_model.proofs.ListLemmas.{all_weaker, at_end, grown_at, stays}
use Rattle.cm_lemmas.proofs.Lists.{get_map, got_at}

-- ---- what is said of functions, wherever they stand

member_weaker : (P Q : FuncDef → Type 0) → ((f : FuncDef) → P f → Q f) → (m : MemberDef) → OfMember P m → OfMember Q m
member_weaker P Q w (func_member f) h = w f h
member_weaker P Q w (type_member t) h = h

export_weaker : (P Q : FuncDef → Type 0) → ((f : FuncDef) → P f → Q f) → (e : ExportDef) → OfExport P e → OfExport Q e
export_weaker P Q w (exported_func f) h = w f h
export_weaker P Q w (exported_instance ms) h = all_weaker (λ m. OfMember P m.def) (λ m. OfMember Q m.def) (λ m. member_weaker P Q w m.def) ms h

pub functions_weaker : (P Q : FuncDef → Type 0) (C D : CoreFuncDef → Type 0) (s : Spaces) → ((f : FuncDef) → P f → Q f) → ((f : CoreFuncDef) → C f → D f)
    → OfFunctions P C s → OfFunctions Q D s
functions_weaker P Q C D s w v h =
    record {
      funcs = all_weaker P Q w s.funcs h.funcs;
      instances = all_weaker (OfMembers P) (OfMembers Q) (λ ms. all_weaker (λ m. OfMember P m.def) (λ m. OfMember Q m.def) (λ m. member_weaker P Q w m.def) ms) s.instances h.instances;
      exports = all_weaker (λ e. OfExport P e.def) (λ e. OfExport Q e.def) (λ e. export_weaker P Q w e.def) s.exports h.exports;
      core_funcs = all_weaker C D v s.core_funcs h.core_funcs;
    }

-- ---- imports

import_of_func : (s : Spaces) (d : ExternDesc) (ty : FuncTy) → imported_func s d ≡ Some ty → import_desc s d ≡ Some (extern.func ty)
import_of_func s (desc.Func i) ty h = ap (option_map extern.func) h
import_of_func s (desc.Instance i) ty h = cc h

import_of_instance : (s : Spaces) (d : ExternDesc) (t : InstanceTy) → imported_instance s d ≡ Some t → import_desc s d ≡ Some (extern.instance (map (moved_named s t) t.items))
import_of_instance s (desc.Func i) t h = cc h
import_of_instance s (desc.Instance i) t h = ap (option_map (λ u. extern.instance (map (moved_named s u) u.items))) h

-- the import that an item adds, after all items
there : (items : List Item) (s : Spaces) (i : Import) (d : ExternTy) → IsItemAt items s (import_item i) → import_desc s i.desc ≡ Some d
    → slice_get (after_items empty_spaces items).imports (next_import s) ≡ Some (record { name = i.name; desc = d })
there items s i d at e =
    let new : new_imports s (import_item i) ≡ record { name = i.name; desc = d } ∷ [] = ap (λ o. option_to_list (option_map (λ d. record { name = i.name; desc = d }) o)) e in
    let m = grown_at (λ (v : Spaces). v.imports) new_imports (λ v x. refl) items s (import_item i) at in
    ap (λ l. slice_get l (next_import s)) (m.1 ∙ ap (λ n. (s.imports ++ n) ++ m.0) new) ∙ at_end s.imports (record { name = i.name; desc = d }) m.0

wanted_at : (t : Spaces) (n : ℕ) (item : Option ℕ) (name : List ℕ) (d : ExternTy) (o : Option FuncTy) → slice_get t.imports n ≡ Some (record { name = name; desc = d }) → wanted_of item d ≡ o
    → wanted_func t n item ≡ o
wanted_at t n item name d o h e = ap (option_and_then (λ i. wanted_of item i.desc)) h ∙ e

item_wanted : (s : Spaces) (t : InstanceTy) (n : ℕ) (x : NamedItem) (f : FuncTy) → slice_get t.items n ≡ Some x → x.desc ≡ func_item f
    → wanted_of (Some n) (extern.instance (map (moved_named s t) t.items)) ≡ Some (moved_func t (next_resource s) f)
item_wanted s t n x f g d =
    ap (option_and_then (λ i. func_item_of i.desc)) (get_map (moved_named s t) t.items n x g)
    ∙ ap (λ w. func_item_of (moved_item t (next_resource s) w)) d

pub as_imported : (items : List Item) (f : FuncDef) → IsAdded items f → IsAsImported (after_items empty_spaces items) f
as_imported items _ (by_lift s f os i ty at e) = tt {0}
as_imported items _ (by_import s i ty at e) =
    wanted_at (after_items empty_spaces items) (next_import s) None i.name (extern.func ty) (Some ty) (there items s i (extern.func ty) at (import_of_func s i.desc ty e)) refl
as_imported items _ (by_item s i t n x f at e g d) =
    wanted_at (after_items empty_spaces items) (next_import s) (Some n) i.name (extern.instance (map (moved_named s t) t.items)) (Some (moved_func t (next_resource s) f))
    (there items s i (extern.instance (map (moved_named s t) t.items)) at (import_of_instance s i.desc t e)) (item_wanted s t n x f g d)

lowered_as_imported : (items : List Item) (funcs : AllByRecursion (IsAdded items) (after_items empty_spaces items).funcs) (f : CoreFuncDef) → IsCoreAdded items f
    → IsLoweredAsImported (after_items empty_spaces items) f
lowered_as_imported items funcs _ (of_guest e) = tt {0}
lowered_as_imported items funcs _ (by_lower s f os import item ty at e) =
    let here = stays (λ (v : Spaces). v.funcs) new_funcs (λ v x. refl) items s _ at f (imported import item ty) e in
    as_imported items (imported import item ty) (got_at (IsAdded items) (after_items empty_spaces items).funcs f (imported import item ty) funcs here)
lowered_as_imported items funcs _ (by_new s i n at e) = tt {0}
lowered_as_imported items funcs _ (by_drop s i n at e) = tt {0}
lowered_as_imported items funcs _ (by_rep s i n at e) = tt {0}

pub all_as_imported : (sections : List SectionTree) → OfFunctions (IsAdded (all_items sections)) (IsCoreAdded (all_items sections)) (spaces_of sections)
    → OfFunctions (IsAsImported (spaces_of sections)) (IsLoweredAsImported (spaces_of sections)) (spaces_of sections)
all_as_imported sections h =
    functions_weaker (IsAdded (all_items sections)) (IsAsImported (spaces_of sections)) (IsCoreAdded (all_items sections)) (IsLoweredAsImported (spaces_of sections)) (spaces_of sections)
    (as_imported (all_items sections)) (lowered_as_imported (all_items sections) h.funcs) h
