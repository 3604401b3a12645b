-- Imports: what they break, and the spaces after them.
use Rattle.std.proofs.Common.{◌≡◌, ℕ, ◌+◌, true, List, [], ◌∷◌, ◌++◌, length, map, Option, Some, None, refl, sym, ap, ◌∙◌, subst, append_assoc, not}
use Rattle.std.proofs.lemmas.Option.{slice_get-map}
use Rattle.std.specs.List.{slice_get}
use Rattle.std.specs.Prelude.{option_to_list, is_none, is_some}
use Rattle.std.specs.Option.{option_map, option_map_or, option_and_then}
use Rattle.std.specs.declared.alloc.Global.{Global}
use Rattle.std.specs.declared.rc.Rc.{Rc}
use Rattle.cm_types.specs.Types.{Ty, FuncTy}
use Rattle.cm_types.specs.Signatures.{NamedItem, NamedExtern}
use Rattle.cm_types.specs.Signatures as externs
use Rattle.cm_binary_model.specs.declared.externs.ExternDesc.TheVariants as desc
use Rattle.cm_types_arena.specs.declared.moves.Move.{Move}
use Rattle.cm_types_arena.specs.Placed.{is_there, moved_by, placed_func}
use Rattle.cm_types_arena.specs.Instances.{are_items_there, items_of, replaced_item}
use Rattle.cm_types_arena.specs.declared.instances.InstanceType.{InstanceType}
use Rattle.cm_types_arena.specs.declared.placed.Placed.{Placed}
use Rattle.cm_types_arena.specs.Externs.{extern_of, is_extern_there}
use Rattle.cm_validate_types.specs.Entries.{def_of, entry_sort, instance_of, is_entry_there}
use Rattle.cm_validate_types.specs.Settled.{AreItemsSettled, IsEntrySettled}
use Rattle.cm_validate_types.specs.declared.entries.TypeEntry.{TypeEntry}
use Rattle.cm_validate_types.specs.declared.entries.TypeEntry.TheVariants as entry
use Rattle.cm_validate_entries.specs.declared.spaces.ExportEntry.{ExportEntry}
use Rattle.cm_types_arena.specs.declared.externs.Extern.{Extern}
use Rattle.cm_types_arena.specs.declared.externs.ExternDesc.TheVariants as extern
use Rattle.cm_validate_model.specs.declared.fault.ValidReason.{ValidReason}
use Rattle.cm_validate_model.specs.Definitions.{InstanceTy, TypeDef, NamedMember, brought, imported, sorts_of}
use Rattle.cm_validate_model.specs.Items.{Item, import_item}
use Rattle.cm_validate_model.specs.declared.fault.ValidReason.TheVariants as reason
use Rattle.cm_validate_model.specs.Reasons.{found, index_broken, least, lesser, unless}
use Rattle.cm_validate_model.specs.Rules.{broken, func_name_broken, instance_name_broken, name_broken, type_index_broken}
use Rattle.cm_validate_model.specs.Spaces.{Spaces, after_item, after_items, brought_from, empty_spaces, func_ty_in, instance_ty_in, imported_func, imported_instance, members_from, members_imported, moved_named, new_funcs, new_imports, new_instances, new_resources, next_import, next_resource}
use Rattle.cm_validate_model.specs.Moves.{moved_item}
use Rattle.cm_validate_model.specs.TypeRules.{has_sort}
use Rattle.cm_validate_model.specs.declared.sorts.TypeSort.{TypeSort}
use Rattle.cm_validate_model.specs.declared.sorts.TypeSort.TheVariants as sort
use Rattle.cm_validate_model.specs.CountedSpaces.{AreItemsCounted, AreSpacesCounted, IsDefCounted, IsInstanceCounted}
use Rattle.cm_validate_core.specs.NameSets.{known_broken}
use Rattle.cm_validate_entries.specs.Entries.{func_def, members_of, is_func_there, are_members_there, item_members}
use Rattle.cm_validate_items.specs.InstanceTypes.{instance_type_of}
use Rattle.cm_validate_items.specs.Items.{fresh_of}
use Rattle.cm_validate_items.specs.Resources.{resources_in}
use Rattle.cm_validate_entries.specs.ComponentSpaces.{AreTypesOf, IsComponentOf, after_answer, export_def, is_exported_there}
use Rattle.cm_validate_entries.specs.Steps.{AddsImport, PushesFunc, PushesInstance}
use Rattle.cm_validate_entries.specs.declared.entries.FuncEntry.TheVariants as func
use Rattle.cm_validate_entries.specs.declared.entries.InstanceEntry.{InstanceEntry}
use Rattle.cm_validate_entries.specs.declared.entries.InstanceEntry.TheVariants as instance
use Rattle.cm_validate_items.specs.declared.items.InstanceItems.{InstanceItems}
use Rattle.cm_validate_items.specs.declared.ranges.Resources.{Resources}
use Rattle.cm_validate_entries.specs.declared.spaces.ComponentSpaces.{ComponentSpaces}
use Rattle.cm_validate_entries.proofs.MoveLaws.{Laws, all_brought, items_told, members_told}
use Rattle.cm_validate_entries.proofs.StepLaws.{all_more, all_same, grown, known_after, known_same, mapped_more, mapped_same, none_more}
use Rattle.cm_validate_model.proofs.SharedLaws.{LeastOfBoth}
use Rattle.cm_lemmas.proofs.Lists.{all_found, got_at, map_length}
use Rattle.cm_lemmas.proofs.Bools.{both_left}
use Rattle.cm_validate_types.proofs.ScopeLaws.{sorts_told}

-- ---- reasons

abbrev pub AreCounted : Type 0
AreCounted = (front : List Item) → AreSpacesCounted (after_items empty_spaces front)

-- where there is a reason, the spaces stay
pub stays : (P : Spaces → Type 0) (r : Option ValidReason) (s : Spaces) (x : Item) → is_some r ≡ true → P s → P (after_answer r s x)
stays P None s x e p = absurd cc
stays P (Some q) s x e p = p

pub sorts_are : (types : List Ty) (funcs : List FuncTy) (es : List TypeEntry) (s : Spaces) → AreTypesOf types funcs es s → sorts_of s.types ≡ map entry_sort es
sorts_are types funcs es s t = ap sorts_of t.types_are ∙ sorts_told types funcs es

-- an index that names a type of the sort breaks nothing
pub right_sort : (wanted : TypeSort) (es : List TypeEntry) (i : ℕ) (e : TypeEntry) → slice_get es i ≡ Some e → has_sort wanted (entry_sort e) ≡ true → None ≡ least (index_broken (has_sort wanted) (map entry_sort es) i)
right_sort wanted es i e is fits =
    sym (ap (λ o. least (found (λ d. unless (has_sort wanted d) reason.WrongSort) o)) (slice_get-map entry_sort es i ∙ ap (option_map entry_sort) is)
    ∙ ap (λ b. least (unless b reason.WrongSort)) fits)

module _ (both : LeastOfBoth) (types : List Ty) (funcs : List FuncTy) (c : ComponentSpaces) (s : Spaces) (es : List TypeEntry) (r : IsComponentOf types funcs c s) (t : AreTypesOf types funcs es s) where
  three : (a b : List ValidReason) (d : List ValidReason) → lesser (least a) (least (b ++ d)) ≡ least ((a ++ b) ++ d)
  three a b d = sym (ap least (append_assoc a b d) ∙ both a (b ++ d))

  pub func_fault : (i : ℕ) (name : List ℕ) (a b : Option ValidReason)
      → a ≡ least (index_broken (has_sort sort.Func) (map entry_sort es) i) → b ≡ least (func_name_broken name ++ known_broken name c.import_names)
      → lesser a b ≡ least (broken s (import_item (record { name = name; desc = desc.Func i })))
  func_fault i name a b e f =
      ap (λ v. lesser v b) (e ∙ ap (λ v. least (index_broken (has_sort sort.Func) v i)) (sym (sorts_are types funcs es s t)))
      ∙ ap (lesser (least (type_index_broken s (has_sort sort.Func) i))) (f ∙ ap (λ b. least (func_name_broken name ++ unless (not b) reason.DuplicateName)) (r.import_names name))
      ∙ three (type_index_broken s (has_sort sort.Func) i) (func_name_broken name) (name_broken name (map (λ (x : NamedExtern). x.name) s.imports))

  pub instance_fault : (i : ℕ) (name : List ℕ) (a b : Option ValidReason)
      → a ≡ least (index_broken (has_sort sort.Instance) (map entry_sort es) i) → b ≡ least (instance_name_broken name ++ known_broken name c.import_names)
      → lesser a b ≡ least (broken s (import_item (record { name = name; desc = desc.Instance i })))
  instance_fault i name a b e f =
      ap (λ v. lesser v b) (e ∙ ap (λ v. least (index_broken (has_sort sort.Instance) v i)) (sym (sorts_are types funcs es s t)))
      ∙ ap (lesser (least (type_index_broken s (has_sort sort.Instance) i))) (f ∙ ap (λ b. least (instance_name_broken name ++ unless (not b) reason.DuplicateName)) (r.import_names name))
      ∙ three (type_index_broken s (has_sort sort.Instance) i) (instance_name_broken name) (name_broken name (map (λ (x : NamedExtern). x.name) s.imports))

-- ---- types by index

pub type_at_index : (types : List Ty) (funcs : List FuncTy) (s : Spaces) (es : List TypeEntry) (i : ℕ) (e : TypeEntry) → AreTypesOf types funcs es s → slice_get es i ≡ Some e → slice_get s.types i ≡ Some (def_of types funcs e)
type_at_index types funcs s es i e t is = ap (λ (ts : List TypeDef). slice_get ts i) t.types_are ∙ slice_get-map (def_of types funcs) es i ∙ ap (option_map (def_of types funcs)) is

pub imports_before : (types : List Ty) (funcs : List FuncTy) (c : ComponentSpaces) (s : Spaces) → IsComponentOf types funcs c s → next_import s ≡ length c.imports.items
imports_before types funcs c s r = ap length r.imports_are ∙ map_length (extern_of types funcs) c.imports.items

-- ---- the spaces after an import

module _ (types : List Ty) (funcs : List FuncTy) (old mid new : ComponentSpaces) (s : Spaces) (es : List TypeEntry) (i : ℕ) (name : List ℕ) (r : IsComponentOf types funcs old s) (t : AreTypesOf types funcs es s) where
  -- of a function
  pub func_imported : (p : Placed) → slice_get es i ≡ Some (entry.Func p)
      → PushesFunc (func.Imported (length old.imports.items) None p) old mid → AddsImport (record { name = name; desc = extern.Func p }) name mid new
      → IsComponentOf types funcs new (after_item s (import_item (record { name = name; desc = desc.Func i })))
  func_imported p is a b =
      let x : Item = import_item (record { name = name; desc = desc.Func i }) in
      let at : imported_func s (desc.Func i) ≡ Some (placed_func funcs p) = ap (option_and_then func_ty_in) (type_at_index types funcs s es i (entry.Func p) t is) in
      let now_funcs : new.funcs.items ≡ old.funcs.items ++ func.Imported (length old.imports.items) None p ∷ [] = ap (λ v. v.items) b.funcs ∙ a.pushed in
      let now_imports : new.imports.items ≡ old.imports.items ++ record { name = name; desc = extern.Func p } ∷ [] = b.added ∙ ap (λ v. v.items ++ record { name = name; desc = extern.Func p } ∷ []) a.imports in
      let number : next_import s ≡ length old.imports.items = imports_before types funcs old s r in
      let func_is : new_funcs s x ≡ imported (length old.imports.items) None (placed_func funcs p) ∷ [] =
      ap (λ (o : Option FuncTy). option_to_list (option_map (imported (next_import s) None) o)) at ∙ ap (λ n. imported n None (placed_func funcs p) ∷ []) number in
      let import_is : new_imports s x ≡ record { name = name; desc = externs.func (placed_func funcs p) } ∷ [] = ap (λ (o : Option FuncTy). option_to_list (option_map (λ d. record { name = name; desc = d }) (option_map externs.func o))) at in
      let there : is_there (length funcs) p ≡ true =
      both_left (is_there (length funcs) p) (is_none p.by) (all_found (is_entry_there (length types) (length funcs)) es i (entry.Func p) t.types_there is) in
      grown types funcs old new s x r (record {
        funcs_added = mapped_more (func_def funcs) old.funcs.items new.funcs.items (func.Imported (length old.imports.items) None p) now_funcs ∙ ap (λ v. map (func_def funcs) old.funcs.items ++ v) (sym func_is);
        funcs_there = all_more (is_func_there (length funcs)) old.funcs.items new.funcs.items (func.Imported (length old.imports.items) None p) now_funcs r.funcs_there there;
        instances_added = mapped_same (members_of types funcs) old.instances.items new.instances.items (ap (λ v. v.items) (b.instances ∙ a.instances));
        instances_there = all_same (are_members_there (length types) (length funcs)) old.instances.items new.instances.items (ap (λ v. v.items) (b.instances ∙ a.instances)) r.instances_there;
        resources_added = none_more (resources_in old.resources) (resources_in new.resources) (ap resources_in (b.resources ∙ a.resources));
        imports_added = mapped_more (extern_of types funcs) old.imports.items new.imports.items (record { name = name; desc = extern.Func p }) now_imports ∙ ap (λ v. map (extern_of types funcs) old.imports.items ++ v) (sym import_is);
        import_names_added = known_after old.import_names mid.import_names new.import_names name (map (λ (y : NamedExtern). y.name) (new_imports s x)) a.import_names b.named (ap (map (λ (y : NamedExtern). y.name)) import_is);
        exports_added = mapped_same (export_def types funcs) old.exports.items new.exports.items (ap (λ v. v.items) (b.exports ∙ a.exports));
        export_names_added = known_same old.export_names new.export_names [] (b.export_names ∙ a.export_names) refl;
        imports_there = all_more (λ (e : Extern). is_extern_there (length types) (length funcs) e.desc) old.imports.items new.imports.items (record { name = name; desc = extern.Func p }) now_imports r.imports_there there;
        exports_there = all_same (λ (e : ExportEntry). is_exported_there (length types) (length funcs) e.def) old.exports.items new.exports.items (ap (λ v. v.items) (b.exports ∙ a.exports)) r.exports_there;
      })

-- ---- an instance that is imported

abbrev the_type : List NamedItem → ℕ → ℕ → InstanceTy
the_type items first fresh = record { items = items; first = first; fresh = fresh }

same_type : (items : List NamedItem) (a b first fresh : ℕ) → a ≡ first → b ≡ fresh → the_type items a b ≡ the_type items first fresh
same_type items a b first fresh e f = ap (λ n. the_type items n b) e ∙ ap (the_type items first) f

-- what of an import is known by its move
module _ (laws : Laws) (types : List Ty) (funcs : List FuncTy) (s : Spaces) (t : InstanceType) (by : Move) (first : by.first ≡ t.first) (count : by.count ≡ t.fresh) (next : by.next ≡ next_resource s)
    (counted : AreItemsCounted (t.first + t.fresh) (items_of types funcs t.items.items)) (settled : AreItemsSettled types funcs t.first t.items.items) where
  abbrev the_items : List NamedItem
  the_items = items_of types funcs t.items.items

  abbrev moved_ty : InstanceTy
  moved_ty = the_type the_items by.first by.count

  type_is : moved_ty ≡ instance_of types funcs t
  type_is = same_type the_items by.first by.count t.first t.fresh first count

  counted_so : AreItemsCounted (by.first + by.count) the_items
  counted_so = subst (λ n. AreItemsCounted n the_items) (sym (ap (λ n. n + by.count) first ∙ ap (λ n. t.first + n) count)) counted

  settled_so : AreItemsSettled types funcs by.first t.items.items
  settled_so = subst (λ n. AreItemsSettled types funcs n t.items.items) (sym first) settled

  pub members_are : (import : ℕ) → import ≡ next_import s → members_imported s (instance_of types funcs t) ≡ item_members types funcs import by 0 t.items.items
  members_are import e =
      ap (members_imported s) (sym type_is)
      ∙ ap (λ n. members_from moved_ty n (next_import s) 0 the_items) (sym next)
      ∙ ap (λ n. members_from moved_ty by.next n 0 the_items) (sym e)
      ∙ members_told laws types funcs the_items by import 0 t.items.items counted_so settled_so

  pub desc_is : map (moved_named s (instance_of types funcs t)) the_items ≡ map (replaced_item (moved_by (Some by))) the_items
  desc_is =
      ap (λ (i : InstanceTy). map (moved_named s i) the_items) (sym type_is)
      ∙ ap (λ n. map (λ (i : NamedItem). record { name = i.name; desc = moved_item moved_ty n i.desc }) the_items) (sym next)
      ∙ items_told laws types funcs the_items by t.items.items counted_so

-- ---- the spaces after an import of an instance

module _ (laws : Laws) (counts : AreCounted) (types : List Ty) (funcs : List FuncTy) (old mid new : ComponentSpaces) (brings : Resources) (s : Spaces) (es : List TypeEntry) (i : ℕ) (name : List ℕ)
    (r : IsComponentOf types funcs old s) (t : AreTypesOf types funcs es s)
    (items held : Rc InstanceItems Global) (same : held.value ≡ items.value) (by : Move) (is : slice_get es i ≡ Some (entry.Instance items)) where
  abbrev it : InstanceType
  it = instance_type_of items.value

  abbrev pub added_instance : InstanceEntry
  added_instance = instance.Imported (length old.imports.items) held by

  abbrev pub added_import : Rc InstanceType Global → Extern
  added_import ty = record { name = name; desc = extern.Instance ty (Some by) }

  spaces_counted : AreSpacesCounted s
  spaces_counted = subst AreSpacesCounted (sym r.reached.1) (counts r.reached.0)

  type_counted : IsInstanceCounted (next_resource s) (instance_of types funcs it)
  type_counted = got_at (IsDefCounted (next_resource s)) s.types i (def_of types funcs (entry.Instance items)) spaces_counted.types (type_at_index types funcs s es i (entry.Instance items) t is)

  pub instance_imported : (ty : Rc InstanceType Global) → ty.value ≡ it → by.first ≡ it.first → by.count ≡ it.fresh → by.next ≡ length (resources_in old.resources)
      → PushesInstance added_instance old mid → resources_in brings ≡ resources_in mid.resources ++ map (brought (length old.imports.items)) (fresh_of it)
      → AddsImport (added_import ty) name (record mid { resources = brings }) new
      → IsComponentOf types funcs new (after_item s (import_item (record { name = name; desc = desc.Instance i })))
  instance_imported ty shared first count next a brought_is b =
      let x : Item = import_item (record { name = name; desc = desc.Instance i }) in
      let I : InstanceTy = instance_of types funcs it in
      let at : imported_instance s (desc.Instance i) ≡ Some I = ap (option_and_then instance_ty_in) (type_at_index types funcs s es i (entry.Instance items) t is) in
      let number : next_import s ≡ length old.imports.items = imports_before types funcs old s r in
      let resources_next : by.next ≡ next_resource s = next ∙ sym (ap length r.resources_are) in
      let settled : AreItemsSettled types funcs it.first it.items.items = got_at (IsEntrySettled types funcs) es i (entry.Instance items) t.settled is in
      let now_instances : new.instances.items ≡ old.instances.items ++ added_instance ∷ [] = ap (λ v. v.items) b.instances ∙ a.pushed in
      let now_imports : new.imports.items ≡ old.imports.items ++ added_import ty ∷ [] = b.added ∙ ap (λ v. v.items ++ added_import ty ∷ []) a.imports in
      let instance_is : new_instances s x ≡ members_of types funcs added_instance ∷ [] =
      ap (λ (o : Option InstanceTy). option_to_list (option_map (members_imported s) o)) at
      ∙ ap (λ (ms : List NamedMember). ms ∷ []) (members_are laws types funcs s it by first count resources_next type_counted.items settled (length old.imports.items) (sym number))
      ∙ ap (λ (v : InstanceItems). item_members types funcs (length old.imports.items) by 0 (instance_type_of v).items.items ∷ []) (sym same) in
      let there : are_members_there (length types) (length funcs) added_instance ≡ true =
      ap (λ (v : InstanceItems). are_items_there (length types) (length funcs) (instance_type_of v).items.items) same ∙ all_found (is_entry_there (length types) (length funcs)) es i (entry.Instance items) t.types_there is in
      let import_is : new_imports s x ≡ extern_of types funcs (added_import ty) ∷ [] =
      ap (λ (o : Option InstanceTy). option_to_list (option_map (λ d. record { name = name; desc = d }) (option_map (λ (v : InstanceTy). externs.instance (map (moved_named s v) v.items)) o))) at
      ∙ ap (λ (is : List NamedItem). record { name = name; desc = externs.instance is } ∷ []) (desc_is laws types funcs s it by first count resources_next type_counted.items settled)
      ∙ ap (λ (v : InstanceType). record { name = name; desc = externs.instance (map (replaced_item (moved_by (Some by))) (items_of types funcs v.items.items)) } ∷ []) (sym shared) in
      let resources_are : new_resources s x ≡ map (brought (length old.imports.items)) (fresh_of it) =
      ap (λ (o : Option InstanceTy). option_map_or (λ v. brought_from (next_import s) 0 v.items) o []) at
      ∙ ap (λ n. brought_from n 0 (items_of types funcs it.items.items)) number
      ∙ all_brought types funcs (length old.imports.items) 0 it.items.items in
      grown types funcs old new s x r (record {
        funcs_added = mapped_same (func_def funcs) old.funcs.items new.funcs.items (ap (λ v. v.items) (b.funcs ∙ a.funcs));
        funcs_there = all_same (is_func_there (length funcs)) old.funcs.items new.funcs.items (ap (λ v. v.items) (b.funcs ∙ a.funcs)) r.funcs_there;
        instances_added = mapped_more (members_of types funcs) old.instances.items new.instances.items added_instance now_instances ∙ ap (λ v. map (members_of types funcs) old.instances.items ++ v) (sym instance_is);
        instances_there = all_more (are_members_there (length types) (length funcs)) old.instances.items new.instances.items added_instance now_instances r.instances_there there;
        resources_added = ap resources_in b.resources ∙ brought_is ∙ ap (λ v. resources_in v ++ map (brought (length old.imports.items)) (fresh_of it)) a.resources ∙ ap (λ v. resources_in old.resources ++ v) (sym resources_are);
        imports_added = mapped_more (extern_of types funcs) old.imports.items new.imports.items (added_import ty) now_imports ∙ ap (λ v. map (extern_of types funcs) old.imports.items ++ v) (sym import_is);
        import_names_added = known_after old.import_names mid.import_names new.import_names name (map (λ (y : NamedExtern). y.name) (new_imports s x)) a.import_names b.named (ap (map (λ (y : NamedExtern). y.name)) import_is);
        exports_added = mapped_same (export_def types funcs) old.exports.items new.exports.items (ap (λ v. v.items) (b.exports ∙ a.exports));
        export_names_added = known_same old.export_names new.export_names [] (b.export_names ∙ a.export_names) refl;
        imports_there = all_more (λ (e : Extern). is_extern_there (length types) (length funcs) e.desc) old.imports.items new.imports.items (added_import ty) now_imports r.imports_there (ap (λ (v : InstanceType). are_items_there (length types) (length funcs) v.items.items) shared ∙ all_found (is_entry_there (length types) (length funcs)) es i (entry.Instance items) t.types_there is);
        exports_there = all_same (λ (e : ExportEntry). is_exported_there (length types) (length funcs) e.def) old.exports.items new.exports.items (ap (λ v. v.items) (b.exports ∙ a.exports)) r.exports_there;
      })
