-- Exports: what they break, and the spaces after them.
use Rattle.std.proofs.Common.{◌≡◌, ℕ, true, false, List, [], ◌∷◌, ◌++◌, length, map, Option, Some, None, refl, sym, ap, ◌∙◌, append_assoc, not}
use Rattle.std.proofs.lemmas.Option.{slice_get-map}
use Rattle.std.specs.List.{slice_get}
use Rattle.std.specs.Prelude.{option_to_list, is_some}
use Rattle.std.specs.Option.{option_map, option_and_then}
use Rattle.std.specs.Borrow.{Bor}
use Rattle.cm_types.specs.Types.{Ty, FuncTy}
use Rattle.cm_binary_model.specs.declared.externs.ExportSort.TheVariants as export_sort
use Rattle.cm_types_arena.specs.Externs.{extern_of, is_extern_there}
use Rattle.cm_types_arena.specs.declared.externs.Extern.{Extern}
use Rattle.cm_validate_model.specs.declared.fault.ValidReason.{ValidReason}
use Rattle.cm_validate_model.specs.declared.fault.ValidReason.TheVariants as reason
use Rattle.cm_validate_model.specs.Definitions.{FuncDef, NamedExport, NamedMember, exported_func, exported_instance}
use Rattle.cm_validate_model.specs.Items.{Item, export_item}
use Rattle.cm_validate_model.specs.Reasons.{bare_index_broken, found, least, lesser, unless}
use Rattle.cm_validate_model.specs.Rules.{broken, func_name_broken, instance_name_broken, name_broken}
use Rattle.cm_validate_model.specs.Spaces.{Spaces, after_item, func_exported, instance_exported, new_exports, new_funcs, new_instances}
use Rattle.cm_validate_core.specs.NameSets.{known_broken}
use Rattle.cm_validate_entries.specs.ComponentSpaces.{AnswersAlone, IsComponentOf, export_def, is_exported_there}
use Rattle.cm_validate_entries.specs.Entries.{func_def, members_of, is_func_there, are_members_there}
use Rattle.cm_validate_items.specs.Resources.{resources_in}
use Rattle.cm_validate_entries.specs.Steps.{AddsExport, PushesFunc, PushesInstance}
use Rattle.cm_validate_entries.specs.declared.entries.FuncEntry.{FuncEntry}
use Rattle.cm_validate_entries.specs.declared.entries.InstanceEntry.{InstanceEntry}
use Rattle.cm_validate_entries.specs.declared.spaces.ComponentSpaces.{ComponentSpaces}
use Rattle.cm_validate_entries.specs.declared.spaces.ExportEntry.{ExportEntry}
use Rattle.cm_validate_entries.specs.declared.spaces.ExportedEntry.TheVariants as export
use Rattle.cm_validate_entries.proofs.ImportLaws.{stays}
use Rattle.cm_validate_entries.proofs.StepLaws.{all_more, all_same, grown, known_after, known_same, mapped_more, mapped_same, none_more}
use Rattle.cm_validate_model.proofs.SharedLaws.{LeastOfBoth}
use Rattle.cm_lemmas.proofs.Lists.{all_found}
use Rattle.cm_lemmas.proofs.Options.{is_none}
use Rattle.cm_validate_model.proofs.ReasonsLaws.{lesser_some}

-- what an index that names anything breaks, where only that it names something counts
bare : {A : Type 0} (xs : List A) (i : ℕ) (o : Option A) → slice_get xs i ≡ o → bare_index_broken xs i ≡ found (λ (d : A). []) o
bare xs i o e = ap (found (λ d. [])) e

module _ (both : LeastOfBoth) (i : ℕ) (name : Bor (List ℕ)) (old : ComponentSpaces) where
  abbrev of_func : Item
  of_func = export_item (record { name = name.now; sort = export_sort.Func; index = i })

  abbrev of_instance : Item
  of_instance = export_item (record { name = name.now; sort = export_sort.Instance; index = i })

  three : (a b : List ValidReason) (d : List ValidReason) → lesser (least a) (least (b ++ d)) ≡ least ((a ++ b) ++ d)
  three a b d = sym (ap least (append_assoc a b d) ∙ both a (b ++ d))

  module _ (types : List Ty) (funcs : List FuncTy) (s : Spaces) (r : IsComponentOf types funcs old s) where
    func_at : (o : Option FuncEntry) → slice_get old.funcs.items i ≡ o → slice_get s.funcs i ≡ option_map (func_def funcs) o
    func_at o e = ap (λ (fs : List FuncDef). slice_get fs i) r.funcs_are ∙ slice_get-map (func_def funcs) old.funcs.items i ∙ ap (option_map (func_def funcs)) e

    instance_at : (o : Option InstanceEntry) → slice_get old.instances.items i ≡ o → slice_get s.instances i ≡ option_map (members_of types funcs) o
    instance_at o e = ap (λ (fs : List (List NamedMember)). slice_get fs i) r.instances_are ∙ slice_get-map (members_of types funcs) old.instances.items i ∙ ap (option_map (members_of types funcs)) e

    func_fault : (o : Option FuncEntry) (b : Option ValidReason) → slice_get old.funcs.items i ≡ o → b ≡ least (func_name_broken name.now ++ known_broken name.now old.export_names)
        → lesser (least (found (λ (d : FuncDef). []) (option_map (func_def funcs) o))) b ≡ least (broken s of_func)
    func_fault o b e f =
        ap (λ (p : Option FuncDef). lesser (least (found (λ (d : FuncDef). []) p)) b) (sym (func_at o e))
        ∙ ap (lesser (least (bare_index_broken s.funcs i))) (f ∙ ap (λ b. least (func_name_broken name.now ++ unless (not b) reason.DuplicateName)) (r.export_names name.now))
        ∙ three (bare_index_broken s.funcs i) (func_name_broken name.now) (name_broken name.now (map (λ (x : NamedExport). x.name) s.exports))

    instance_fault : (o : Option InstanceEntry) (b : Option ValidReason) → slice_get old.instances.items i ≡ o → b ≡ least (instance_name_broken name.now ++ known_broken name.now old.export_names)
        → lesser (least (found (λ (d : List NamedMember). []) (option_map (members_of types funcs) o))) b ≡ least (broken s of_instance)
    instance_fault o b e f =
        ap (λ (p : Option (List NamedMember)). lesser (least (found (λ (d : List NamedMember). []) p)) b) (sym (instance_at o e))
        ∙ ap (lesser (least (bare_index_broken s.instances i))) (f ∙ ap (λ b. least (instance_name_broken name.now ++ unless (not b) reason.DuplicateName)) (r.export_names name.now))
        ∙ three (bare_index_broken s.instances i) (instance_name_broken name.now) (name_broken name.now (map (λ (x : NamedExport). x.name) s.exports))

    -- ---- the spaces after an export

    module _ (mid new : ComponentSpaces) where
      abbrev entry_of_func : FuncEntry → ExportEntry
      entry_of_func f = record { name = name; def = export.Func f }

      abbrev entry_of_instance : InstanceEntry → ExportEntry
      entry_of_instance e = record { name = name; def = export.Instance e }

      func_exports : (f : FuncEntry) → slice_get old.funcs.items i ≡ Some f → PushesFunc f old mid → AddsExport (entry_of_func f) name.now mid new → IsComponentOf types funcs new (after_item s of_func)
      func_exports f is a b =
          let at : slice_get s.funcs i ≡ Some (func_def funcs f) = func_at (Some f) is in
          let now_funcs : new.funcs.items ≡ old.funcs.items ++ f ∷ [] = ap (λ v. v.items) b.funcs ∙ a.pushed in
          let now_exports : new.exports.items ≡ old.exports.items ++ entry_of_func f ∷ [] = b.added ∙ ap (λ v. v.items ++ entry_of_func f ∷ []) a.exports in
          let func_is : new_funcs s of_func ≡ func_def funcs f ∷ [] = ap (λ (o : Option FuncDef). option_to_list (option_and_then func_exported (option_map exported_func o))) at in
          let instance_is : new_instances s of_func ≡ [] = ap (λ (o : Option FuncDef). option_to_list (option_and_then instance_exported (option_map exported_func o))) at in
          let export_is : new_exports s of_func ≡ export_def types funcs (entry_of_func f) ∷ [] = ap (λ (o : Option FuncDef). option_to_list (option_map (λ d. record { name = name.now; def = d }) (option_map exported_func o))) at in
          grown types funcs old new s of_func r (record {
            funcs_added = mapped_more (func_def funcs) old.funcs.items new.funcs.items f now_funcs ∙ ap (λ v. map (func_def funcs) old.funcs.items ++ v) (sym func_is);
            funcs_there = all_more (is_func_there (length funcs)) old.funcs.items new.funcs.items f now_funcs r.funcs_there (all_found (is_func_there (length funcs)) old.funcs.items i f r.funcs_there is);
            instances_added = mapped_same (members_of types funcs) old.instances.items new.instances.items (ap (λ v. v.items) (b.instances ∙ a.instances)) ∙ ap (λ v. map (members_of types funcs) old.instances.items ++ v) (sym instance_is);
            instances_there = all_same (are_members_there (length types) (length funcs)) old.instances.items new.instances.items (ap (λ v. v.items) (b.instances ∙ a.instances)) r.instances_there;
            resources_added = none_more (resources_in old.resources) (resources_in new.resources) (ap resources_in (b.resources ∙ a.resources));
            imports_added = mapped_same (extern_of types funcs) old.imports.items new.imports.items (ap (λ v. v.items) (b.imports ∙ a.imports));
            import_names_added = known_same old.import_names new.import_names [] (b.import_names ∙ a.import_names) refl;
            exports_added = mapped_more (export_def types funcs) old.exports.items new.exports.items (entry_of_func f) now_exports ∙ ap (λ v. map (export_def types funcs) old.exports.items ++ v) (sym export_is);
            export_names_added = known_after old.export_names mid.export_names new.export_names name.now (map (λ (y : NamedExport). y.name) (new_exports s of_func)) a.export_names b.named (ap (map (λ (y : NamedExport). y.name)) export_is);
            imports_there = all_same (λ (e : Extern). is_extern_there (length types) (length funcs) e.desc) old.imports.items new.imports.items (ap (λ v. v.items) (b.imports ∙ a.imports)) r.imports_there;
            exports_there = all_more (λ (e : ExportEntry). is_exported_there (length types) (length funcs) e.def) old.exports.items new.exports.items (entry_of_func f) now_exports r.exports_there (all_found (is_func_there (length funcs)) old.funcs.items i f r.funcs_there is);
          })

      instance_exports : (e f g : InstanceEntry) → slice_get old.instances.items i ≡ Some e → members_of types funcs f ≡ members_of types funcs e → members_of types funcs g ≡ members_of types funcs e
          → are_members_there (length types) (length funcs) f ≡ are_members_there (length types) (length funcs) e → are_members_there (length types) (length funcs) g ≡ are_members_there (length types) (length funcs) e
          → PushesInstance f old mid → AddsExport (entry_of_instance g) name.now mid new → IsComponentOf types funcs new (after_item s of_instance)
      instance_exports e f g is same_f same_g there there_g a b =
          let at : slice_get s.instances i ≡ Some (members_of types funcs e) = instance_at (Some e) is in
          let now_instances : new.instances.items ≡ old.instances.items ++ f ∷ [] = ap (λ v. v.items) b.instances ∙ a.pushed in
          let now_exports : new.exports.items ≡ old.exports.items ++ entry_of_instance g ∷ [] = b.added ∙ ap (λ v. v.items ++ entry_of_instance g ∷ []) a.exports in
          let func_is : new_funcs s of_instance ≡ [] = ap (λ (o : Option (List NamedMember)). option_to_list (option_and_then func_exported (option_map exported_instance o))) at in
          let instance_is : new_instances s of_instance ≡ members_of types funcs f ∷ [] = ap (λ (o : Option (List NamedMember)). option_to_list (option_and_then instance_exported (option_map exported_instance o))) at ∙ ap (λ (ms : List NamedMember). ms ∷ []) (sym same_f) in
          let export_is : new_exports s of_instance ≡ export_def types funcs (entry_of_instance g) ∷ [] =
          ap (λ (o : Option (List NamedMember)). option_to_list (option_map (λ d. record { name = name.now; def = d }) (option_map exported_instance o))) at ∙ ap (λ (ms : List NamedMember). record { name = name.now; def = exported_instance ms } ∷ []) (sym same_g) in
          grown types funcs old new s of_instance r (record {
            funcs_added = mapped_same (func_def funcs) old.funcs.items new.funcs.items (ap (λ v. v.items) (b.funcs ∙ a.funcs)) ∙ ap (λ v. map (func_def funcs) old.funcs.items ++ v) (sym func_is);
            funcs_there = all_same (is_func_there (length funcs)) old.funcs.items new.funcs.items (ap (λ v. v.items) (b.funcs ∙ a.funcs)) r.funcs_there;
            instances_added = mapped_more (members_of types funcs) old.instances.items new.instances.items f now_instances ∙ ap (λ v. map (members_of types funcs) old.instances.items ++ v) (sym instance_is);
            instances_there = all_more (are_members_there (length types) (length funcs)) old.instances.items new.instances.items f now_instances r.instances_there (there ∙ all_found (are_members_there (length types) (length funcs)) old.instances.items i e r.instances_there is);
            resources_added = none_more (resources_in old.resources) (resources_in new.resources) (ap resources_in (b.resources ∙ a.resources));
            imports_added = mapped_same (extern_of types funcs) old.imports.items new.imports.items (ap (λ v. v.items) (b.imports ∙ a.imports));
            import_names_added = known_same old.import_names new.import_names [] (b.import_names ∙ a.import_names) refl;
            exports_added = mapped_more (export_def types funcs) old.exports.items new.exports.items (entry_of_instance g) now_exports ∙ ap (λ v. map (export_def types funcs) old.exports.items ++ v) (sym export_is);
            export_names_added = known_after old.export_names mid.export_names new.export_names name.now (map (λ (y : NamedExport). y.name) (new_exports s of_instance)) a.export_names b.named (ap (map (λ (y : NamedExport). y.name)) export_is);
            imports_there = all_same (λ (e : Extern). is_extern_there (length types) (length funcs) e.desc) old.imports.items new.imports.items (ap (λ v. v.items) (b.imports ∙ a.imports)) r.imports_there;
            exports_there = all_more (λ (x : ExportEntry). is_exported_there (length types) (length funcs) x.def) old.exports.items new.exports.items (entry_of_instance g) now_exports r.exports_there (there_g ∙ all_found (are_members_there (length types) (length funcs)) old.instances.items i e r.instances_there is);
          })

  -- ---- what calls answer

  module _ (b : Option ValidReason) (f : b ≡ least (func_name_broken name.now ++ known_broken name.now old.export_names)) where
    pub no_func_answer : slice_get old.funcs.items i ≡ None → AnswersAlone of_func old (lesser (Some reason.NoSuchIndex) b) old
    no_func_answer is = record {
      fault = λ types funcs s r. func_fault types funcs s r None b is f;
      after = λ types funcs s r. stays (IsComponentOf types funcs old) (lesser (Some reason.NoSuchIndex) b) s of_func (lesser_some reason.NoSuchIndex b) r;
    }

    pub func_name_answer : (e : FuncEntry) → slice_get old.funcs.items i ≡ Some e → is_some b ≡ true → AnswersAlone of_func old b old
    func_name_answer e is some = record {
      fault = λ types funcs s r. func_fault types funcs s r (Some e) b is f;
      after = λ types funcs s r. stays (IsComponentOf types funcs old) b s of_func some r;
    }

    pub func_added_answer : (e : FuncEntry) (mid new : ComponentSpaces) → slice_get old.funcs.items i ≡ Some e → is_some b ≡ false → PushesFunc e old mid → AddsExport (record { name = name; def = export.Func e }) name.now mid new
        → AnswersAlone of_func old None new
    func_added_answer e mid new is none a x = record {
      fault = λ types funcs s r. sym (is_none b none) ∙ func_fault types funcs s r (Some e) b is f;
      after = λ types funcs s r. func_exports types funcs s r mid new e is a x;
    }

  module _ (b : Option ValidReason) (f : b ≡ least (instance_name_broken name.now ++ known_broken name.now old.export_names)) where
    pub no_instance_answer : slice_get old.instances.items i ≡ None → AnswersAlone of_instance old (lesser (Some reason.NoSuchIndex) b) old
    no_instance_answer is = record {
      fault = λ types funcs s r. instance_fault types funcs s r None b is f;
      after = λ types funcs s r. stays (IsComponentOf types funcs old) (lesser (Some reason.NoSuchIndex) b) s of_instance (lesser_some reason.NoSuchIndex b) r;
    }

    pub instance_name_answer : (e : InstanceEntry) → slice_get old.instances.items i ≡ Some e → is_some b ≡ true → AnswersAlone of_instance old b old
    instance_name_answer e is some = record {
      fault = λ types funcs s r. instance_fault types funcs s r (Some e) b is f;
      after = λ types funcs s r. stays (IsComponentOf types funcs old) b s of_instance some r;
    }

    pub instance_added_answer : (e g h : InstanceEntry) (mid new : ComponentSpaces) → slice_get old.instances.items i ≡ Some e → is_some b ≡ false
        → ((types : List Ty) (funcs : List FuncTy) → members_of types funcs g ≡ members_of types funcs e) → ((types : List Ty) (funcs : List FuncTy) → members_of types funcs h ≡ members_of types funcs e)
        → ((types funcs : ℕ) → are_members_there types funcs g ≡ are_members_there types funcs e) → ((types funcs : ℕ) → are_members_there types funcs h ≡ are_members_there types funcs e)
        → PushesInstance g old mid → AddsExport (record { name = name; def = export.Instance h }) name.now mid new
        → AnswersAlone of_instance old None new
    instance_added_answer e g h mid new is none same_g same_h there there_h a x = record {
      fault = λ types funcs s r. sym (is_none b none) ∙ instance_fault types funcs s r (Some e) b is f;
      after = λ types funcs s r. instance_exports types funcs s r mid new e g h is (same_g types funcs) (same_h types funcs) (there (length types) (length funcs)) (there_h (length types) (length funcs)) a x;
    }
