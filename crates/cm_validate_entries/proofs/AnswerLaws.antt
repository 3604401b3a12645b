-- What calls answer for imports and exports.
use Rattle.std.proofs.Common.{◌≡◌, ℕ, true, false, List, ◌++◌, length, map, Option, Some, None, refl, sym, ◌∙◌}
use Rattle.std.specs.List.{slice_get}
use Rattle.std.specs.Prelude.{is_some}
use Rattle.cm_types.specs.Types.{Ty, FuncTy}
use Rattle.cm_binary_model.specs.declared.externs.ExternDesc.TheVariants as desc
use Rattle.cm_types_arena.specs.declared.placed.Placed.{Placed}
use Rattle.cm_types_arena.specs.declared.externs.ExternDesc.TheVariants as extern
use Rattle.cm_validate_model.specs.declared.fault.ValidReason.{ValidReason}
use Rattle.cm_validate_model.specs.Items.{Item, import_item}
use Rattle.cm_validate_model.specs.Reasons.{index_broken, least, lesser}
use Rattle.cm_validate_model.specs.Rules.{func_name_broken, instance_name_broken}
use Rattle.cm_validate_model.specs.Spaces.{Spaces, after_item}
use Rattle.cm_validate_model.specs.TypeRules.{has_sort}
use Rattle.cm_validate_model.specs.declared.sorts.TypeSort.TheVariants as sort
use Rattle.cm_validate_core.specs.NameSets.{known_broken}
use Rattle.cm_validate_types.specs.Entries.{entry_sort}
use Rattle.cm_validate_types.specs.declared.entries.TypeEntry.{TypeEntry}
use Rattle.cm_validate_types.specs.declared.entries.TypeEntry.TheVariants as entry
use Rattle.cm_validate_entries.specs.ComponentSpaces.{Answers, AreTypesOf, IsComponentOf}
use Rattle.cm_validate_entries.specs.Steps.{AddsImport, PushesFunc}
use Rattle.cm_validate_entries.specs.declared.entries.FuncEntry.TheVariants as func
use Rattle.cm_validate_items.specs.declared.items.InstanceItems.{InstanceItems}
use Rattle.cm_validate_entries.specs.declared.spaces.ComponentSpaces.{ComponentSpaces}
use Rattle.std.specs.declared.alloc.Global.{Global}
use Rattle.std.specs.declared.rc.Rc.{Rc}
use Rattle.cm_validate_entries.proofs.ImportLaws.{func_fault, func_imported, instance_fault, right_sort, stays}
use Rattle.cm_validate_model.proofs.SharedLaws.{LeastOfBoth}
use Rattle.cm_lemmas.proofs.Options.{is_none}
use Rattle.cm_validate_model.proofs.ReasonsLaws.{lesser_some}

module _ (both : LeastOfBoth) (es : List TypeEntry) (i : ℕ) (name : List ℕ) (old : ComponentSpaces) where
  abbrev import_of_func : Item
  import_of_func = import_item (record { name = name; desc = desc.Func i })

  abbrev import_of_instance : Item
  import_of_instance = import_item (record { name = name; desc = desc.Instance i })

  -- the type is not there, or is of another sort
  pub func_type_answer : (q : ValidReason) (b : Option ValidReason) → Some q ≡ least (index_broken (has_sort sort.Func) (map entry_sort es) i)
      → b ≡ least (func_name_broken name ++ known_broken name old.import_names) → Answers es import_of_func old (lesser (Some q) b) old
  func_type_answer q b e f = record {
    fault = λ types funcs s r t. func_fault both types funcs old s es r t i name (Some q) b e f;
    after = λ types funcs s r t. stays (IsComponentOf types funcs old) (lesser (Some q) b) s import_of_func (lesser_some q b) r;
  }

  pub instance_type_answer : (q : ValidReason) (b : Option ValidReason) → Some q ≡ least (index_broken (has_sort sort.Instance) (map entry_sort es) i)
      → b ≡ least (instance_name_broken name ++ known_broken name old.import_names) → Answers es import_of_instance old (lesser (Some q) b) old
  instance_type_answer q b e f = record {
    fault = λ types funcs s r t. instance_fault both types funcs old s es r t i name (Some q) b e f;
    after = λ types funcs s r t. stays (IsComponentOf types funcs old) (lesser (Some q) b) s import_of_instance (lesser_some q b) r;
  }

  -- the name breaks a rule
  pub func_name_answer : (p : Placed) (b : Option ValidReason) → slice_get es i ≡ Some (entry.Func p) → b ≡ least (func_name_broken name ++ known_broken name old.import_names) → is_some b ≡ true
      → Answers es import_of_func old b old
  func_name_answer p b is f some = record {
    fault = λ types funcs s r t. func_fault both types funcs old s es r t i name None b (right_sort sort.Func es i (entry.Func p) is refl) f;
    after = λ types funcs s r t. stays (IsComponentOf types funcs old) b s import_of_func some r;
  }

  pub instance_name_answer : (p : Rc InstanceItems Global) (b : Option ValidReason) → slice_get es i ≡ Some (entry.Instance p) → b ≡ least (instance_name_broken name ++ known_broken name old.import_names) → is_some b ≡ true
      → Answers es import_of_instance old b old
  instance_name_answer p b is f some = record {
    fault = λ types funcs s r t. instance_fault both types funcs old s es r t i name None b (right_sort sort.Instance es i (entry.Instance p) is refl) f;
    after = λ types funcs s r t. stays (IsComponentOf types funcs old) b s import_of_instance some r;
  }

  -- nothing is broken
  pub func_added_answer : (p : Placed) (b : Option ValidReason) (mid new : ComponentSpaces) → slice_get es i ≡ Some (entry.Func p) → b ≡ least (func_name_broken name ++ known_broken name old.import_names) → is_some b ≡ false
      → PushesFunc (func.Imported (length old.imports.items) None p) old mid → AddsImport (record { name = name; desc = extern.Func p }) name mid new
      → Answers es import_of_func old None new
  func_added_answer p b mid new is f none pushes adds = record {
    fault = λ types funcs s r t. sym (is_none b none) ∙ func_fault both types funcs old s es r t i name None b (right_sort sort.Func es i (entry.Func p) is refl) f;
    after = λ types funcs s r t. func_imported types funcs old mid new s es i name r t p is pushes adds;
  }

  pub instance_added_answer : (p : Rc InstanceItems Global) (b : Option ValidReason) (new : ComponentSpaces) → slice_get es i ≡ Some (entry.Instance p) → b ≡ least (instance_name_broken name ++ known_broken name old.import_names) → is_some b ≡ false
      → ((types : List Ty) (funcs : List FuncTy) (s : Spaces) (fs : List TypeEntry) (k : ℕ) → IsComponentOf types funcs old s → AreTypesOf types funcs fs s
      → slice_get fs k ≡ Some (entry.Instance p) → IsComponentOf types funcs new (after_item s (import_item (record { name = name; desc = desc.Instance k }))))
      → Answers es import_of_instance old None new
  instance_added_answer p b new is f none adds = record {
    fault = λ types funcs s r t. sym (is_none b none) ∙ instance_fault both types funcs old s es r t i name None b (right_sort sort.Instance es i (entry.Instance p) is refl) f;
    after = λ types funcs s r t. adds types funcs s es i r t is;
  }
