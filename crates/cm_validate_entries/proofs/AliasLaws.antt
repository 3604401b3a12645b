-- Aliases of what instances export.
use Rattle.std.proofs.Common.{[], ◌≡◌, ℕ, true, List, ◌++◌, length, map, Option, Some, None, refl, sym, ap, ◌∙◌, IfSome}
use Rattle.std.proofs.lemmas.Option.{slice_get-map}
use Rattle.std.specs.List.{slice_get}
use Rattle.std.specs.Prelude.{option_to_list}
use Rattle.std.specs.Option.{option_map, option_and_then}
use Rattle.cm_types.specs.Types.{Ty, FuncTy}
use Rattle.cm_binary_model.specs.declared.instances.InstanceExportSort.{InstanceExportSort}
use Rattle.cm_binary_model.specs.declared.instances.InstanceExportSort.TheVariants as member_sort
use Rattle.cm_types_arena.specs.declared.placed.Placed.{Placed}
use Rattle.cm_binary_model.specs.Trees.{instance_export}
use Rattle.cm_types_arena.specs.Externs.{extern_of}
use Rattle.cm_validate_model.specs.declared.fault.ValidReason.TheVariants as reason
use Rattle.cm_validate_model.specs.Definitions.{MemberDef, NamedMember, func_member}
use Rattle.cm_validate_model.specs.Items.{alias_item}
use Rattle.cm_validate_model.specs.Reasons.{found, least, unless}
use Rattle.cm_validate_model.specs.Rules.{broken, is_of_member_sort}
use Rattle.cm_validate_model.specs.Spaces.{Spaces, after_item, aliased_member, member_named, new_types, func_of_member, type_of_member}
use Rattle.cm_validate_types.specs.declared.entries.TypeEntry.TheVariants as entry
use Rattle.cm_validate_entries.specs.Entries.{func_def, members_of, member_def, is_func_there, are_members_there, is_member_there}
use Rattle.cm_validate_items.specs.Resources.{resources_in}
use Rattle.cm_validate_entries.specs.ComponentSpaces.{AnswersAlias, IsComponentOf, export_def}
use Rattle.cm_validate_entries.specs.declared.aliases.Aliased.TheVariants as aliased
use Rattle.cm_validate_entries.specs.declared.entries.MemberEntry.{MemberEntry}
use Rattle.cm_validate_entries.specs.declared.entries.MemberEntry.TheVariants as member
use Rattle.cm_validate_entries.specs.Steps.{PushesFunc}
use Rattle.cm_validate_entries.specs.declared.entries.FuncEntry.{FuncEntry}
use Rattle.cm_validate_entries.specs.declared.entries.InstanceEntry.{InstanceEntry}
use Rattle.cm_validate_entries.specs.declared.spaces.ComponentSpaces.{ComponentSpaces}
use Rattle.cm_validate_entries.proofs.StepLaws.{all_at, func_pushed, grown, known_same, mapped_same, none_more}

-- ---- what an alias names

through : {A B C : Type 0} (f : B → Option C) (g : A → B) (o : Option A) → option_and_then f (option_map g o) ≡ option_and_then (λ x. f (g x)) o
through f g None = refl
through f g (Some x) = refl

pub aliased_at : (types : List Ty) (funcs : List FuncTy) (c : ComponentSpaces) (s : Spaces) (i : ℕ) (name : List ℕ) (o : Option InstanceEntry) → IsComponentOf types funcs c s → slice_get c.instances.items i ≡ o
    → aliased_member s i name ≡ option_and_then (λ e. member_named (members_of types funcs e) name) o
aliased_at types funcs c s i name o r e =
    ap (λ (xs : List (List NamedMember)). option_and_then (λ ms. member_named ms name) (slice_get xs i)) r.instances_are
    ∙ ap (option_and_then (λ ms. member_named ms name)) (slice_get-map (members_of types funcs) c.instances.items i ∙ ap (option_map (members_of types funcs)) e)
    ∙ through (λ ms. member_named ms name) (members_of types funcs) o

pub instance_there : (types : List Ty) (funcs : List FuncTy) (c : ComponentSpaces) (s : Spaces) (i : ℕ) (o : Option InstanceEntry) → IsComponentOf types funcs c s → slice_get c.instances.items i ≡ o
    → IfSome o (λ e. are_members_there (length types) (length funcs) e ≡ true)
instance_there types funcs c s i o r e = all_at (are_members_there (length types) (length funcs)) c.instances.items i o r.instances_there e

-- ---- what it breaks, and what it adds

module _ (s : Spaces) (sort : InstanceExportSort) (i : ℕ) (name : List ℕ) (o : Option MemberDef) (e : aliased_member s i name ≡ o) where
  pub broken_at : least (broken s (alias_item (instance_export sort i name))) ≡ least (found (λ d. unless (is_of_member_sort sort d) reason.WrongSort) o)
  broken_at = ap (λ (p : Option MemberDef). least (found (λ d. unless (is_of_member_sort sort d) reason.WrongSort) p)) e

  pub types_at : new_types s (alias_item (instance_export sort i name)) ≡ option_to_list (option_and_then type_of_member o)
  types_at = ap (λ (p : Option MemberDef). option_to_list (option_and_then type_of_member p)) e

-- a function that is aliased
pub func_aliased : (types : List Ty) (funcs : List FuncTy) (old new : ComponentSpaces) (s : Spaces) (sort : InstanceExportSort) (i : ℕ) (name : List ℕ) (f : FuncEntry)
    → aliased_member s i name ≡ Some (func_member (func_def funcs f)) → is_func_there (length funcs) f ≡ true → IsComponentOf types funcs old s → PushesFunc f old new
    → IsComponentOf types funcs new (after_item s (alias_item (instance_export sort i name)))
func_aliased types funcs old new s sort i name f e there r p =
    func_pushed types funcs old new s (alias_item (instance_export sort i name)) f
    (ap (λ (o : Option MemberDef). option_to_list (option_and_then func_of_member o)) e) refl refl refl refl there r p

-- a type that is aliased: nothing is added but the type
pub type_aliased : (types : List Ty) (funcs : List FuncTy) (c : ComponentSpaces) (s : Spaces) (sort : InstanceExportSort) (i : ℕ) (name : List ℕ) (d : MemberDef)
    → aliased_member s i name ≡ Some d → func_of_member d ≡ None → IsComponentOf types funcs c s
    → IsComponentOf types funcs c (after_item s (alias_item (instance_export sort i name)))
type_aliased types funcs c s sort i name d e no_func r = grown types funcs c c s (alias_item (instance_export sort i name)) r (record {
  funcs_added = mapped_same (func_def funcs) c.funcs.items c.funcs.items refl ∙ ap (λ o. map (func_def funcs) c.funcs.items ++ option_to_list o) (sym no_func) ∙ ap (λ (o : Option MemberDef). map (func_def funcs) c.funcs.items ++ option_to_list (option_and_then func_of_member o)) (sym e);
  funcs_there = r.funcs_there;
  instances_added = mapped_same (members_of types funcs) c.instances.items c.instances.items refl;
  instances_there = r.instances_there;
  resources_added = none_more (resources_in c.resources) (resources_in c.resources) refl;
  imports_added = mapped_same (extern_of types funcs) c.imports.items c.imports.items refl;
  import_names_added = known_same c.import_names c.import_names [] refl refl;
  exports_added = mapped_same (export_def types funcs) c.exports.items c.exports.items refl;
  export_names_added = known_same c.export_names c.export_names [] refl refl;
  imports_there = r.imports_there;
  exports_there = r.exports_there;
})

-- ---- what a call answers

module _ (old : ComponentSpaces) (sort : InstanceExportSort) (i : ℕ) (name : List ℕ) (m : MemberEntry)
    (def : (types : List Ty) (funcs : List FuncTy) (s : Spaces) → IsComponentOf types funcs old s → aliased_member s i name ≡ Some (member_def types funcs m))
    (there : (types : List Ty) (funcs : List FuncTy) (s : Spaces) → IsComponentOf types funcs old s → is_member_there (length types) (length funcs) m ≡ true) where
  -- it is of the sort that is wanted
  fits : (types : List Ty) (funcs : List FuncTy) (s : Spaces) → IsComponentOf types funcs old s → is_of_member_sort sort (member_def types funcs m) ≡ true → None ≡ least (broken s (alias_item (instance_export sort i name)))
  fits types funcs s r e =
      sym (broken_at s sort i name (Some (member_def types funcs m)) (def types funcs s r)
      ∙ ap (λ b. least (unless b reason.WrongSort)) e)

  pub func_answer : (f : FuncEntry) (new : ComponentSpaces) → sort ≡ member_sort.Func → m ≡ member.Func f → PushesFunc f old new → AnswersAlias (instance_export sort i name) old aliased.Func new
  func_answer f new e g p = record {
    fault = λ types funcs s r. fits types funcs s r (ap (λ v. is_of_member_sort v (member_def types funcs m)) e ∙ ap (λ v. is_of_member_sort member_sort.Func (member_def types funcs v)) g);
    after = λ types funcs s r. func_aliased types funcs old new s sort i name f (def types funcs s r ∙ ap (λ v. Some (member_def types funcs v)) g) (sym (ap (is_member_there (length types) (length funcs)) g) ∙ there types funcs s r) r p;
    added = λ types funcs s r none. types_at s sort i name (Some (member_def types funcs m)) (def types funcs s r) ∙ ap (λ v. option_to_list (option_and_then type_of_member (Some (member_def types funcs v)))) g;
    there = λ types funcs s r. tt;
    settled = tt;
  }

  pub value_answer : (p : Placed) → sort ≡ member_sort.Type → m ≡ member.Value p → AnswersAlias (instance_export sort i name) old (aliased.Type (entry.Value p)) old
  value_answer p e g = record {
    fault = λ types funcs s r. fits types funcs s r (ap (λ v. is_of_member_sort v (member_def types funcs m)) e ∙ ap (λ v. is_of_member_sort member_sort.Type (member_def types funcs v)) g);
    after = λ types funcs s r. type_aliased types funcs old s sort i name (member_def types funcs (member.Value p)) (def types funcs s r ∙ ap (λ v. Some (member_def types funcs v)) g) refl r;
    added = λ types funcs s r none. types_at s sort i name (Some (member_def types funcs m)) (def types funcs s r) ∙ ap (λ v. option_to_list (option_and_then type_of_member (Some (member_def types funcs v)))) g;
    there = λ types funcs s r. sym (ap (is_member_there (length types) (length funcs)) g) ∙ there types funcs s r;
    settled = λ types funcs. tt;
  }

  pub resource_answer : (n : ℕ) → sort ≡ member_sort.Type → m ≡ member.Resource n → AnswersAlias (instance_export sort i name) old (aliased.Type (entry.Resource n)) old
  resource_answer n e g = record {
    fault = λ types funcs s r. fits types funcs s r (ap (λ v. is_of_member_sort v (member_def types funcs m)) e ∙ ap (λ v. is_of_member_sort member_sort.Type (member_def types funcs v)) g);
    after = λ types funcs s r. type_aliased types funcs old s sort i name (member_def types funcs (member.Resource n)) (def types funcs s r ∙ ap (λ v. Some (member_def types funcs v)) g) refl r;
    added = λ types funcs s r none. types_at s sort i name (Some (member_def types funcs m)) (def types funcs s r) ∙ ap (λ v. option_to_list (option_and_then type_of_member (Some (member_def types funcs v)))) g;
    there = λ types funcs s r. refl;
    settled = λ types funcs. tt;
  }
