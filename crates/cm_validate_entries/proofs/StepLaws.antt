-- The index spaces after an item.
use Rattle.std.proofs.Common.{◌≡◌, ℕ, Bool, true, false, ◌||◌, List, [], ◌∷◌, ◌++◌, length, map, Option, Some, None, refl, sym, ap, ◌∙◌, Result, Ok, Err, OnErr, OnOk, IfSome}
use Rattle.std.proofs.lemmas.List.{append-nil, map-append}
use Rattle.std.specs.List.{list_all, list_any, slice_get}
use Rattle.cm_types.specs.Names.{is_same_name}
use Rattle.cm_types.specs.Types.{Ty, FuncTy}
use Rattle.cm_types.specs.Signatures.{NamedExtern}
use Rattle.cm_types_arena.specs.Externs.{extern_of, is_extern_there}
use Rattle.cm_types_arena.specs.declared.externs.Extern.{Extern}
use Rattle.cm_validate_entries.specs.declared.spaces.ExportEntry.{ExportEntry}
use Rattle.cm_validate_model.specs.Definitions.{NamedExport}
use Rattle.cm_validate_model.specs.Items.{Item}
use Rattle.cm_validate_model.specs.Spaces.{Spaces, empty_spaces, after_item, after_items, new_funcs, new_instances, new_resources, new_imports, new_exports}
use Rattle.cm_validate_core.specs.NameSets.{Knows, KnowsMore, is_known}
use Rattle.cm_validate_core.specs.declared.name_set.NameSet.{NameSet}
use Rattle.cm_validate_entries.specs.Entries.{func_def, members_of, is_func_there, are_members_there}
use Rattle.cm_validate_items.specs.Resources.{resources_in}
use Rattle.cm_validate_entries.specs.ComponentSpaces.{IsComponentOf, IsReached, export_def, is_exported_there}
use Rattle.cm_validate_entries.specs.Steps.{PushesFunc}
use Rattle.cm_validate_entries.specs.declared.entries.FuncEntry.{FuncEntry}
use Rattle.cm_validate_entries.specs.declared.spaces.ComponentSpaces.{ComponentSpaces}
use Rattle.cm_lemmas.proofs.Lists.{all_found, all_pushed}
use Rattle.cm_lemmas.proofs.Bools.{or_false_turned}

-- ---- lists with one more

pub mapped_more : {A B : Type 0} (f : A → B) (old new : List A) (x : A) → new ≡ old ++ x ∷ [] → map f new ≡ map f old ++ f x ∷ []
mapped_more f old new x e = ap (map f) e ∙ map-append f old (x ∷ [])

pub mapped_same : {A B : Type 0} (f : A → B) (old new : List A) → new ≡ old → map f new ≡ map f old ++ []
mapped_same f old new e = ap (map f) e ∙ sym (append-nil (map f old))

pub none_more : {A : Type 0} (old new : List A) → new ≡ old → new ≡ old ++ []
none_more old new e = e ∙ sym (append-nil old)

pub all_more : {A : Type 0} (test : A → Bool) (old new : List A) (x : A) → new ≡ old ++ x ∷ [] → list_all test old ≡ true → test x ≡ true → list_all test new ≡ true
all_more test old new x e f g = ap (list_all test) e ∙ all_pushed test old x f g

pub all_same : {A : Type 0} (test : A → Bool) (old new : List A) → new ≡ old → list_all test old ≡ true → list_all test new ≡ true
all_same test old new e f = ap (list_all test) e ∙ f

-- what passes for all of a list passes for the element of an index
pub all_at : {A : Type 0} (test : A → Bool) (xs : List A) (i : ℕ) (o : Option A) → list_all test xs ≡ true → slice_get xs i ≡ o → IfSome o (λ x. test x ≡ true)
all_at test xs i None e f = tt
all_at test xs i (Some x) e f = all_found test xs i x e f

-- ---- names

any_joined : {A : Type 0} (test : A → Bool) (xs ys : List A) → (list_any test xs || list_any test ys) ≡ list_any test (xs ++ ys)
any_joined test [] ys = refl
any_joined test (x ∷ xs) ys = here (test x) (any_joined test xs ys)
  where
    here : (b : Bool) → (list_any test xs || list_any test ys) ≡ list_any test (xs ++ ys) → ((b || list_any test xs) || list_any test ys) ≡ (b || list_any test (xs ++ ys))
    here true e = refl
    here false e = e

-- a set that stays as it is, where there is no name to add
pub known_same : (old new : NameSet) (names : List (List ℕ)) → new ≡ old → names ≡ [] → KnowsMore old new names
known_same old new names same none n =
    ap (λ s. is_known s n) same ∙ or_false_turned (is_known old n) ∙ ap (λ ns. is_known old n || list_any (is_same_name n) ns) (sym none)

-- a set that got one name
pub known_after : (old mid new : NameSet) (name : List ℕ) (names : List (List ℕ)) → mid ≡ old → KnowsMore mid new (name ∷ []) → names ≡ name ∷ [] → KnowsMore old new names
known_after old mid new name names same added is n =
    added n
    ∙ ap (λ s. is_known s n || list_any (is_same_name n) (name ∷ [])) same
    ∙ ap (λ ns. is_known old n || list_any (is_same_name n) ns) (sym is)

-- ---- after an item

items_more : (s : Spaces) (xs : List Item) (x : Item) → after_items s (xs ++ x ∷ []) ≡ after_item (after_items s xs) x
items_more s [] x = refl
items_more s (y ∷ ys) x = items_more (after_item s y) ys x

reached_more : (s : Spaces) (x : Item) → IsReached s → IsReached (after_item s x)
reached_more s x r = (r.0 ++ x ∷ [], ap (λ t. after_item t x) r.1 ∙ sym (items_more empty_spaces r.0 x))

-- what an item adds to each space
pub record Adds (types : List Ty) (funcs : List FuncTy) (old new : ComponentSpaces) (s : Spaces) (x : Item) : Type 0 where
  pub funcs_added : map (func_def funcs) new.funcs.items ≡ map (func_def funcs) old.funcs.items ++ new_funcs s x
  pub funcs_there : list_all (is_func_there (length funcs)) new.funcs.items ≡ true
  pub instances_added : map (members_of types funcs) new.instances.items ≡ map (members_of types funcs) old.instances.items ++ new_instances s x
  pub instances_there : list_all (are_members_there (length types) (length funcs)) new.instances.items ≡ true
  pub resources_added : resources_in new.resources ≡ resources_in old.resources ++ new_resources s x
  pub imports_added : map (extern_of types funcs) new.imports.items ≡ map (extern_of types funcs) old.imports.items ++ new_imports s x
  pub import_names_added : KnowsMore old.import_names new.import_names (map (λ (i : NamedExtern). i.name) (new_imports s x))
  pub exports_added : map (export_def types funcs) new.exports.items ≡ map (export_def types funcs) old.exports.items ++ new_exports s x
  pub imports_there : list_all (λ (e : Extern). is_extern_there (length types) (length funcs) e.desc) new.imports.items ≡ true
  pub exports_there : list_all (λ (e : ExportEntry). is_exported_there (length types) (length funcs) e.def) new.exports.items ≡ true
  pub export_names_added : KnowsMore old.export_names new.export_names (map (λ (e : NamedExport). e.name) (new_exports s x))

joined : {A : Type 0} (xs ys zs new : List A) → xs ≡ ys → new ≡ ys ++ zs → xs ++ zs ≡ new
joined xs ys zs new e f = ap (λ v. v ++ zs) e ∙ sym f

known_joined : {A : Type 0} (name : A → List ℕ) (xs more : List A) (old new : NameSet) → Knows old (map name xs) → KnowsMore old new (map name more) → Knows new (map name (xs ++ more))
known_joined name xs more old new known added n =
    added n
    ∙ ap (λ b. b || list_any (is_same_name n) (map name more)) (known n)
    ∙ any_joined (is_same_name n) (map name xs) (map name more)
    ∙ ap (list_any (is_same_name n)) (sym (map-append name xs more))

pub grown : (types : List Ty) (funcs : List FuncTy) (old new : ComponentSpaces) (s : Spaces) (x : Item) → IsComponentOf types funcs old s → Adds types funcs old new s x → IsComponentOf types funcs new (after_item s x)
grown types funcs old new s x r a = record {
  reached = reached_more s x r.reached;
  funcs_are = joined s.funcs (map (func_def funcs) old.funcs.items) (new_funcs s x) (map (func_def funcs) new.funcs.items) r.funcs_are a.funcs_added;
  instances_are = joined s.instances (map (members_of types funcs) old.instances.items) (new_instances s x) (map (members_of types funcs) new.instances.items) r.instances_are a.instances_added;
  resources_are = joined s.resources (resources_in old.resources) (new_resources s x) (resources_in new.resources) r.resources_are a.resources_added;
  imports_are = joined s.imports (map (extern_of types funcs) old.imports.items) (new_imports s x) (map (extern_of types funcs) new.imports.items) r.imports_are a.imports_added;
  import_names = known_joined (λ (i : NamedExtern). i.name) s.imports (new_imports s x) old.import_names new.import_names r.import_names a.import_names_added;
  exports_are = joined s.exports (map (export_def types funcs) old.exports.items) (new_exports s x) (map (export_def types funcs) new.exports.items) r.exports_are a.exports_added;
  export_names = known_joined (λ (e : NamedExport). e.name) s.exports (new_exports s x) old.export_names new.export_names r.export_names a.export_names_added;
  funcs_there = a.funcs_there;
  instances_there = a.instances_there;
  imports_there = a.imports_there;
  exports_there = a.exports_there;
}

behind : {A : Type 0} (old new more : List A) → new ≡ old ++ [] → more ≡ [] → new ≡ old ++ more
behind old new more e f = e ∙ ap (λ v. old ++ v) (sym f)

-- after an item that adds a function alone
pub func_pushed : (types : List Ty) (funcs : List FuncTy) (old new : ComponentSpaces) (s : Spaces) (x : Item) (f : FuncEntry)
    → new_funcs s x ≡ func_def funcs f ∷ [] → new_instances s x ≡ [] → new_resources s x ≡ [] → new_imports s x ≡ [] → new_exports s x ≡ []
    → is_func_there (length funcs) f ≡ true → IsComponentOf types funcs old s → PushesFunc f old new → IsComponentOf types funcs new (after_item s x)
func_pushed types funcs old new s x f fs is rs ims exs there r p = grown types funcs old new s x r (record {
  funcs_added = mapped_more (func_def funcs) old.funcs.items new.funcs.items f p.pushed ∙ ap (λ v. map (func_def funcs) old.funcs.items ++ v) (sym fs);
  funcs_there = all_more (is_func_there (length funcs)) old.funcs.items new.funcs.items f p.pushed r.funcs_there there;
  instances_added = behind (map (members_of types funcs) old.instances.items) (map (members_of types funcs) new.instances.items) (new_instances s x) (mapped_same (members_of types funcs) old.instances.items new.instances.items (ap (λ v. v.items) p.instances)) is;
  instances_there = all_same (are_members_there (length types) (length funcs)) old.instances.items new.instances.items (ap (λ v. v.items) p.instances) r.instances_there;
  resources_added = behind (resources_in old.resources) (resources_in new.resources) (new_resources s x) (none_more (resources_in old.resources) (resources_in new.resources) (ap resources_in p.resources)) rs;
  imports_added = behind (map (extern_of types funcs) old.imports.items) (map (extern_of types funcs) new.imports.items) (new_imports s x) (mapped_same (extern_of types funcs) old.imports.items new.imports.items (ap (λ v. v.items) p.imports)) ims;
  import_names_added = known_same old.import_names new.import_names (map (λ (i : NamedExtern). i.name) (new_imports s x)) p.import_names (ap (map (λ (i : NamedExtern). i.name)) ims);
  exports_added = behind (map (export_def types funcs) old.exports.items) (map (export_def types funcs) new.exports.items) (new_exports s x) (mapped_same (export_def types funcs) old.exports.items new.exports.items (ap (λ v. v.items) p.exports)) exs;
  export_names_added = known_same old.export_names new.export_names (map (λ (e : NamedExport). e.name) (new_exports s x)) p.export_names (ap (map (λ (e : NamedExport). e.name)) exs);
  imports_there = all_same (λ (e : Extern). is_extern_there (length types) (length funcs) e.desc) old.imports.items new.imports.items (ap (λ v. v.items) p.imports) r.imports_there;
  exports_there = all_same (λ (e : ExportEntry). is_exported_there (length types) (length funcs) e.def) old.exports.items new.exports.items (ap (λ v. v.items) p.exports) r.exports_there;
})

pub on_any_err : {A E P : Type 0} (r : Result A E) → P → OnErr r P
on_any_err (Ok x) p = tt
on_any_err (Err e) p = p

pub on_ok : {A E P Q : Type 0} (r : Result A E) → (P → Q) → OnOk r P → OnOk r Q
on_ok (Ok x) f p = f p
on_ok (Err e) f p = p
