-- Items that add nothing to functions, instances, resources, imports and exports; and entries among
-- more types.
use Rattle.std.proofs.Common.{◌≡◌, ℕ, true, List, [], ◌∷◌, ◌++◌, length, map, Option, Some, None, refl, sym, ap, ◌∙◌, IfSome, append-nil}
use Rattle.cm_types.specs.Types.{Ty, FuncTy}
use Rattle.cm_types_arena.specs.Externs.{extern_of, is_extern_there}
use Rattle.cm_types_arena.specs.declared.externs.Extern.{Extern}
use Rattle.cm_validate_types.specs.Entries.{def_of, entry_sort}
use Rattle.cm_validate_types.specs.declared.entries.TypeEntry.{TypeEntry}
use Rattle.cm_validate_types.specs.declared.entries.TypeEntry.TheVariants as entry
use Rattle.cm_validate_entries.specs.declared.spaces.ExportEntry.{ExportEntry}
use Rattle.cm_validate_model.specs.Definitions.{FuncDef, ResourceDef, NamedMember, NamedExport, TypeDef, defined, sort_of}
use Rattle.cm_types.specs.Signatures.{NamedExtern}
use Rattle.cm_binary_model.specs.declared.instances.InlineExport.{InlineExport}
use Rattle.cm_binary_model.specs.Trees.{resource_drop, resource_new}
use Rattle.cm_types.specs.DefTypes.{resource_def}
use Rattle.cm_validate_model.specs.declared.fault.ValidReason.{ValidReason}
use Rattle.cm_validate_model.specs.declared.fault.ValidReason.TheVariants as reason
use Rattle.cm_validate_model.specs.Items.{Item, instance_item, type_item}
use Rattle.cm_validate_model.specs.Reasons.{found, if_found, index_broken, least, unless}
use Rattle.cm_validate_model.specs.Rules.{canon_broken, is_defined, own_resource_broken}
use Rattle.cm_validate_model.specs.Scopes.{resource_in}
use Rattle.cm_validate_model.specs.TypeRules.{has_sort}
use Rattle.cm_validate_model.specs.declared.sorts.TypeSort.{TypeSort}
use Rattle.cm_validate_model.specs.declared.sorts.TypeSort.TheVariants as sort
use Rattle.std.proofs.lemmas.Option.{slice_get-map}
use Rattle.std.specs.List.{flat_map, slice_get}
use Rattle.std.specs.Option.{option_map, option_and_then}
use Rattle.cm_validate_model.specs.Spaces.{Spaces, after_item, named_member as member_of_export, new_exports, new_funcs, new_imports, new_instances, new_resources}
use Rattle.cm_validate_entries.specs.ComponentSpaces.{AreTypesOf, IsComponentOf, export_def, is_exported_there}
use Rattle.cm_validate_entries.specs.Entries.{are_members_there, func_def, is_func_there, members_of}
use Rattle.cm_validate_entries.specs.declared.entries.InstanceEntry.{InstanceEntry}
use Rattle.cm_validate_items.specs.Ranges.{resource_def as resource_of}
use Rattle.cm_validate_items.specs.Resources.{resources_in}
use Rattle.cm_validate_entries.specs.declared.spaces.ComponentSpaces.{ComponentSpaces}
use Rattle.cm_validate_items.specs.declared.ranges.Resource.{Resource}
use Rattle.cm_validate_items.specs.declared.ranges.Resources.{Resources}
use Rattle.cm_validate_entries.proofs.ImportLaws.{sorts_are}
use Rattle.cm_validate_entries.specs.Steps.{PushesInstance}
use Rattle.cm_validate_entries.proofs.StepLaws.{all_at, all_more, all_same, grown, known_same, mapped_more, mapped_same, none_more}

behind : {A : Type 0} (xs ys : List A) → ys ≡ [] → xs ≡ xs ++ ys
behind xs ys e = sym (ap (λ v. xs ++ v) e ∙ append-nil xs)

pub nothing_added : (types : List Ty) (funcs : List FuncTy) (c : ComponentSpaces) (s : Spaces) (x : Item)
    → new_funcs s x ≡ [] → new_instances s x ≡ [] → new_resources s x ≡ [] → new_imports s x ≡ [] → new_exports s x ≡ []
    → IsComponentOf types funcs c s → IsComponentOf types funcs c (after_item s x)
nothing_added types funcs c s x fs is rs ims exs r = grown types funcs c c s x r (record {
  funcs_added = behind (map (func_def funcs) c.funcs.items) (new_funcs s x) fs;
  funcs_there = r.funcs_there;
  instances_added = behind (map (members_of types funcs) c.instances.items) (new_instances s x) is;
  instances_there = r.instances_there;
  resources_added = behind (resources_in c.resources) (new_resources s x) rs;
  imports_added = behind (map (extern_of types funcs) c.imports.items) (new_imports s x) ims;
  import_names_added = known_same c.import_names c.import_names (map (λ (i : NamedExtern). i.name) (new_imports s x)) refl (ap (map (λ (i : NamedExtern). i.name)) ims);
  exports_added = behind (map (export_def types funcs) c.exports.items) (new_exports s x) exs;
  export_names_added = known_same c.export_names c.export_names (map (λ (e : NamedExport). e.name) (new_exports s x)) refl (ap (map (λ (e : NamedExport). e.name)) exs);
  imports_there = r.imports_there;
  exports_there = r.exports_there;
})

-- a resource that is defined
pub resource_defined : (types : List Ty) (funcs : List FuncTy) (c : ComponentSpaces) (more : Resources) (s : Spaces) (destructor : Option ℕ)
    → resources_in more ≡ resources_in c.resources ++ defined destructor ∷ [] → IsComponentOf types funcs c s
    → IsComponentOf types funcs (record c { resources = more }) (after_item s (type_item (resource_def destructor)))
resource_defined types funcs c more s destructor e r = grown types funcs c (record c { resources = more }) s (type_item (resource_def destructor)) r (record {
  funcs_added = behind (map (func_def funcs) c.funcs.items) [] refl;
  funcs_there = r.funcs_there;
  instances_added = behind (map (members_of types funcs) c.instances.items) [] refl;
  instances_there = r.instances_there;
  resources_added = e;
  imports_added = behind (map (extern_of types funcs) c.imports.items) [] refl;
  import_names_added = known_same c.import_names c.import_names [] refl refl;
  exports_added = behind (map (export_def types funcs) c.exports.items) [] refl;
  export_names_added = known_same c.export_names c.export_names [] refl refl;
  imports_there = r.imports_there;
  exports_there = r.exports_there;
})

pub resources_stay : (types : List Ty) (funcs : List FuncTy) (c : ComponentSpaces) (same : Resources) (s : Spaces) → resources_in same ≡ resources_in c.resources → IsComponentOf types funcs c s → IsComponentOf types funcs (record c { resources = same }) s
resources_stay types funcs c same s e r = record {
  reached = r.reached;
  funcs_are = r.funcs_are;
  instances_are = r.instances_are;
  resources_are = r.resources_are ∙ sym e;
  imports_are = r.imports_are;
  import_names = r.import_names;
  exports_are = r.exports_are;
  export_names = r.export_names;
  funcs_there = r.funcs_there;
  instances_there = r.instances_there;
  imports_there = r.imports_there;
  exports_there = r.exports_there;
}

-- ---- what makes, drops and reads handles

module _ (types : List Ty) (funcs : List FuncTy) (s : Spaces) (es : List TypeEntry) (t : AreTypesOf types funcs es s) (i : ℕ) where
  -- what an index breaks, by what stands there
  abbrev sort_rules : Option TypeSort → List ValidReason
  sort_rules o = found (λ d. unless (has_sort sort.Resource d) reason.WrongSort) o

  abbrev own_rules : Option TypeDef → List ValidReason
  own_rules o = sort_rules (option_map sort_of o) ++ if_found (own_resource_broken s) (option_and_then resource_in o)

  def_at : (o : Option TypeEntry) → slice_get es i ≡ o → slice_get s.types i ≡ option_map (def_of types funcs) o
  def_at o e = ap (λ (ts : List TypeDef). slice_get ts i) t.types_are ∙ slice_get-map (def_of types funcs) es i ∙ ap (option_map (def_of types funcs)) e

  index_is : (o : Option TypeEntry) → slice_get es i ≡ o → least (index_broken (has_sort sort.Resource) (map entry_sort es) i) ≡ least (sort_rules (option_map entry_sort o))
  index_is o e = ap (λ v. least (sort_rules v)) (slice_get-map entry_sort es i ∙ ap (option_map entry_sort) e)

  own_is : (o : Option TypeEntry) → slice_get es i ≡ o → least (canon_broken s (resource_new i)) ≡ least (own_rules (option_map (def_of types funcs) o))
  own_is o e =
      ap (λ (v : Option TypeSort). least (sort_rules v ++ if_found (own_resource_broken s) (option_and_then resource_in (slice_get s.types i)))) (slice_get-map sort_of s.types i)
      ∙ ap (λ (v : Option TypeDef). least (own_rules v)) (def_at o e)

  dropped_is : least (index_broken (has_sort sort.Resource) (map entry_sort es) i) ≡ least (canon_broken s (resource_drop i))
  dropped_is = ap (λ v. least (index_broken (has_sort sort.Resource) v i)) (sym (sorts_are types funcs es s t))

  own_broken : (q : ValidReason) (o : Option TypeEntry) → Some q ≡ least (sort_rules (option_map entry_sort o)) → Some q ≡ least (own_rules (option_map (def_of types funcs) o))
  own_broken q None e = e
  own_broken q (Some (entry.Value p)) e = e
  own_broken q (Some (entry.Func p)) e = e
  own_broken q (Some (entry.Resource n)) e = absurd cc
  own_broken q (Some (entry.Instance p)) e = e

  pub own_fault : (q : ValidReason) → Some q ≡ least (index_broken (has_sort sort.Resource) (map entry_sort es) i) → Some q ≡ least (canon_broken s (resource_new i))
  own_fault q e = own_broken q (slice_get es i) (e ∙ index_is (slice_get es i) refl) ∙ sym (own_is (slice_get es i) refl)

  pub own_there : (n : ℕ) (b : Option ValidReason) → slice_get es i ≡ Some (entry.Resource n) → b ≡ least (own_resource_broken s n) → b ≡ least (canon_broken s (resource_new i))
  own_there n b is e = e ∙ sym (own_is (Some (entry.Resource n)) is)

  pub drop_fault : (q : ValidReason) → Some q ≡ least (index_broken (has_sort sort.Resource) (map entry_sort es) i) → Some q ≡ least (canon_broken s (resource_drop i))
  drop_fault q e = e ∙ dropped_is

  pub drop_there : (n : ℕ) → slice_get es i ≡ Some (entry.Resource n) → None ≡ least (canon_broken s (resource_drop i))
  drop_there n is = sym (index_is (Some (entry.Resource n)) is) ∙ dropped_is

-- what a resource of a number breaks that the component has to define
pub own_number : (types : List Ty) (funcs : List FuncTy) (c : ComponentSpaces) (s : Spaces) (n : ℕ) (o : Option Resource) → IsComponentOf types funcs c s → option_map resource_of o ≡ slice_get (resources_in c.resources) n
    → least (own_resource_broken s n) ≡ least (if_found (λ r. unless (is_defined (resource_of r)) reason.NotOwnResource) o)
own_number types funcs c s n o r e =
    ap (λ (rs : List ResourceDef). least (if_found (λ v. unless (is_defined v) reason.NotOwnResource) (slice_get rs n))) r.resources_are
    ∙ ap (λ (v : Option ResourceDef). least (if_found (λ w. unless (is_defined w) reason.NotOwnResource) v)) (sym e)
    ∙ through o
  where
    through : (p : Option Resource) → least (if_found (λ v. unless (is_defined v) reason.NotOwnResource) (option_map resource_of p)) ≡ least (if_found (λ v. unless (is_defined (resource_of v)) reason.NotOwnResource) p)
    through None = refl
    through (Some x) = refl

-- ---- functions by index, and instances of definitions under names

pub func_told : (types : List Ty) (funcs : List FuncTy) (c : ComponentSpaces) (s : Spaces) (i : ℕ) → IsComponentOf types funcs c s → option_map (func_def funcs) (slice_get c.funcs.items i) ≡ slice_get s.funcs i
func_told types funcs c s i r = sym (ap (λ (fs : List FuncDef). slice_get fs i) r.funcs_are ∙ slice_get-map (func_def funcs) c.funcs.items i)

pub func_there : (types : List Ty) (funcs : List FuncTy) (c : ComponentSpaces) (s : Spaces) (i : ℕ) → IsComponentOf types funcs c s → IfSome (slice_get c.funcs.items i) (λ f. is_func_there (length funcs) f ≡ true)
func_there types funcs c s i r = all_at (is_func_there (length funcs)) c.funcs.items i (slice_get c.funcs.items i) r.funcs_there refl

pub members_pushed : (types : List Ty) (funcs : List FuncTy) (old new : ComponentSpaces) (s : Spaces) (es : List InlineExport) (e : InstanceEntry) → members_of types funcs e ≡ flat_map (member_of_export s) es
    → are_members_there (length types) (length funcs) e ≡ true → PushesInstance e old new → IsComponentOf types funcs old s → IsComponentOf types funcs new (after_item s (instance_item es))
members_pushed types funcs old new s es e same there a r = grown types funcs old new s (instance_item es) r (record {
  funcs_added = mapped_same (func_def funcs) old.funcs.items new.funcs.items (ap (λ v. v.items) a.funcs);
  funcs_there = all_same (is_func_there (length funcs)) old.funcs.items new.funcs.items (ap (λ v. v.items) a.funcs) r.funcs_there;
  instances_added = mapped_more (members_of types funcs) old.instances.items new.instances.items e a.pushed ∙ ap (λ (ms : List NamedMember). map (members_of types funcs) old.instances.items ++ ms ∷ []) same;
  instances_there = all_more (are_members_there (length types) (length funcs)) old.instances.items new.instances.items e a.pushed r.instances_there there;
  resources_added = none_more (resources_in old.resources) (resources_in new.resources) (ap resources_in a.resources);
  imports_added = mapped_same (extern_of types funcs) old.imports.items new.imports.items (ap (λ v. v.items) a.imports);
  import_names_added = known_same old.import_names new.import_names [] a.import_names refl;
  exports_added = mapped_same (export_def types funcs) old.exports.items new.exports.items (ap (λ v. v.items) a.exports);
  export_names_added = known_same old.export_names new.export_names [] a.export_names refl;
  imports_there = all_same (λ (e : Extern). is_extern_there (length types) (length funcs) e.desc) old.imports.items new.imports.items (ap (λ v. v.items) a.imports) r.imports_there;
  exports_there = all_same (λ (e : ExportEntry). is_exported_there (length types) (length funcs) e.def) old.exports.items new.exports.items (ap (λ v. v.items) a.exports) r.exports_there;
})
