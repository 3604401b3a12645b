-- What the numbers of valid definitions say.
use Rattle.std.proofs.Common.{◌≡◌, ℕ, ◌+◌, List, [], ◌∷◌, ◌++◌, length, map, Option, Some, None, slice_get, refl, sym, ap, subst, ◌∙◌, arith, length-append, append-nil}
use Rattle.std.proofs.lemmas.Option.{slice_get-map}
use Rattle.std.specs.Option.{option_and_then, option_map, option_map_or}
use Rattle.std.specs.Prelude.{option_to_list}
use Rattle.std.specs.List.{flat_map}
use Rattle.cm_types.specs.Types.{FuncTy}
use Rattle.cm_types.specs.Signatures.{NamedExtern}
use Rattle.cm_types.specs.Signatures as extern
use Rattle.cm_binary_model.specs.Trees.{AliasTree, core_instance_export, instance_export, outer_type}
use Rattle.cm_binary_model.specs.declared.externs.ExportSort.{ExportSort}
use Rattle.cm_binary_model.specs.declared.externs.ExportSort.TheVariants as export_sort
use Rattle.cm_binary_model.specs.declared.externs.ExternDesc.{ExternDesc}
use Rattle.cm_binary_model.specs.declared.externs.ExternDesc.TheVariants as desc
use Rattle.cm_binary_model.specs.declared.instances.InlineExport.{InlineExport}
use Rattle.cm_binary_model.specs.declared.instances.InstanceExportSort.TheVariants as member_sort
use Rattle.cm_validate_model.specs.declared.fault.ValidReason.TheVariants as reason
use Rattle.cm_validate_model.specs.Definitions.{FuncDef, InstanceTy, MemberDef, NamedExport, NamedMember, ResourceDef, TypeDef, exported_func, exported_instance, faulty, func_member, func_type, instance_type, resource, sort_of, type_member, value}
use Rattle.cm_validate_model.specs.Items.{Item, alias_item, canon_item, core_instance_item, core_module_item, export_item, import_item, instance_item, type_item}
use Rattle.cm_validate_model.specs.Reasons.{bare_index_broken, found, unless}
use Rattle.cm_validate_model.specs.Rules.{broken, desc_broken, exported_broken, func_name_broken, instance_name_broken, is_of_member_sort, name_broken, type_index_broken}
use Rattle.cm_validate_model.specs.Spaces.{Spaces, after_item, after_items, aliased_member, brought_from, def_of, empty_spaces, func_ty_in, instance_exported, instance_ty_in, members_from, named_member, new_exports, new_imports, new_instances, new_resources, new_types, type_of_member}
use Rattle.cm_validate_model.specs.TypeRules.{has_sort}
use Rattle.cm_validate_model.specs.Valid.{IsValidFrom}
use Rattle.cm_validate_model.specs.declared.sorts.TypeSort.{TypeSort}
use Rattle.cm_validate_model.specs.declared.sorts.TypeSort.TheVariants as sort
use Rattle.cm_validate_model.specs.CountedSpaces.{AreSpacesCounted, IsDefCounted}
use Rattle.cm_validate_items.specs.Numbers.{Numbers, after_alias, after_export, after_import, no_numbers, numbers_after, numbers_after_all, with_own_type}
use Rattle.cm_validate_items.specs.Shared.{IsImportOf, item_from}
use Rattle.cm_validate_items.proofs.RootLaws.{Roots, each_more, no_roots, root_there, roots_again, roots_kept, roots_own, seam}
use Rattle.cm_lemmas.proofs.Lists.{got_at, get_behind, nil_front, get_front}

-- ---- what each number says

abbrev pub IsImportNumbered : Spaces → ℕ → Option ℕ → Type 0
IsImportNumbered s j None = (name : List ℕ) × (f : FuncTy) × (slice_get s.imports j ≡ Some (record { name = name; desc = extern.func f }))
IsImportNumbered s j (Some r) = (i : InstanceTy) × (slice_get s.types r ≡ Some (instance_type i)) × IsImportOf s j i

abbrev pub IsExportNumbered : Spaces → ℕ → Option ℕ → Type 0
IsExportNumbered s e None = (name : List ℕ) × (f : FuncDef) × (slice_get s.exports e ≡ Some (record { name = name; def = exported_func f }))
IsExportNumbered s e (Some r) =
    (name : List ℕ) × (ms : List NamedMember) × (slice_get s.instances r ≡ Some ms) × (slice_get s.exports e ≡ Some (record { name = name; def = exported_instance ms }))

pub record AreImports (s : Spaces) (ns : List (Option ℕ)) : Type 0 where
  pub long : length ns ≡ length s.imports
  pub each : (j : ℕ) (o : Option ℕ) → slice_get ns j ≡ Some o → IsImportNumbered s j o

pub record AreExports (s : Spaces) (ns : List (Option ℕ)) : Type 0 where
  pub long : length ns ≡ length s.exports
  pub each : (e : ℕ) (o : Option ℕ) → slice_get ns e ≡ Some o → IsExportNumbered s e o

-- the numbers say what the spaces are
pub record Follows (s : Spaces) (n : Numbers) : Type 0 where
  pub types : Roots s.types n.types
  pub instances : Roots s.instances n.instances
  pub imports : AreImports s n.imports
  pub exports : AreExports s n.exports

pub none_follow : Follows empty_spaces no_numbers
none_follow = record {
  types = no_roots;
  instances = no_roots;
  imports = record { long = refl; each = λ j o e. absurd cc };
  exports = record { long = refl; each = λ j o e. absurd cc };
}

-- ---- what stands stays

import_of_grows : (s : Spaces) (x : Item) (j : ℕ) (i : InstanceTy) → IsImportOf s j i → IsImportOf (after_item s x) j i
import_of_grows s x j i k = record {
  next = k.next;
  name = k.name;
  known = k.known;
  import_is = get_front s.imports (new_imports s x) j (record { name = k.name; desc = extern.instance (map (item_from i k.next) i.items) }) k.import_is;
  brought = λ n d e. get_front s.resources (new_resources s x) (k.next + n) d (k.brought n d e);
}

import_grows : (s : Spaces) (x : Item) (j : ℕ) (o : Option ℕ) → IsImportNumbered s j o → IsImportNumbered (after_item s x) j o
import_grows s x j None k = (k.0, k.1, get_front s.imports (new_imports s x) j (record { name = k.0; desc = extern.func k.1 }) k.2)
import_grows s x j (Some r) k = (k.0, get_front s.types (new_types s x) r (instance_type k.0) k.1, import_of_grows s x j k.0 k.2)

export_grows : (s : Spaces) (x : Item) (e : ℕ) (o : Option ℕ) → IsExportNumbered s e o → IsExportNumbered (after_item s x) e o
export_grows s x e None k = (k.0, k.1, get_front s.exports (new_exports s x) e (record { name = k.0; def = exported_func k.1 }) k.2)
export_grows s x e (Some r) k = (
  k.0,
  k.1,
  get_front s.instances (new_instances s x) r k.1 k.2,
  get_front s.exports (new_exports s x) e (record { name = k.0; def = exported_instance k.1 }) k.3,
)

-- ---- imports and exports, one more or none

imports_kept : (s : Spaces) (x : Item) (ns : List (Option ℕ)) → AreImports s ns → new_imports s x ≡ [] → AreImports (after_item s x) ns
imports_kept s x ns k e = record {
  long = k.long ∙ ap (λ (ys : List NamedExtern). length ys) (sym (ap (λ (ys : List NamedExtern). s.imports ++ ys) e ∙ append-nil s.imports));
  each = λ j o h. import_grows s x j o (k.each j o h);
}

imports_more : (s : Spaces) (x : Item) (ns : List (Option ℕ)) (o : Option ℕ) (t : NamedExtern) → AreImports s ns → new_imports s x ≡ t ∷ [] → IsImportNumbered (after_item s x) (length s.imports) o → AreImports (after_item s x) (ns ++ o ∷ [])
imports_more s x ns o t k e told =
    let more : length (s.imports ++ new_imports s x) ≡ length (s.imports ++ t ∷ []) = ap (λ (ys : List NamedExtern). length (s.imports ++ ys)) e in
    record {
      long = omega (arith, k.long, more, length-append ns (o ∷ []), length-append s.imports (t ∷ []));
      each = each_more (IsImportNumbered (after_item s x)) ns o (λ j p h. import_grows s x j p (k.each j p h)) (subst (λ (j : ℕ). IsImportNumbered (after_item s x) j o) (sym k.long) told);
    }

exports_kept : (s : Spaces) (x : Item) (ns : List (Option ℕ)) → AreExports s ns → new_exports s x ≡ [] → AreExports (after_item s x) ns
exports_kept s x ns k e = record {
  long = k.long ∙ ap (λ (ys : List NamedExport). length ys) (sym (ap (λ (ys : List NamedExport). s.exports ++ ys) e ∙ append-nil s.exports));
  each = λ j o h. export_grows s x j o (k.each j o h);
}

exports_more : (s : Spaces) (x : Item) (ns : List (Option ℕ)) (o : Option ℕ) (t : NamedExport) → AreExports s ns → new_exports s x ≡ t ∷ [] → IsExportNumbered (after_item s x) (length s.exports) o → AreExports (after_item s x) (ns ++ o ∷ [])
exports_more s x ns o t k e told =
    let more : length (s.exports ++ new_exports s x) ≡ length (s.exports ++ t ∷ []) = ap (λ (ys : List NamedExport). length (s.exports ++ ys)) e in
    record {
      long = omega (arith, k.long, more, length-append ns (o ∷ []), length-append s.exports (t ∷ []));
      each = each_more (IsExportNumbered (after_item s x)) ns o (λ j p h. export_grows s x j p (k.each j p h)) (subst (λ (j : ℕ). IsExportNumbered (after_item s x) j o) (sym k.long) told);
    }

-- ---- what the rules say of an index

some_found : {A : Type 0} (o : Option A) → found (λ d. []) o ≡ [] → (x : A) × (o ≡ Some x)
some_found None e = absurd cc
some_found (Some x) e = (x, refl)

func_found : (o : Option TypeDef) → found (λ d. unless (has_sort sort.Func d) reason.WrongSort) (option_map sort_of o) ≡ [] → (f : FuncTy) × (o ≡ Some (func_type f))
func_found None e = absurd cc
func_found (Some (value t)) e = absurd cc
func_found (Some (func_type f)) e = (f, refl)
func_found (Some (resource n)) e = absurd cc
func_found (Some (instance_type i)) e = absurd cc
func_found (Some faulty) e = absurd cc

instance_found : (o : Option TypeDef) → found (λ d. unless (has_sort sort.Instance d) reason.WrongSort) (option_map sort_of o) ≡ [] → (i : InstanceTy) × (o ≡ Some (instance_type i))
instance_found None e = absurd cc
instance_found (Some (value t)) e = absurd cc
instance_found (Some (func_type f)) e = absurd cc
instance_found (Some (resource n)) e = absurd cc
instance_found (Some (instance_type i)) e = (i, refl)
instance_found (Some faulty) e = absurd cc

type_at : (s : Spaces) (wanted : TypeSort) (k : ℕ) → found (λ d. unless (has_sort wanted d) reason.WrongSort) (slice_get (map sort_of s.types) k) ≡ [] → found (λ d. unless (has_sort wanted d) reason.WrongSort) (option_map sort_of (slice_get s.types k)) ≡ []
type_at s wanted k e = ap (λ (o : Option TypeSort). found (λ d. unless (has_sort wanted d) reason.WrongSort) o) (sym (slice_get-map sort_of s.types k)) ∙ e

member_found : (o : Option MemberDef) → found (λ d. unless (is_of_member_sort member_sort.Type d) reason.WrongSort) o ≡ [] → (t : TypeDef) × (option_to_list (option_and_then type_of_member o) ≡ t ∷ [])
member_found None e = absurd cc
member_found (Some (func_member f)) e = absurd cc
member_found (Some (type_member t)) e = (t, refl)

func_member_found : (o : Option MemberDef) → found (λ d. unless (is_of_member_sort member_sort.Func d) reason.WrongSort) o ≡ [] → option_to_list (option_and_then type_of_member o) ≡ []
func_member_found None e = absurd cc
func_member_found (Some (func_member f)) e = refl
func_member_found (Some (type_member t)) e = absurd cc

-- ---- each item

nothing : (s : Spaces) (x : Item) (n : Numbers) → Follows s n → new_types s x ≡ [] → new_instances s x ≡ [] → new_imports s x ≡ [] → new_exports s x ≡ [] → Follows (after_item s x) n
nothing s x n k a b d e = record {
  types = roots_kept s.types (new_types s x) n.types k.types a;
  instances = roots_kept s.instances (new_instances s x) n.instances k.instances b;
  imports = imports_kept s x n.imports k.imports d;
  exports = exports_kept s x n.exports k.exports e;
}

-- a type that was not there
own_type : (s : Spaces) (x : Item) (n : Numbers) (t : TypeDef) → Follows s n → new_types s x ≡ t ∷ [] → new_instances s x ≡ [] → new_imports s x ≡ [] → new_exports s x ≡ [] → Follows (after_item s x) (with_own_type n)
own_type s x n t k a b d e = record {
  types = roots_own s.types (new_types s x) n.types t k.types a;
  instances = roots_kept s.instances (new_instances s x) n.instances k.instances b;
  imports = imports_kept s x n.imports k.imports d;
  exports = exports_kept s x n.exports k.exports e;
}

follow_instance : (s : Spaces) (n : Numbers) (es : List InlineExport) → Follows s n → Follows (after_item s (instance_item es)) (numbers_after n (instance_item es))
follow_instance s n es k =
    let x = instance_item es in
    record {
      types = roots_kept s.types [] n.types k.types refl;
      instances = roots_own s.instances (new_instances s x) n.instances (flat_map (named_member s) es) k.instances refl;
      imports = imports_kept s x n.imports k.imports refl;
      exports = exports_kept s x n.exports k.exports refl;
    }

follow_alias : (s : Spaces) (n : Numbers) (a : AliasTree) → Follows s n → broken s (alias_item a) ≡ [] → Follows (after_item s (alias_item a)) (after_alias n a)
follow_alias s n (instance_export member_sort.Func instance name) k e = nothing s (alias_item (instance_export member_sort.Func instance name)) n k (func_member_found (aliased_member s instance name) e) refl refl refl
follow_alias s n (instance_export member_sort.Type instance name) k e =
    let t = member_found (aliased_member s instance name) e in
    own_type s (alias_item (instance_export member_sort.Type instance name)) n t.0 k t.1 refl refl refl
follow_alias s n (core_instance_export sort instance name) k e = nothing s (alias_item (core_instance_export sort instance name)) n k refl refl refl refl
follow_alias s n (outer_type o) k e =
    let x = alias_item (outer_type o) in
    record {
      types = roots_again s.types n.types o.index k.types;
      instances = roots_kept s.instances [] n.instances k.instances refl;
      imports = imports_kept s x n.imports k.imports refl;
      exports = exports_kept s x n.exports k.exports refl;
    }

-- ---- imports

follow_func_import : (s : Spaces) (n : Numbers) (name : List ℕ) (k : ℕ) → Follows s n → desc_broken s name (desc.Func k) ≡ []
    → Follows (after_item s (import_item (record { name = name; desc = desc.Func k }))) (after_import n (desc.Func k))
follow_func_import s n name k w e =
    let x = import_item (record { name = name; desc = desc.Func k }) in
    let f = func_found (slice_get s.types k) (type_at s sort.Func k (nil_front (type_index_broken s (has_sort sort.Func) k) (func_name_broken name) e)) in
    let t : NamedExtern = record { name = name; desc = extern.func f.0 } in
    let adds : new_imports s x ≡ t ∷ [] = ap (λ (o : Option TypeDef). option_to_list (option_map (λ d. record { name = name; desc = d }) (option_map extern.func (option_and_then func_ty_in o)))) f.1 in
    record {
      types = roots_kept s.types [] n.types w.types refl;
      instances = roots_kept s.instances [] n.instances w.instances refl;
      imports = imports_more s x n.imports None t w.imports adds (name, f.0, ap (λ (ys : List NamedExtern). slice_get (s.imports ++ ys) (length s.imports)) adds ∙ seam s.imports [] t);
      exports = exports_kept s x n.exports w.exports refl;
    }

import_adds : (s : Spaces) (name : List ℕ) (k : ℕ) (i : InstanceTy) → slice_get s.types k ≡ Some (instance_type i)
    → new_imports s (import_item (record { name = name; desc = desc.Instance k })) ≡ record { name = name; desc = extern.instance (map (item_from i (length s.resources)) i.items) } ∷ []
import_adds s name k i e = ap (λ (o : Option TypeDef). option_to_list (option_map (λ d. record { name = name; desc = d }) (option_map (λ t. extern.instance (map (item_from t (length s.resources)) t.items)) (option_and_then instance_ty_in o)))) e

-- an import of an instance of the type with an index: its items, and the resources that they bring
import_of : (s : Spaces) (name : List ℕ) (k : ℕ) (i : InstanceTy) → AreSpacesCounted s → slice_get s.types k ≡ Some (instance_type i) → IsImportOf (after_item s (import_item (record { name = name; desc = desc.Instance k }))) (length s.imports) i
import_of s name k i c e =
    let x = import_item (record { name = name; desc = desc.Instance k }) in
    let t : NamedExtern = record { name = name; desc = extern.instance (map (item_from i (length s.resources)) i.items) } in
    let adds : new_imports s x ≡ t ∷ [] = import_adds s name k i e in
    let brings : new_resources s x ≡ brought_from (length s.imports) 0 i.items = ap (λ (o : Option TypeDef). option_map_or (λ y. brought_from (length s.imports) 0 y.items) (option_and_then instance_ty_in o) []) e in
    record {
      next = length s.resources;
      name = name;
      known = (got_at (IsDefCounted (length s.resources)) s.types k (instance_type i) c.types e).known;
      import_is = ap (λ (ys : List NamedExtern). slice_get (s.imports ++ ys) (length s.imports)) adds ∙ seam s.imports [] t;
      brought = λ n d h. get_behind s.resources (new_resources s x) n ∙ (ap (λ (ys : List ResourceDef). slice_get ys n) brings ∙ h);
    }

follow_instance_import : (s : Spaces) (n : Numbers) (name : List ℕ) (k : ℕ) → AreSpacesCounted s → Follows s n → desc_broken s name (desc.Instance k) ≡ []
    → Follows (after_item s (import_item (record { name = name; desc = desc.Instance k }))) (after_import n (desc.Instance k))
follow_instance_import s n name k c w e =
    let x = import_item (record { name = name; desc = desc.Instance k }) in
    let i = instance_found (slice_get s.types k) (type_at s sort.Instance k (nil_front (type_index_broken s (has_sort sort.Instance) k) (instance_name_broken name) e)) in
    let r = root_there s.types n.types k (instance_type i.0) w.types i.1 in
    let t : NamedExtern = record { name = name; desc = extern.instance (map (item_from i.0 (length s.resources)) i.0.items) } in
    let ms = members_from i.0 (length s.resources) (length s.imports) 0 i.0.items in
    let made : new_instances s x ≡ ms ∷ [] = ap (λ (o : Option TypeDef). option_to_list (option_map (λ y. members_from y (length s.resources) (length s.imports) 0 y.items) (option_and_then instance_ty_in o))) i.1 in
    record {
      types = roots_kept s.types [] n.types w.types refl;
      instances = roots_own s.instances (new_instances s x) n.instances ms w.instances made;
      imports = imports_more s x n.imports (slice_get n.types k) t w.imports (import_adds s name k i.0 i.1)
          (subst (λ (o : Option ℕ). IsImportNumbered (after_item s x) (length s.imports) o) (sym r.1) (i.0, get_front s.types [] r.0 (instance_type i.0) r.2, import_of s name k i.0 c i.1));
      exports = exports_kept s x n.exports w.exports refl;
    }

follow_import : (s : Spaces) (n : Numbers) (name : List ℕ) (d : ExternDesc) → AreSpacesCounted s → Follows s n → desc_broken s name d ≡ []
    → Follows (after_item s (import_item (record { name = name; desc = d }))) (after_import n d)
follow_import s n name (desc.Func k) c w e = follow_func_import s n name k w e
follow_import s n name (desc.Instance k) c w e = follow_instance_import s n name k c w e

-- ---- exports

exported_again : (o : Option (List NamedMember)) → option_to_list o ≡ option_to_list (option_and_then instance_exported (option_map exported_instance o))
exported_again None = refl
exported_again (Some ms) = refl

follow_func_export : (s : Spaces) (n : Numbers) (name : List ℕ) (k : ℕ) → Follows s n → exported_broken s name export_sort.Func k ≡ []
    → Follows (after_item s (export_item (record { name = name; sort = export_sort.Func; index = k }))) (after_export n export_sort.Func k)
follow_func_export s n name k w e =
    let x = export_item (record { name = name; sort = export_sort.Func; index = k }) in
    let f = some_found (slice_get s.funcs k) (nil_front (bare_index_broken s.funcs k) (func_name_broken name) e) in
    let t : NamedExport = record { name = name; def = exported_func f.0 } in
    let adds : new_exports s x ≡ t ∷ [] = ap (λ (o : Option FuncDef). option_to_list (option_map (λ d. record { name = name; def = d }) (option_map exported_func o))) f.1 in
    let none : new_instances s x ≡ [] = ap (λ (o : Option FuncDef). option_to_list (option_and_then instance_exported (option_map exported_func o))) f.1 in
    record {
      types = roots_kept s.types [] n.types w.types refl;
      instances = roots_kept s.instances (new_instances s x) n.instances w.instances none;
      imports = imports_kept s x n.imports w.imports refl;
      exports = exports_more s x n.exports None t w.exports adds (name, f.0, ap (λ (ys : List NamedExport). slice_get (s.exports ++ ys) (length s.exports)) adds ∙ seam s.exports [] t);
    }

follow_instance_export : (s : Spaces) (n : Numbers) (name : List ℕ) (k : ℕ) → Follows s n → exported_broken s name export_sort.Instance k ≡ []
    → Follows (after_item s (export_item (record { name = name; sort = export_sort.Instance; index = k }))) (after_export n export_sort.Instance k)
follow_instance_export s n name k w e =
    let x = export_item (record { name = name; sort = export_sort.Instance; index = k }) in
    let ms = some_found (slice_get s.instances k) (nil_front (bare_index_broken s.instances k) (instance_name_broken name) e) in
    let r = root_there s.instances n.instances k ms.0 w.instances ms.1 in
    let t : NamedExport = record { name = name; def = exported_instance ms.0 } in
    let adds : new_exports s x ≡ t ∷ [] = ap (λ (o : Option (List NamedMember)). option_to_list (option_map (λ d. record { name = name; def = d }) (option_map exported_instance o))) ms.1 in
    let more : option_to_list (slice_get s.instances k) ≡ new_instances s x = exported_again (slice_get s.instances k) in
    record {
      types = roots_kept s.types [] n.types w.types refl;
      instances = subst (λ (ys : List (List NamedMember)). Roots (s.instances ++ ys) (n.instances ++ option_to_list (slice_get n.instances k))) more (roots_again s.instances n.instances k w.instances);
      imports = imports_kept s x n.imports w.imports refl;
      exports = exports_more s x n.exports (slice_get n.instances k) t w.exports adds
          (subst (λ (o : Option ℕ). IsExportNumbered (after_item s x) (length s.exports) o) (sym r.1)
          (name, ms.0, get_front s.instances (new_instances s x) r.0 ms.0 r.2, ap (λ (ys : List NamedExport). slice_get (s.exports ++ ys) (length s.exports)) adds ∙ seam s.exports [] t));
    }

follow_export : (s : Spaces) (n : Numbers) (name : List ℕ) (sort : ExportSort) (k : ℕ) → Follows s n → exported_broken s name sort k ≡ []
    → Follows (after_item s (export_item (record { name = name; sort = sort; index = k }))) (after_export n sort k)
follow_export s n name export_sort.Func k w e = follow_func_export s n name k w e
follow_export s n name export_sort.Instance k w e = follow_instance_export s n name k w e

-- ---- all items

follow_item : (s : Spaces) (n : Numbers) (x : Item) → AreSpacesCounted s → Follows s n → broken s x ≡ [] → Follows (after_item s x) (numbers_after n x)
follow_item s n core_module_item c k e = nothing s core_module_item n k refl refl refl refl
follow_item s n (core_instance_item i) c k e = nothing s (core_instance_item i) n k refl refl refl refl
follow_item s n (instance_item es) c k e = follow_instance s n es k
follow_item s n (alias_item a) c k e = follow_alias s n a k e
follow_item s n (type_item d) c k e = own_type s (type_item d) n (def_of s d) k refl refl refl refl
follow_item s n (canon_item d) c k e = nothing s (canon_item d) n k refl refl refl refl
follow_item s n (import_item i) c k e = follow_import s n i.name i.desc c k (nil_front (desc_broken s i.name i.desc) (name_broken i.name (map (λ x. x.name) s.imports)) e)
follow_item s n (export_item i) c k e = follow_export s n i.name i.sort i.index k (nil_front (exported_broken s i.name i.sort i.index) (name_broken i.name (map (λ x. x.name) s.exports)) e)

pub follow_all : (s : Spaces) (n : Numbers) (xs : List Item) → ((front : List Item) → AreSpacesCounted (after_items s front)) → Follows s n → IsValidFrom s xs → Follows (after_items s xs) (numbers_after_all n xs)
follow_all s n [] c k v = k
follow_all s n (x ∷ xs) c k v =
    follow_all (after_item s x) (numbers_after n x) xs (λ front. c (x ∷ front)) (follow_item s n x (c []) k (v [] x xs refl)) (λ front y rest e. v (x ∷ front) y rest (ap (λ (ys : List Item). x ∷ ys) e))
