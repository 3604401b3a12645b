-- Each function that is imported is served by one of the same type.
use Rattle.std.proofs.Common.{◌≡◌, ℕ, zero, suc, ◌+◌, ◌<◌, List, [], ◌∷◌, Option, Some, None, refl, sym, ap, subst, ◌∙◌, arith, option_and_then, slice_get}
use Rattle.std.specs.List.{AllByRecursion}
use Rattle.std.specs.Option.{option_map}
use Rattle.cm_types.specs.Types.{FuncTy}
use Rattle.cm_types.specs.Signatures.{ItemTy, NamedItem, ExternTy, NamedExtern, func_item, equal_type, equal_resource, fresh_resource}
use Rattle.cm_types.specs.Signatures as extern
use Rattle.cm_validate_model.specs.Definitions.{ExportDef, exported_func, exported_instance, FuncDef, MemberDef, NamedMember, TypeDef, func_member, type_member, func_type_of, value, func_type, resource, instance_type, faulty}
use Rattle.cm_validate_model.specs.Declarations.{type_in}
use Rattle.cm_validate_model.specs.Spaces.{Spaces, func_of_member, item_of_member, member_named}
use Rattle.cm_match_model.specs.Origins.{item_name}
use Rattle.cm_match_model.specs.declared.component.Link.{Link}
use Rattle.cm_match_model.specs.Imports.{LinkSet, ImportAt, all_imports_from, export_in, import_at, imports_from, link_of, links_of}
use Rattle.cm_match_model.specs.Links.{CanBeLinked, IsServed}
use Rattle.cm_match_model.specs.Serving.{IsItemServed, IsSameFunc, Serves, ServesExtern, item_under}
use Rattle.cm_validate_model.specs.Imported.{func_item_of, wanted_func, wanted_of}
use Rattle.cm_match_model.specs.Targets.{FuncAt, exported_under, func_for, linked_func, serving_func}
use Rattle.cm_match_model.proofs.LinkLaws.{linked_earlier}
use Rattle.cm_match_model.proofs.ListLemmas.{all_at}
use Rattle.cm_lemmas.proofs.Lists.{all_left, all_right}
use Rattle.cm_lemmas.proofs.Options.{some_is, stepped}

-- ---- what holds of all imports of a set holds of each

of_component : (is_so : ImportAt → Type 0) (c m : ℕ) (xs : List NamedExtern) → AllByRecursion is_so (imports_from c m xs)
    → (n : ℕ) (x : NamedExtern) → slice_get xs n ≡ Some x → is_so (import_at c (m + n) x)
of_component is_so c m [] h n x e = cc e
of_component is_so c m (y ∷ ys) h zero x e =
    let same : is_so (import_at c m x) = subst (λ z. is_so (import_at c m z)) (some_is y x e) h.0 in
    subst (λ k. is_so (import_at c k x)) (omega arith) same
of_component is_so c m (y ∷ ys) h (suc n) x e = subst (λ k. is_so (import_at c k x)) (omega arith) (of_component is_so c (m + 1) ys h.1 n x e)

of_set : (is_so : ImportAt → Type 0) (d : ℕ) (ss : List Spaces) → AllByRecursion is_so (all_imports_from d ss)
    → (c : ℕ) (s : Spaces) → slice_get ss c ≡ Some s → (n : ℕ) (x : NamedExtern) → slice_get s.imports n ≡ Some x → is_so (import_at (d + c) n x)
of_set is_so d [] h c s e n x f = cc e
of_set is_so d (t ∷ ts) h zero s e n x f =
    let front : AllByRecursion is_so (imports_from d 0 t.imports) = all_left is_so (imports_from d 0 t.imports) (all_imports_from (d + 1) ts) h in
    let same : slice_get t.imports n ≡ Some x = subst (λ (v : Spaces). slice_get v.imports n ≡ Some x) (sym (some_is t s e)) f in
    let here : is_so (import_at d n x) = subst (λ k. is_so (import_at d k x)) (omega arith) (of_component is_so d 0 t.imports front n x same) in
    subst (λ k. is_so (import_at k n x)) (omega arith) here
of_set is_so d (t ∷ ts) h (suc c) s e n x f =
    let rest : AllByRecursion is_so (all_imports_from (d + 1) ts) = all_right is_so (imports_from d 0 t.imports) (all_imports_from (d + 1) ts) h in
    subst (λ k. is_so (import_at k n x)) (omega arith) (of_set is_so (d + 1) ts rest c s e n x f)

-- ---- items

-- what serves a function is a function of the same type
served_func : (set : LinkSet) (c : ℕ) (f : FuncTy) (d : ℕ) (have : ItemTy) → Serves set c (func_item f) d have → (g : FuncTy) × (have ≡ func_item g) × IsSameFunc set c f d g
served_func set c f d (func_item g) s = (g, refl, s)
served_func set c f d (equal_type t) s = absurd s
served_func set c f d (equal_resource r) s = absurd s
served_func set c f d (fresh_resource r) s = absurd s

item_is_func : (w : ItemTy) (f : FuncTy) → func_item_of w ≡ Some f → w ≡ func_item f
item_is_func (func_item g) f h = ap func_item (some_is g f h)
item_is_func (equal_type t) f h = cc h
item_is_func (equal_resource r) f h = cc h
item_is_func (fresh_resource r) f h = cc h

-- a type is no function
no_func : (t : TypeDef) (g : FuncTy) → type_in t ≡ Some (func_item g) → ⊥
no_func (value t) g h = cc h
no_func (func_type f) g h = cc h
no_func (resource n) g h = cc h
no_func (instance_type i) g h = cc h
no_func faulty g h = cc h

ty_or : FuncTy → ItemTy → FuncTy
ty_or g (func_item f) = f
ty_or g _ = g

member_is_func : (m : MemberDef) (g : FuncTy) → item_of_member m ≡ Some (func_item g) → (h : FuncDef) × (func_of_member m ≡ Some h) × (func_type_of h ≡ g)
unfolding ty_or
member_is_func (func_member h) g e = (h, refl, ap (ty_or g) (some_is (func_item (func_type_of h)) (func_item g) e))
member_is_func (type_member t) g e = absurd (no_func t g e)

found_under : (ms : List NamedMember) (name : List ℕ) (g : FuncTy) → item_under ms name ≡ Some (func_item g)
    → (h : FuncDef) × (exported_under name (exported_instance ms) ≡ Some h) × (func_type_of h ≡ g)
found_under ms name g e =
    let m = stepped (member_named ms name) (λ m. item_of_member m) (func_item g) e in
    let h = member_is_func m.0 g m.2 in
    (h.0, ap (option_and_then func_of_member) m.1 ∙ h.1, h.2)

-- ---- imports

-- what an import, or an item of one, is served by
Served : LinkSet → Spaces → ℕ → ℕ → Option ℕ → FuncTy → ℕ → ExportDef → Type 0
Served set s c import item f d e = (h : FuncDef) × (func_for s import item e ≡ Some h) × IsSameFunc set c f d (func_type_of h)

by_item : (set : LinkSet) (s : Spaces) (c import k : ℕ) (f : FuncTy) (d : ℕ) (ms : List NamedMember) (i : NamedItem)
    → item_name s import k ≡ Some i.name → func_item_of i.desc ≡ Some f → IsItemServed set c d ms i → Served set s c import (Some k) f d (exported_instance ms)
unfolding Served
by_item set s c import k f d ms i name is served =
    let same : Serves set c (func_item f) d served.0 = subst (λ w. Serves set c w d served.0) (item_is_func i.desc f is) served.2 in
    let g = served_func set c f d served.0 same in
    let h = found_under ms i.name g.0 (served.1 ∙ ap Some g.1) in
    (h.0, ap (option_and_then (λ n. exported_under n (exported_instance ms))) name ∙ h.1, subst (IsSameFunc set c f d) (sym h.2) g.2)

by_extern : (set : LinkSet) (s : Spaces) (c import : ℕ) (item : Option ℕ) (f : FuncTy) (d : ℕ) (x : NamedExtern) (t : ExternTy) (e : ExportDef)
    → slice_get s.imports import ≡ Some x → x.desc ≡ t → wanted_of item t ≡ Some f → ServesExtern set c t d e → Served set s c import item f d e
unfolding Served
by_extern set s c import None f d x (extern.func g) (exported_func h) there is wanted serves = (h, refl, subst (λ v. IsSameFunc set c v d (func_type_of h)) (some_is g f wanted) serves)
by_extern set s c import None f d x (extern.func g) (exported_instance ms) there is wanted serves = absurd serves
by_extern set s c import (Some k) f d x (extern.func g) e there is wanted serves = cc wanted
by_extern set s c import None f d x (extern.instance items) e there is wanted serves = cc wanted
by_extern set s c import (Some k) f d x (extern.instance items) (exported_func h) there is wanted serves = absurd serves
by_extern set s c import (Some k) f d x (extern.instance items) (exported_instance ms) there is wanted serves =
    let i = stepped (slice_get items k) (λ i. func_item_of i.desc) f wanted in
    by_item set s c import k f d ms i.0 (named i.0 i.1) i.2 (all_at (IsItemServed set c d ms) items serves k i.0 i.1)
  where
    named : (i : NamedItem) → slice_get items k ≡ Some i → item_name s import k ≡ Some i.name
    named i e = rw there (rw is (rw e refl))

-- the link of an import, and the function that serves it
link_there : (set : LinkSet) (c import : ℕ) (s : Spaces) (x : NamedExtern) (l : Link) → slice_get set.spaces c ≡ Some s → slice_get s.imports import ≡ Some x
    → link_of set (import_at c import x) ≡ Some l → links_of set c import ≡ Some l
link_there set c import s x l there is linked =
    ap (option_and_then (λ x. link_of set (import_at c import x))) (ap (option_and_then (λ s. slice_get s.imports import)) there ∙ is) ∙ linked

func_there : (set : LinkSet) (c import : ℕ) (item : Option ℕ) (s : Spaces) (l : Link) (e : ExportDef) (h : FuncDef) → slice_get set.spaces c ≡ Some s → links_of set c import ≡ Some l
    → export_in set.spaces l.component l.export ≡ Some e → func_for s import item e ≡ Some h
    → serving_func set.spaces (links_of set) c import item ≡ Some (record { component = l.component; func = h })
func_there set c import item s l e h there linked exported found =
    ap (option_and_then (λ s. option_and_then (linked_func set.spaces s import item) (links_of set c import))) there
    ∙ ap (option_and_then (linked_func set.spaces s import item)) linked
    ∙ ap (λ o. option_map (λ f. record { component = l.component; func = f }) (option_and_then (func_for s import item) o)) exported
    ∙ ap (option_map (λ f. record { component = l.component; func = f })) found

served_by : (set : LinkSet) (c import : ℕ) (s : Spaces) (item : Option ℕ) (f : FuncTy) (x : NamedExtern) → slice_get set.spaces c ≡ Some s → slice_get s.imports import ≡ Some x
    → wanted_of item x.desc ≡ Some f → IsServed set (import_at c import x)
    → (g : FuncAt) × (serving_func set.spaces (links_of set) c import item ≡ Some g) × (g.component < c) × IsSameFunc set c f g.component (func_type_of g.func)
unfolding Served
served_by set c import s item f x there is wanted i =
    let h = by_extern set s c import item f i.link.component x x.desc i.export is refl wanted i.serves in
    let linked : links_of set c import ≡ Some i.link = link_there set c import s x i.link there is i.linked in (
      record { component = i.link.component; func = h.0 },
      func_there set c import item s i.link i.export h.0 there linked i.exported h.1,
      linked_earlier set c import x i.link i.linked,
      h.2,
    )

pub served : (set : LinkSet) → CanBeLinked set → (c : ℕ) (s : Spaces) → slice_get set.spaces c ≡ Some s → (import : ℕ) (item : Option ℕ) (f : FuncTy)
    → wanted_func s import item ≡ Some f
    → (g : FuncAt) × (serving_func set.spaces (links_of set) c import item ≡ Some g) × (g.component < c) × IsSameFunc set c f g.component (func_type_of g.func)
served set linked c s there import item f wanted =
    let x = stepped (slice_get s.imports import) (λ i. wanted_of item i.desc) f wanted in
    let i : IsServed set (import_at c import x.0) = subst (λ k. IsServed set (import_at k import x.0)) (omega arith) (of_set (IsServed set) 0 set.spaces linked.served c s there import x.0 x.1) in
    served_by set c import s item f x.0 there x.1 x.2 i
