-- A signature fits itself.
use Rattle.std.proofs.Common.{◌≡◌, ℕ, ◌+◌, Bool, true, cond, List, [], ◌∷◌, ◌++◌, inl, inr, Option, Some, None, refl, sym, ap, subst, ◌∙◌, append_assoc}
use Rattle.std.specs.List.{AllByRecursion, position_from}
use Rattle.std.specs.Option.{IfSome, option_map}
use Rattle.std.proofs.lemmas.Bool.{cases_Bool}
use Rattle.cm_types.specs.Resources.{same_resource}
use Rattle.cm_types.specs.Types.{Ty, FuncTy, Fields, Cases, bool, signed, unsigned, char, string, list, fixed_list, fields, cases, flags, own, borrow, no_fields, field, no_cases, plain, carrying}
use Rattle.cm_types.specs.Signatures.{ExternTy, ItemTy, NamedExtern, NamedItem, SignatureTy, func, instance, func_item, equal_type, equal_resource, fresh_resource}
use Rattle.cm_types.specs.declared.resource.ResourceId.{ResourceId}
use Rattle.cm_types_arena.specs.Replaced.{Standing, replaced, replaced_fields, replaced_cases, replaced_func}
use Rattle.cm_wit_conforms.specs.Comparisons.{Comparison, nothing, two_sorts, two_funcs, two_types, two_resources, Entry, entries, entries_from, extern_entries, extern_named, facing, item_entries, item_named, or_nothing, two_items}
use Rattle.cm_wit_conforms.specs.Conformance.{AllFit, Conforms, Fits, have_mark, mark, meets_have, meets_world, world_mark}
use Rattle.cm_wit_conforms.specs.Itself.{AllResources, AllFieldResources, AllCaseResources, IsNamed, HasNamed, HasItemNames, IsWellNamed}
use Rattle.cm_wit_conforms.specs.declared.fault.ConformList.{ConformList}
use Rattle.cm_wit_conforms.specs.declared.fault.ConformList.TheVariants as walked
use Rattle.cm_lemmas.proofs.Lists.{all_both}
use Rattle.cm_types.proofs.ResourceLaws.{resource_same}

-- both are the same
abbrev Alike : Comparison → Type 0
Alike nothing = ⊥
Alike two_sorts = ⊥
Alike (two_funcs f g) = f ≡ g
Alike (two_types x y) = x ≡ y
Alike (two_resources a b) = a ≡ b

abbrev AllAlike : List Entry → Type 0
AllAlike es = AllByRecursion (λ e. Alike e.what) es

alike_item : (l : ConformList) (d : ItemTy) → Alike (facing two_items l d d)
alike_item walked.WorldExports (func_item f) = refl
alike_item walked.WorldExports (equal_type t) = refl
alike_item walked.WorldExports (equal_resource r) = refl
alike_item walked.WorldExports (fresh_resource r) = refl
alike_item walked.HaveImports (func_item f) = refl
alike_item walked.HaveImports (equal_type t) = refl
alike_item walked.HaveImports (equal_resource r) = refl
alike_item walked.HaveImports (fresh_resource r) = refl

alike_func : (l : ConformList) (f : FuncTy) → Alike (facing two_funcs l f f)
alike_func walked.WorldExports f = refl
alike_func walked.HaveImports f = refl

items_alike : (l : ConformList) (place : ℕ) (others : List NamedItem) (n : ℕ) (xs : List NamedItem) → AllByRecursion (λ i. item_named i.name others ≡ Some i.desc) xs → AllAlike (item_entries l place others n xs)
items_alike l place others n [] h = tt
items_alike l place others n (x ∷ xs) h =
    (subst (λ (o : Option ItemTy). Alike (or_nothing (option_map (facing two_items l x.desc) o))) (sym h.0) (alike_item l x.desc), items_alike l place others (n + 1) xs h.1)

extern_alike : (l : ConformList) (n : ℕ) (d : ExternTy) → HasItemNames d → AllAlike (extern_entries l n (Some d) d)
extern_alike l n (func f) h = (alike_func l f, tt)
extern_alike l n (instance items) h = items_alike l n items 0 items h

externs_alike : (l : ConformList) (others : List NamedExtern) (n : ℕ) (xs : List NamedExtern) → AllByRecursion (λ e. extern_named e.name others ≡ Some e.desc) xs → AllByRecursion (λ e. HasItemNames e.desc) xs → AllAlike (entries_from l others n xs)
externs_alike l others n [] h k = tt
externs_alike l others n (x ∷ xs) h k =
    all_both (λ e. Alike e.what) (extern_entries l n (extern_named x.name others) x.desc) (entries_from l others (n + 1) xs)
    (subst (λ (o : Option ExternTy). AllAlike (extern_entries l n o x.desc)) (sym h.0) (extern_alike l n x.desc k.0)) (externs_alike l others (n + 1) xs h.1 k.1)

-- ---- pairs

meets_alike : (r : ResourceId) (what : Comparison) → Alike what → meets_world r what ≡ meets_have r what
meets_alike r nothing h = absurd h
meets_alike r two_sorts h = absurd h
meets_alike r (two_funcs f g) h = refl
meets_alike r (two_types x y) h = refl
meets_alike r (two_resources a b) h = ap (same_resource r) h

same_pair : (r : ResourceId) (i : ℕ) (es : List Entry) → AllAlike es → position_from (λ e. meets_world r e.what) i es ≡ position_from (λ e. meets_have r e.what) i es
same_pair r i [] h = refl
same_pair r i (e ∷ es) h =
    ap (λ (b : Bool). cond b (Some i) (position_from (λ e. meets_world r e.what) (i + 1) es)) (meets_alike r e.what h.0)
    ∙ ap (λ (o : Option ℕ). cond (meets_have r e.what) (Some i) o) (same_pair r (i + 1) es h.1)

there : (r : ResourceId) (i : ℕ) (front : List Entry) (e : Entry) (rest : List Entry) → meets_world r e.what ≡ true → (n : ℕ) × (position_from (λ e. meets_world r e.what) i (front ++ e ∷ rest) ≡ Some n)
there r i [] e rest h = (i, ap (λ (b : Bool). cond b (Some i) (position_from (λ e. meets_world r e.what) (i + 1) rest)) h)
there r i (f ∷ front) e rest h = elim (cases_Bool (meets_world r f.what)) [
  | inl y ↦ (i, ap (λ (b : Bool). cond b (Some i) (position_from (λ e. meets_world r e.what) (i + 1) (front ++ e ∷ rest))) y)
  | inr m ↦
      let k = there r (i + 1) front e rest h in
      (k.0, ap (λ (b : Bool). cond b (Some i) (position_from (λ e. meets_world r e.what) (i + 1) (front ++ e ∷ rest))) m ∙ k.1)
]

-- ---- types

mutual
  agree : (P : ResourceId → Type 0) (u v : Standing) → ((r : ResourceId) → P r → u r ≡ v r) → (t : Ty) → AllResources P t → replaced u t ≡ replaced v t
  agree P u v a bool h = refl
  agree P u v a (signed w) h = refl
  agree P u v a (unsigned w) h = refl
  agree P u v a char h = refl
  agree P u v a string h = refl
  agree P u v a (list t) h = ap list (agree P u v a t h)
  agree P u v a (fixed_list t n) h = ap (λ (x : Ty). fixed_list x n) (agree P u v a t h)
  agree P u v a (fields k fs) h = ap (fields k) (agree_fields P u v a fs h)
  agree P u v a (cases k cs) h = ap (cases k) (agree_cases P u v a cs h)
  agree P u v a (flags ls) h = refl
  agree P u v a (own r) h = ap own (a r h)
  agree P u v a (borrow r) h = ap borrow (a r h)

  agree_fields : (P : ResourceId → Type 0) (u v : Standing) → ((r : ResourceId) → P r → u r ≡ v r) → (fs : Fields) → AllFieldResources P fs → replaced_fields u fs ≡ replaced_fields v fs
  agree_fields P u v a no_fields h = refl
  agree_fields P u v a (field l t fs) h = ap (λ (x : Ty). field l x (replaced_fields u fs)) (agree P u v a t h.0) ∙ ap (field l (replaced v t)) (agree_fields P u v a fs h.1)

  agree_cases : (P : ResourceId → Type 0) (u v : Standing) → ((r : ResourceId) → P r → u r ≡ v r) → (cs : Cases) → AllCaseResources P cs → replaced_cases u cs ≡ replaced_cases v cs
  agree_cases P u v a no_cases h = refl
  agree_cases P u v a (plain l cs) h = ap (plain l) (agree_cases P u v a cs h)
  agree_cases P u v a (carrying l t cs) h = ap (λ (x : Ty). carrying l x (replaced_cases u cs)) (agree P u v a t h.0) ∙ ap (carrying l (replaced v t)) (agree_cases P u v a cs h.1)

agree_result : (P : ResourceId → Type 0) (u v : Standing) → ((r : ResourceId) → P r → u r ≡ v r) → (o : Option Ty) → IfSome o (AllResources P) → option_map (replaced u) o ≡ option_map (replaced v) o
agree_result P u v a None h = refl
agree_result P u v a (Some t) h = ap Some (agree P u v a t h)

func_of : Fields → Option Ty → FuncTy
func_of params result = record { params = params; result = result }

agree_func : (P : ResourceId → Type 0) (u v : Standing) → ((r : ResourceId) → P r → u r ≡ v r) → (f : FuncTy) → AllFieldResources P f.params → IfSome f.result (AllResources P) → replaced_func u f ≡ replaced_func v f
unfolding func_of
agree_func P u v a f h k =
    ap (λ (fs : Fields). func_of fs (option_map (replaced u) f.result)) (agree_fields P u v a f.params h)
    ∙ ap (func_of (replaced_fields v f.params)) (agree_result P u v a f.result k)

-- ---- all

module _ (all : List Entry) (alike : AllAlike all) where
  marks : (r : ResourceId) → IsNamed all r → have_mark all r ≡ world_mark all r
  marks r named = ap (mark 1) named.1 ∙ sym (ap (mark 2) (sym (same_pair r 0 all alike) ∙ named.1))

  one_fits : (what : Comparison) → Alike what → HasNamed all what → ((a b : ResourceId) → what ≡ two_resources a b → IsNamed all a) → Fits all what
  one_fits nothing h k n = h
  one_fits two_sorts h k n = h
  one_fits (two_funcs f g) h k n = agree_func (IsNamed all) (have_mark all) (world_mark all) marks f k.0 k.1 ∙ ap (replaced_func (world_mark all)) h
  one_fits (two_types x y) h k n = agree (IsNamed all) (have_mark all) (world_mark all) marks x k ∙ ap (replaced (world_mark all)) h
  one_fits (two_resources a b) h k n = marks a (n a b refl) ∙ ap (world_mark all) h

  rest_fits : (front es : List Entry) → all ≡ front ++ es → AllAlike es → AllByRecursion (λ e. HasNamed all e.what) es → AllFit all es
  rest_fits front [] split h k = tt
  rest_fits front (e ∷ es) split h k = (
    one_fits e.what h.0 k.0 (λ a b is. subst (λ (xs : List Entry). (n : ℕ) × (position_from (λ e. meets_world a e.what) 0 xs ≡ Some n)) (sym split) (there a 0 front e es (ap (meets_world a) is ∙ resource_same a))),
    rest_fits (front ++ e ∷ []) es (split ∙ sym (append_assoc front (e ∷ []) es)) h.1 k.1,
  )

pub fits_itself : (s : SignatureTy) → IsWellNamed s → Conforms s s
fits_itself s w =
    let alike = all_both (λ e. Alike e.what) (entries_from walked.WorldExports s.exports 0 s.exports) (entries_from walked.HaveImports s.imports 0 s.imports)
    (externs_alike walked.WorldExports s.exports 0 s.exports w.exports_named.externs_named w.exports_named.items_named)
    (externs_alike walked.HaveImports s.imports 0 s.imports w.imports_named.externs_named w.imports_named.items_named) in
    rest_fits (entries s s) alike [] (entries s s) refl alike w.resources_named
