-- The items of the type of an instance stand behind the resources that they name.
use Rattle.std.proofs.Common.{◌≡◌, ◌∙◌, ℕ, ◌+◌, ◌-◌, ◌≤◌, List, [], ◌∷◌, ◌++◌, Option, Some, None, refl, ap, sym, subst, arith, slice_get, option_and_then}
use Rattle.std.specs.Prelude.{IfSome, unwrap_or}
use Rattle.std.proofs.lemmas.List.{append_assoc}
use Rattle.cm_types.specs.DefTypes.{DeclarationTree, type_decl, outer_type_decl, export_decl, instance_def}
use Rattle.cm_types.specs.declared.def_types.ExportDesc.{ExportDesc}
use Rattle.cm_types.specs.declared.def_types.ExportDesc.TheVariants as desc
use Rattle.cm_types.specs.declared.def_types.TypeBound.TheVariants as bound
use Rattle.cm_types.specs.Signatures.{ItemTy, NamedItem, fresh_resource}
use Rattle.cm_validate_model.specs.Declarations.{Scope, scope_in, func_in, type_in, with_item, with_export, after_declaration, after_declarations, instance_defined}
use Rattle.cm_validate_model.specs.Definitions.{TypeDef, value, func_type, resource, instance_type, faulty}
use Rattle.cm_validate_model.specs.Items.{Item, type_item}
use Rattle.cm_validate_model.specs.Scopes.{resource_id}
use Rattle.cm_validate_model.specs.Spaces.{Spaces, after_item, next_resource}
use Rattle.cm_validate_model.specs.Counted.{IsItemCounted}
use Rattle.cm_validate_model.specs.CountedSpaces.{AreItemsCounted, AreSpacesCounted, IsDefCounted}
use Rattle.cm_match_model.specs.Brought.{AreInOrder, IsInOrder, behind}
use Rattle.cm_match_model.proofs.AlikeLists.{of_last}
use Rattle.cm_lemmas.proofs.Lists.{nil_right}

-- ---- items one after another

-- the number of the next resource behind items
abbrev pub behind_all : ℕ → List NamedItem → ℕ
behind_all n [] = n
behind_all n (i ∷ is) = behind_all (behind n i.desc) is

pub order_joined : (n : ℕ) (is js : List NamedItem) → AreInOrder n is → AreInOrder (behind_all n is) js → AreInOrder n (is ++ js)
order_joined n [] js h k = k
order_joined n (i ∷ is) js h k = (h.0, order_joined (behind n i.desc) is js h.1 k)

behind_joined : (n : ℕ) (is js : List NamedItem) → behind_all n (is ++ js) ≡ behind_all (behind_all n is) js
behind_joined n [] js = refl
behind_joined n (i ∷ is) js = behind_joined (behind n i.desc) is js

-- ---- declarations

-- after so many declarations: the items are in order, and the next resource is that behind them
record Ordered (first : ℕ) (s : Scope) : Type 0 where
  after : first ≤ s.next
  order : AreInOrder first s.items
  next : behind_all first s.items ≡ s.next

-- an item that brings no resource
abbrev IsOld : ItemTy → Type 0
IsOld d = (n : ℕ) → IsItemCounted n d → IsInOrder n d × (behind n d ≡ n)

func_is_old : (o : Option TypeDef) → IfSome (option_and_then func_in o) IsOld
func_is_old None = tt {0}
func_is_old (Some (value t)) = tt {0}
func_is_old (Some (func_type f)) = λ n h. (h, refl)
func_is_old (Some (resource k)) = tt {0}
func_is_old (Some (instance_type i)) = tt {0}
func_is_old (Some faulty) = tt {0}

type_is_old : (d : TypeDef) → IfSome (type_in d) IsOld
type_is_old (value t) = λ n h. (h, refl)
type_is_old (func_type f) = tt {0}
type_is_old (resource k) = λ n h. (h, refl)
type_is_old (instance_type i) = tt {0}
type_is_old faulty = tt {0}

-- one more item, which brings no resource
with_old : (first : ℕ) (s : Scope) → Ordered first s → (name : List ℕ) (o : Option ItemTy) → IfSome o IsOld → AreItemsCounted s.next (with_item s.items name o)
    → AreInOrder first (with_item s.items name o) × (behind_all first (with_item s.items name o) ≡ s.next)
with_old first s h name None old counted = (subst (AreInOrder first) (sym (nil_right s.items)) h.order, ap (behind_all first) (nil_right s.items) ∙ h.next)
with_old first s h name (Some d) old counted =
    let i : NamedItem = record { name = name; desc = d } in
    let k = old s.next (of_last (λ (x : NamedItem). IsItemCounted s.next x.desc) s.items i counted) in (
      order_joined first s.items (i ∷ []) h.order (subst (λ n. IsInOrder n d) (sym h.next) k.0, tt {0}),
      behind_joined first s.items (i ∷ []) ∙ ap (λ n. behind n d) h.next ∙ k.1,
    )

with_fresh_one : (first : ℕ) (s : Scope) → Ordered first s → (name : List ℕ) → Ordered first (with_export s name (desc.Type bound.SubResource))
with_fresh_one first s h name =
    let i : NamedItem = record { name = name; desc = fresh_resource (resource_id s.next) } in
    record {
      after = omega (arith, h.after);
      order = order_joined first s.items (i ∷ []) h.order (ap resource_id (sym h.next), tt {0});
      next = behind_joined first s.items (i ∷ []) ∙ ap (λ n. n + 1) h.next;
    }

exported_one : (first : ℕ) (s : Scope) → Ordered first s → (name : List ℕ) (d : ExportDesc) → AreItemsCounted (with_export s name d).next (with_export s name d).items
    → Ordered first (with_export s name d)
exported_one first s h name (desc.Func i) counted =
    let k = with_old first s h name (option_and_then func_in (slice_get s.types i)) (func_is_old (slice_get s.types i)) counted in
    record { after = h.after; order = k.0; next = k.1 }
exported_one first s h name (desc.Type (bound.Equal i)) counted =
    let d = unwrap_or (slice_get s.types i) faulty in
    let k = with_old first s h name (type_in d) (type_is_old d) counted in
    record { after = h.after; order = k.0; next = k.1 }
exported_one first s h name (desc.Type bound.SubResource) counted = with_fresh_one first s h name

declared_one : (first : ℕ) (s : Scope) → Ordered first s → (d : DeclarationTree) → AreItemsCounted (after_declaration s d).next (after_declaration s d).items
    → Ordered first (after_declaration s d)
declared_one first s h (type_decl t) counted = record { after = h.after; order = h.order; next = h.next }
declared_one first s h (outer_type_decl o) counted = record { after = h.after; order = h.order; next = h.next }
declared_one first s h (export_decl e) counted = exported_one first s h e.name e.desc counted

declared_both : (s : Scope) (ds es : List DeclarationTree) → after_declarations s (ds ++ es) ≡ after_declarations (after_declarations s ds) es
declared_both s [] es = refl
declared_both s (d ∷ ds) es = declared_both (after_declaration s d) ds es

-- resources only come
exported_grows : (s : Scope) (name : List ℕ) (d : ExportDesc) → s.next ≤ (with_export s name d).next
exported_grows s name (desc.Func i) = omega arith
exported_grows s name (desc.Type (bound.Equal i)) = omega arith
exported_grows s name (desc.Type bound.SubResource) = omega arith

declared_grows : (s : Scope) (d : DeclarationTree) → s.next ≤ (after_declaration s d).next
declared_grows s (type_decl t) = omega arith
declared_grows s (outer_type_decl o) = omega arith
declared_grows s (export_decl e) = exported_grows s e.name e.desc

-- where the items after any declarations are counted
module _ (types : List TypeDef) (first : ℕ) (counted : (ds : List DeclarationTree) → AreItemsCounted (first + ((after_declarations (scope_in types first) ds).next - first)) (after_declarations (scope_in types first) ds).items) where
  one_more : (ds : List DeclarationTree) (d : DeclarationTree) → Ordered first (after_declarations (scope_in types first) ds) → Ordered first (after_declarations (scope_in types first) (ds ++ d ∷ []))
  one_more ds d h =
      let s = after_declarations (scope_in types first) ds in
      let e : after_declarations (scope_in types first) (ds ++ d ∷ []) ≡ after_declaration s d = declared_both (scope_in types first) ds (d ∷ []) in
      let k : AreItemsCounted (first + ((after_declaration s d).next - first)) (after_declaration s d).items = subst (λ (v : Scope). AreItemsCounted (first + (v.next - first)) v.items) e (counted (ds ++ d ∷ [])) in
      let le : s.next ≤ (after_declaration s d).next = declared_grows s d in
      let whole : first + ((after_declaration s d).next - first) ≡ (after_declaration s d).next = omega (arith, le, h.after) in
      subst (Ordered first) (sym e) (declared_one first s h d (subst (λ n. AreItemsCounted n (after_declaration s d).items) whole k))

  all_more : (ds es : List DeclarationTree) → Ordered first (after_declarations (scope_in types first) ds) → Ordered first (after_declarations (scope_in types first) (ds ++ es))
  all_more ds [] h = subst (λ l. Ordered first (after_declarations (scope_in types first) l)) (sym (nil_right ds)) h
  all_more ds (e ∷ es) h = subst (λ l. Ordered first (after_declarations (scope_in types first) l)) (append_assoc ds (e ∷ []) es) (all_more (ds ++ e ∷ []) es (one_more ds e h))

  ordered : (ds : List DeclarationTree) → AreInOrder first (instance_defined types first ds).items
  ordered ds =
      let none : Ordered first (scope_in types first) = record { after = omega arith; order = tt {0}; next = refl } in
      (all_more [] ds none).order

-- the type of an instance, where what stands before it and it are counted
defined_counted : (s : Spaces) (ds : List DeclarationTree) → AreSpacesCounted (after_item s (type_item (instance_def ds)))
    → AreItemsCounted (next_resource s + ((after_declarations (scope_in s.types (next_resource s)) ds).next - next_resource s)) (after_declarations (scope_in s.types (next_resource s)) ds).items
defined_counted s ds c =
    (of_last (IsDefCounted (next_resource (after_item s (type_item (instance_def ds))))) s.types (instance_type (instance_defined s.types (next_resource s) ds)) c.types).items

pub type_ordered : (s : Spaces) → ((x : Item) → AreSpacesCounted (after_item s x)) → (ds : List DeclarationTree) → AreInOrder (next_resource s) (instance_defined s.types (next_resource s) ds).items
type_ordered s told ds = ordered s.types (next_resource s) (λ es. defined_counted s es (told (type_item (instance_def es)))) ds
