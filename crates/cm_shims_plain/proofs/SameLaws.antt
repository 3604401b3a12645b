-- Where types stand at their own indices, items stay as they are.
use Rattle.std.proofs.Common.{◌≡◌, ℕ, ◌<◌, ◌==◌, max, List, [], ◌∷◌, length, map, get_or, Option, Some, None, refl, sym, ap, ◌∙◌, arith, inl, inr}
use Rattle.std.specs.Option.{option_map}
use Rattle.std.proofs.lemmas.Bool.{cases_Bool, cases_lt}
use Rattle.std.proofs.lemmas.List.{get_or_append_left, get_or_past, length-append}
use Rattle.std.proofs.Math.Seq.{get_or-append_seam}
use Rattle.cm_types.specs.declared.def_types.ValType.{ValType}
use Rattle.cm_types.specs.declared.def_types.ValType.TheVariants as val_types
use Rattle.cm_types.specs.declared.def_types.LabeledValType.{LabeledValType}
use Rattle.cm_types.specs.declared.def_types.CaseType.{CaseType}
use Rattle.cm_types.specs.declared.def_types.OuterType.{OuterType}
use Rattle.cm_types.specs.DefTypes as types
use Rattle.cm_types.specs.DefTypes.{DefValTypeTree, FuncTypeTree, DeclarationTree, DefTypeTree}
use Rattle.cm_types.specs.DefTypes.{value_def, func_def, resource_def, instance_def}
use Rattle.cm_binary_model.specs.declared.instances.InlineExport.{InlineExport}
use Rattle.cm_binary_model.specs.declared.instances.InstanceExportSort.{InstanceExportSort}
use Rattle.cm_binary_model.specs.declared.instances.InstanceExportSort.TheVariants as sorts
use Rattle.cm_binary_model.specs.Trees as trees
use Rattle.cm_binary_model.specs.Trees.{AliasTree, CanonTree}
use Rattle.cm_shims_plain.specs.Instantiated.{define_type}
use Rattle.cm_shims_plain.specs.Renumbered.{renumbered_val, renumbered_field, renumbered_case, renumbered_value, renumbered_func, renumbered_outer, renumbered_declaration, renumbered_def, renumbered_index, renumbered_export, renumbered_alias, renumbered_canon}
use Rattle.cm_shims_plain.specs.Spaces.{Types, place}

-- Each type stands at its own index.
pub record IsSame (s : Types) : Type 0 where
  pub count : length s.places ≡ s.count
  pub at : (i d : ℕ) → i < s.count → get_or s.places i d ≡ i

pub place_same : (s : Types) → IsSame s → (i : ℕ) → place s i ≡ i
place_same s h i =
    elim (cases_lt i s.count) [
      | inl lt ↦ h.at i (max i s.count) lt
      | inr le ↦ get_or_past s.places i (max i s.count) (omega (arith, h.count, le)) ∙ omega (arith, le)
    ]

pub define_same : (s : Types) → IsSame s → IsSame (define_type s)
define_same s h = record {
  count = omega (arith, h.count, length-append s.places (s.count ∷ []));
  at = λ i d lt. elim (cases_lt i s.count) [
    | inl less ↦ get_or_append_left s.places (s.count ∷ []) d i (omega (arith, h.count, less)) ∙ h.at i d less
    | inr le ↦
        let here : i ≡ length s.places = omega (arith, h.count, lt, le) in
        rw here (get_or-append_seam s.places s.count [] d ∙ sym h.count)
  ];
}

map_same : {A : Type 0} (g : A → A) → ((x : A) → g x ≡ x) → (xs : List A) → map g xs ≡ xs
map_same g h [] = refl
map_same g h (x ∷ xs) = rw (h x, map_same g h xs) refl

option_same : {A : Type 0} (g : A → A) → ((x : A) → g x ≡ x) → (o : Option A) → option_map g o ≡ o
option_same g h None = refl
option_same g h (Some x) = rw (h x) refl

abbrev Same : (ℕ → ℕ) → Type 0
Same f = (i : ℕ) → f i ≡ i

val_same : (f : ℕ → ℕ) → Same f → (t : ValType) → renumbered_val f t ≡ t
val_same f h (val_types.Primitive p) = refl
val_same f h (val_types.Index i) = rw (h i) refl

field_same : (f : ℕ → ℕ) → Same f → (x : LabeledValType) → renumbered_field f x ≡ x
field_same f h x = rw (val_same f h x.ty) refl

case_same : (f : ℕ → ℕ) → Same f → (c : CaseType) → renumbered_case f c ≡ c
case_same f h c = rw (option_same (renumbered_val f) (val_same f h) c.payload) refl

value_same : (f : ℕ → ℕ) → Same f → (v : DefValTypeTree) → renumbered_value f v ≡ v
value_same f h (types.primitive p) = refl
value_same f h (types.record_of fields) = ap types.record_of (map_same (renumbered_field f) (field_same f h) fields)
value_same f h (types.variant_of cases) = ap types.variant_of (map_same (renumbered_case f) (case_same f h) cases)
value_same f h (types.list_of element) = ap types.list_of (val_same f h element)
value_same f h (types.fixed_list_of element n) = ap (λ (e : ValType). types.fixed_list_of e n) (val_same f h element)
value_same f h (types.tuple_of parts) = ap types.tuple_of (map_same (renumbered_val f) (val_same f h) parts)
value_same f h (types.flags_of labels) = refl
value_same f h (types.enum_of labels) = refl
value_same f h (types.option_of some) = ap types.option_of (val_same f h some)
value_same f h (types.result_of ok error) = rw (option_same (renumbered_val f) (val_same f h) ok, option_same (renumbered_val f) (val_same f h) error) refl
value_same f h (types.own_of resource) = ap types.own_of (h resource)
value_same f h (types.borrow_of resource) = ap types.borrow_of (h resource)

func_same : (f : ℕ → ℕ) → Same f → (t : FuncTypeTree) → renumbered_func f t ≡ t
func_same f h t = rw (map_same (renumbered_field f) (field_same f h) t.params, option_same (renumbered_val f) (val_same f h) t.result) refl

outer_same : (n : ℕ) (f : ℕ → ℕ) → Same f → (o : OuterType) → renumbered_outer n f o ≡ o
outer_same n f h o =
    elim (cases_Bool (o.count == n)) [
      | inl t ↦ rw (t, h o.index) refl
      | inr e ↦ rw e refl
    ]

declaration_same : (f : ℕ → ℕ) → Same f → (d : DeclarationTree) → renumbered_declaration f d ≡ d
declaration_same f h (types.type_decl t) = refl
declaration_same f h (types.outer_type_decl outer) = ap types.outer_type_decl (outer_same 1 f h outer)
declaration_same f h (types.export_decl e) = refl

pub def_same : (f : ℕ → ℕ) → Same f → (t : DefTypeTree) → renumbered_def f t ≡ t
def_same f h (value_def v) = ap value_def (value_same f h v)
def_same f h (func_def t) = ap func_def (func_same f h t)
def_same f h (resource_def destructor) = refl
def_same f h (instance_def declarations) = ap instance_def (map_same (renumbered_declaration f) (declaration_same f h) declarations)

index_same : (f : ℕ → ℕ) → Same f → (s : InstanceExportSort) (i : ℕ) → renumbered_index f s i ≡ i
index_same f h sorts.Func i = refl
index_same f h sorts.Type i = h i

export_same : (f : ℕ → ℕ) → Same f → (e : InlineExport) → renumbered_export f e ≡ e
export_same f h e = rw (index_same f h e.sort e.index) refl

pub exports_same : (f : ℕ → ℕ) → Same f → (es : List InlineExport) → map (renumbered_export f) es ≡ es
exports_same f h es = map_same (renumbered_export f) (export_same f h) es

pub alias_same : (f : ℕ → ℕ) → Same f → (a : AliasTree) → renumbered_alias f a ≡ a
alias_same f h (trees.instance_export sort instance name) = refl
alias_same f h (trees.core_instance_export sort instance name) = refl
alias_same f h (trees.outer_type outer) = ap trees.outer_type (outer_same 0 f h outer)

canon_same : (f : ℕ → ℕ) → Same f → (c : CanonTree) → renumbered_canon f c ≡ c
canon_same f h (trees.lift func options ty) = ap (trees.lift func options) (h ty)
canon_same f h (trees.lower func options) = refl
canon_same f h (trees.resource_new resource) = ap trees.resource_new (h resource)
canon_same f h (trees.resource_drop resource) = ap trees.resource_drop (h resource)
canon_same f h (trees.resource_rep resource) = ap trees.resource_rep (h resource)

pub canons_same : (f : ℕ → ℕ) → Same f → (cs : List CanonTree) → map (renumbered_canon f) cs ≡ cs
canons_same f h cs = map_same (renumbered_canon f) (canon_same f h) cs
