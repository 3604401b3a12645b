-- What declarations lead to and break besides the limits, by sketches.
use Rattle.std.proofs.Common.{◌≡◌, ℕ, zero, suc, ◌+◌, Bool, true, List, [], ◌∷◌, ◌++◌, map, Option, Some, None, refl, sym, ap, ◌∙◌, slice_get, option_to_list, unwrap_or}
use Rattle.std.specs.Option.{option_map, option_and_then}
use Rattle.std.proofs.lemmas.Option.{slice_get-map}
use Rattle.cm_types.specs.DefTypes.{DeclarationTree, DefValTypeTree, FuncTypeTree, declared_func, declared_value, export_decl, outer_type_decl, type_decl}
use Rattle.cm_types.specs.declared.def_types.ExportDesc.{ExportDesc}
use Rattle.cm_types.specs.declared.def_types.ExportDesc.TheVariants as desc
use Rattle.cm_types.specs.declared.def_types.TypeBound.TheVariants as bound
use Rattle.cm_types.specs.Signatures.{ItemTy, NamedItem, fresh_resource}
use Rattle.cm_validate_model.specs.declared.fault.ValidReason.{ValidReason}
use Rattle.cm_validate_model.specs.declared.fault.ValidReason.TheVariants as reason
use Rattle.cm_validate_model.specs.Declarations.{Scope, after_declaration, after_declarations, declaration_broken, declarations_broken, export_desc_broken, func_in, outer_type_of, type_in, with_export, with_item, with_type}
use Rattle.cm_validate_model.specs.Definitions.{TypeDef, faulty, func_type, instance_type, resource, sorts_of, value}
use Rattle.cm_validate_model.specs.Reasons.{found, unless}
use Rattle.cm_validate_model.specs.Scopes.{func_def_of, resource_id, value_def_of}
use Rattle.cm_validate_model.specs.TypeRules.{func_def_broken, has_sort, is_value_or_resource, value_def_broken}
use Rattle.cm_validate_model.specs.declared.sorts.TypeSort.{TypeSort}
use Rattle.cm_validate_model.specs.declared.sorts.TypeSort.TheVariants as sort
use Rattle.cm_validate_instances.specs.ItemSketches.{named_sketch, sketch_item}
use Rattle.cm_validate_instances.specs.declared.item_sketches.ItemSketch.{ItemSketch}
use Rattle.cm_validate_instances.specs.Definitions.{func_def_sketch, value_def_sketch}
use Rattle.cm_validate_instances.specs.Faults.{besides_limits, func_def_faults, value_def_faults}
use Rattle.cm_validate_instances.specs.Sketches.{sketch_of, sketch_sort}
use Rattle.cm_validate_instances.specs.declared.sketches.Sketch.{Sketch}
use Rattle.cm_validate_instances.specs.declared.sketches.Sketch.TheVariants as sketch
use Rattle.cm_validate_instances.specs.SketchScopes.{SketchScope, after_all_sketched, after_sketched, declaration_faults, declarations_faults, func_item_in, outer_sketched, sketch_export, sketch_item_more, sketch_more, sketch_scope, type_item_in}
use Rattle.cm_validate_instances.proofs.DefinitionFaultLaws.{are_before, before_both, before_unless, besides_both}

-- ---- lists

map_more : {A B : Type 0} (f : A → B) (xs ys : List A) → map f (xs ++ ys) ≡ map f xs ++ map f ys
map_more f [] ys = refl
map_more f (x ∷ xs) ys = ap (λ zs. f x ∷ zs) (map_more f xs ys)

one_item : (name : List ℕ) (d : Option ItemTy) → map named_sketch (option_to_list (option_map (λ i. record { name = name; desc = i }) d)) ≡ option_to_list (option_map (λ i. (name, i)) (option_map sketch_item d))
one_item name None = refl
one_item name (Some i) = refl

items_more : (items : List NamedItem) (name : List ℕ) (d : Option ItemTy) (e : Option ItemSketch) → option_map sketch_item d ≡ e
    → map named_sketch (with_item items name d) ≡ map named_sketch items ++ option_to_list (option_map (λ i. (name, i)) e)
items_more items name d e same =
    map_more named_sketch items (option_to_list (option_map (λ i. record { name = name; desc = i }) d))
    ∙ ap (λ ys. map named_sketch items ++ ys) (one_item name d ∙ ap (λ o. option_to_list (option_map (λ i. (name, i)) o)) same)

func_told : (o : Option TypeDef) → option_map sketch_item (option_and_then func_in o) ≡ option_and_then func_item_in (option_map sketch_of o)
func_told None = refl
func_told (Some (value t)) = refl
func_told (Some (func_type f)) = refl
func_told (Some (resource n)) = refl
func_told (Some (instance_type i)) = refl
func_told (Some faulty) = refl

type_told : (t : TypeDef) → option_map sketch_item (type_in t) ≡ type_item_in (sketch_of t)
type_told (value t) = refl
type_told (func_type f) = refl
type_told (resource n) = refl
type_told (instance_type i) = refl
type_told faulty = refl

faulty_told : (o : Option TypeDef) → sketch_of (unwrap_or o faulty) ≡ unwrap_or (option_map sketch_of o) sketch.Faulty
faulty_told None = refl
faulty_told (Some t) = refl

-- ---- one declaration

type_more : (s : Scope) (t : TypeDef) (u : Sketch) → sketch_of t ≡ u → sketch_scope (with_type s t) ≡ sketch_more (sketch_scope s) u
type_more s t u e =
    ap (λ ts. record { types = ts; next = s.next; items = map named_sketch s.items }) (map_more sketch_of s.types (t ∷ []) ∙ ap (λ v. map sketch_of s.types ++ v ∷ []) e)

item_more : (s : Scope) (name : List ℕ) (d : Option ItemTy) (e : Option ItemSketch) → option_map sketch_item d ≡ e
    → sketch_scope (record s { items = with_item s.items name d }) ≡ sketch_item_more (sketch_scope s) name e
item_more s name d e same = ap (λ is. record { types = map sketch_of s.types; next = s.next; items = is }) (items_more s.items name d e same)

both_more : (s : Scope) (name : List ℕ) (t : TypeDef) (d : Option ItemTy) → option_map sketch_item d ≡ type_item_in (sketch_of t)
    → sketch_scope (record s { types = s.types ++ t ∷ []; items = with_item s.items name d }) ≡ sketch_more (sketch_item_more (sketch_scope s) name (type_item_in (sketch_of t))) (sketch_of t)
both_more s name t d same =
    ap (λ ts. record { types = ts; next = s.next; items = map named_sketch (with_item s.items name d) }) (map_more sketch_of s.types (t ∷ []))
    ∙ ap (λ is. record { types = map sketch_of s.types ++ sketch_of t ∷ []; next = s.next; items = is }) (items_more s.items name d (type_item_in (sketch_of t)) same)

outer_told : (s : Scope) (count index : ℕ) → option_map sketch_of (outer_type_of s count index) ≡ outer_sketched s.around (sketch_scope s) count index
outer_told s zero index = sym (slice_get-map sketch_of s.types index)
outer_told s (suc zero) index = refl
outer_told s (suc (suc n)) index = refl

export_told : (s : Scope) (name : List ℕ) (d : ExportDesc) → sketch_scope (with_export s name d) ≡ sketch_export (sketch_scope s) name d
export_told s name (desc.Func i) =
    item_more s name (option_and_then func_in (slice_get s.types i)) (option_and_then func_item_in (slice_get (map sketch_of s.types) i))
    (func_told (slice_get s.types i) ∙ ap (option_and_then func_item_in) (sym (slice_get-map sketch_of s.types i)))
export_told s name (desc.Type (bound.Equal i)) =
    both_more s name (unwrap_or (slice_get s.types i) faulty) (type_in (unwrap_or (slice_get s.types i) faulty)) (type_told (unwrap_or (slice_get s.types i) faulty))
    ∙ ap (λ u. sketch_more (sketch_item_more (sketch_scope s) name (type_item_in u)) u)
    (faulty_told (slice_get s.types i) ∙ ap (λ o. unwrap_or o sketch.Faulty) (sym (slice_get-map sketch_of s.types i)))
export_told s name (desc.Type bound.SubResource) =
    ap (λ (x : SketchScope). record x { next = s.next + 1 }) (both_more s name (resource s.next) (Some (fresh_resource (resource_id s.next))) refl)

export_around : (s : Scope) (name : List ℕ) (d : ExportDesc) → (with_export s name d).around ≡ s.around
export_around s name (desc.Func i) = refl
export_around s name (desc.Type (bound.Equal i)) = refl
export_around s name (desc.Type bound.SubResource) = refl

pub same_around : (s : Scope) (d : DeclarationTree) → (after_declaration s d).around ≡ s.around
same_around s (type_decl t) = refl
same_around s (outer_type_decl o) = refl
same_around s (export_decl e) = export_around s e.name e.desc

-- ---- the laws of the crates below

abbrev pub ValueSketched : Type 0
ValueSketched = (types : List TypeDef) (v : DefValTypeTree) → sketch_of (value_def_of types v) ≡ value_def_sketch (map sketch_of types) v

abbrev pub FuncSketched : Type 0
FuncSketched = (types : List TypeDef) (f : FuncTypeTree) → sketch_of (func_def_of types f) ≡ func_def_sketch (map sketch_of types) f

abbrev pub Sorts : Type 0
Sorts = (types : List TypeDef) → sorts_of types ≡ map sketch_sort (map sketch_of types)

abbrev pub ValueFaults : Type 0
ValueFaults = (types : List TypeDef) (v : DefValTypeTree) → besides_limits (value_def_broken types v) ≡ value_def_faults (map sketch_of types) v

abbrev pub FuncFaults : Type 0
FuncFaults = (types : List TypeDef) (f : FuncTypeTree) → besides_limits (func_def_broken types f) ≡ func_def_faults (map sketch_of types) f

abbrev pub ValueBefore : Type 0
ValueBefore = (types : List TypeDef) (v : DefValTypeTree) → are_before (besides_limits (value_def_broken types v)) ≡ true

abbrev pub FuncBefore : Type 0
FuncBefore = (types : List TypeDef) (f : FuncTypeTree) → are_before (besides_limits (func_def_broken types f)) ≡ true

abbrev pub Others : Type 0
Others = (rs : List ValidReason) → are_before rs ≡ true → besides_limits rs ≡ rs

-- ---- what declarations lead to

module _ (values : ValueSketched) (funcs : FuncSketched) where
  pub declaration_told : (s : Scope) (d : DeclarationTree) → sketch_scope (after_declaration s d) ≡ after_sketched s.around (sketch_scope s) d
  declaration_told s (type_decl (declared_value v)) = type_more s (value_def_of s.types v) (value_def_sketch (map sketch_of s.types) v) (values s.types v)
  declaration_told s (type_decl (declared_func f)) = type_more s (func_def_of s.types f) (func_def_sketch (map sketch_of s.types) f) (funcs s.types f)
  declaration_told s (outer_type_decl o) =
      type_more s (unwrap_or (outer_type_of s o.count o.index) faulty) (unwrap_or (outer_sketched s.around (sketch_scope s) o.count o.index) sketch.Faulty)
      (faulty_told (outer_type_of s o.count o.index) ∙ ap (λ u. unwrap_or u sketch.Faulty) (outer_told s o.count o.index))
  declaration_told s (export_decl e) = export_told s e.name e.desc

  pub declarations_told : (s : Scope) (ds : List DeclarationTree) → sketch_scope (after_declarations s ds) ≡ after_all_sketched s.around (sketch_scope s) ds
  declarations_told s [] = refl
  declarations_told s (d ∷ ds) =
      declarations_told (after_declaration s d) ds
      ∙ ap (λ around. after_all_sketched around (sketch_scope (after_declaration s d)) ds) (same_around s d)
      ∙ ap (λ x. after_all_sketched s.around x ds) (declaration_told s d)

-- ---- what they break

before_found : {A : Type 0} (test : A → Bool) (o : Option A) → are_before (found (λ t. unless (test t) reason.WrongSort) o) ≡ true
before_found test None = refl
before_found test (Some t) = before_unless (test t) reason.WrongSort refl

before_export : (sorts : List TypeSort) (d : ExportDesc) → are_before (export_desc_broken sorts d) ≡ true
before_export sorts (desc.Func i) = before_found (has_sort sort.Func) (slice_get sorts i)
before_export sorts (desc.Type (bound.Equal i)) = before_found is_value_or_resource (slice_get sorts i)
before_export sorts (desc.Type bound.SubResource) = refl

alias_told : (o : Option TypeDef) → besides_limits (found (λ t. []) o) ≡ found (λ t. []) (option_map sketch_of o)
alias_told None = refl
alias_told (Some t) = refl

before_alias : (o : Option TypeDef) → are_before (besides_limits (found (λ t. []) o)) ≡ true
before_alias None = refl
before_alias (Some t) = refl

module _ (values : ValueSketched) (funcs : FuncSketched) (sorts : Sorts) (value_faults : ValueFaults) (func_faults : FuncFaults) (others : Others) where
  fault_told : (s : Scope) (d : DeclarationTree) → besides_limits (declaration_broken s d) ≡ declaration_faults s.around (sketch_scope s) d
  fault_told s (type_decl (declared_value v)) = value_faults s.types v
  fault_told s (type_decl (declared_func f)) = func_faults s.types f
  fault_told s (outer_type_decl o) = alias_told (outer_type_of s o.count o.index) ∙ ap (found (λ t. [])) (outer_told s o.count o.index)
  fault_told s (export_decl e) =
      others (export_desc_broken (sorts_of s.types) e.desc) (before_export (sorts_of s.types) e.desc)
      ∙ ap (λ ss. export_desc_broken ss e.desc) (sorts s.types)

  pub faults_told : (s : Scope) (ds : List DeclarationTree) → besides_limits (declarations_broken s ds) ≡ declarations_faults s.around (sketch_scope s) ds
  faults_told s [] = refl
  faults_told s (d ∷ ds) =
      besides_both (declaration_broken s d) (declarations_broken (after_declaration s d) ds)
      ∙ ap (λ rs. rs ++ besides_limits (declarations_broken (after_declaration s d) ds)) (fault_told s d)
      ∙ ap (λ rs. declaration_faults s.around (sketch_scope s) d ++ rs)
      (faults_told (after_declaration s d) ds
      ∙ ap (λ around. declarations_faults around (sketch_scope (after_declaration s d)) ds) (same_around s d)
      ∙ ap (λ x. declarations_faults s.around x ds) (declaration_told values funcs s d))

module _ (others : Others) (value_before : ValueBefore) (func_before : FuncBefore) where
  fault_before : (s : Scope) (d : DeclarationTree) → are_before (besides_limits (declaration_broken s d)) ≡ true
  fault_before s (type_decl (declared_value v)) = value_before s.types v
  fault_before s (type_decl (declared_func f)) = func_before s.types f
  fault_before s (outer_type_decl o) = before_alias (outer_type_of s o.count o.index)
  fault_before s (export_decl e) =
      ap are_before (others (export_desc_broken (sorts_of s.types) e.desc) (before_export (sorts_of s.types) e.desc)) ∙ before_export (sorts_of s.types) e.desc

  pub faults_before : (s : Scope) (ds : List DeclarationTree) → are_before (besides_limits (declarations_broken s ds)) ≡ true
  faults_before s [] = refl
  faults_before s (d ∷ ds) =
      ap are_before (besides_both (declaration_broken s d) (declarations_broken (after_declaration s d) ds))
      ∙ before_both (besides_limits (declaration_broken s d)) (besides_limits (declarations_broken (after_declaration s d) ds)) (fault_before s d) (faults_before (after_declaration s d) ds)
