-- What breaks no rule on its parts has the type that its places spell.
use Rattle.std.proofs.Common.{◌≡◌, ℕ, List, [], ◌∷◌, ◌++◌, map, nat_lt, Option, Some, None, refl, sym, ap, ◌∙◌, slice_get, unwrap_or}
use Rattle.std.specs.List.{flat_map}
use Rattle.std.specs.Option.{option_map, option_and_then}
use Rattle.std.proofs.lemmas.Option.{slice_get-map}
use Rattle.cm_types.specs.declared.def_types.ValType.{ValType}
use Rattle.cm_types.specs.declared.def_types.ValType.TheVariants as val_type
use Rattle.cm_types.specs.declared.def_types.LabeledValType.{LabeledValType}
use Rattle.cm_types.specs.declared.def_types.CaseType.{CaseType}
use Rattle.cm_types.specs.DefTypes.{DefValTypeTree, FuncTypeTree, primitive, record_of, variant_of, list_of, fixed_list_of, tuple_of, flags_of, enum_of, option_of, result_of, own_of, borrow_of}
use Rattle.cm_types.specs.TypeTrees.{fields_from, parts_from, cases_from}
use Rattle.cm_types.specs.Types.{Ty, bool, own, borrow, fields, cases, record_type, tuple_type, variant_type, option_type, list, fixed_list}
use Rattle.cm_types.specs.declared.resource.ResourceId.{ResourceId}
use Rattle.cm_validate_model.specs.declared.fault.ValidReason.{ValidReason}
use Rattle.cm_validate_model.specs.declared.fault.ValidReason.TheVariants as reason
use Rattle.cm_validate_model.specs.declared.sorts.TypeSort.TheVariants as sort
use Rattle.cm_validate_model.specs.Definitions.{TypeDef, value, func_type, resource, instance_type, faulty, sort_of, sorts_of}
use Rattle.cm_validate_model.specs.Reasons.{unless, found, index_broken}
use Rattle.cm_validate_model.specs.Scopes.{value_in, resource_in, value_of, payload_of, fields_in, parts_in, cases_in, value_defined, func_defined, option_cases, handle_of, resource_id}
use Rattle.cm_validate_model.specs.TypeRules.{has_sort, value_broken, payload_broken, parts_broken, uses_broken, emptiness_broken, labels_broken}
use Rattle.cm_validate_types.specs.Expansion.{value_or_bool, resource_or_zero, labeled_or_bool, case_or_bool, type_or_bool, func_or_bool}
use Rattle.cm_lemmas.proofs.Lists.{nil_front, nil_rest}

-- ---- lists of reasons that are empty

-- ---- indices

value_by : (o : Option TypeDef) → found (λ s. unless (has_sort sort.Value s) reason.WrongSort) (option_map sort_of o) ≡ [] → option_and_then value_in o ≡ Some (unwrap_or (option_and_then value_in o) bool)
value_by None e = absurd cc
value_by (Some (value t)) e = refl
value_by (Some (func_type f)) e = absurd cc
value_by (Some (resource n)) e = absurd cc
value_by (Some (instance_type i)) e = absurd cc
value_by (Some faulty) e = absurd cc

resource_by : (o : Option TypeDef) → found (λ s. unless (has_sort sort.Resource s) reason.WrongSort) (option_map sort_of o) ≡ [] → option_and_then resource_in o ≡ Some (unwrap_or (option_and_then resource_in o) 0)
resource_by None e = absurd cc
resource_by (Some (value t)) e = absurd cc
resource_by (Some (func_type f)) e = absurd cc
resource_by (Some (resource n)) e = refl
resource_by (Some (instance_type i)) e = absurd cc
resource_by (Some faulty) e = absurd cc

module _ (types : List TypeDef) where
  pub value_there : (t : ValType) → value_broken (sorts_of types) t ≡ [] → value_of types t ≡ Some (value_or_bool types t)
  value_there (val_type.Primitive p) e = refl
  value_there (val_type.Index i) e =
      value_by (slice_get types i) (ap (found (λ s. unless (has_sort sort.Value s) reason.WrongSort)) (sym (slice_get-map sort_of types i)) ∙ e)

  pub payload_there : (p : Option ValType) → payload_broken (sorts_of types) p ≡ [] → payload_of types p ≡ Some (option_map (value_or_bool types) p)
  payload_there None e = refl
  payload_there (Some t) e = ap (option_map (λ x. Some x)) (value_there t e)

  handle_there : (h : ResourceId → Ty) (i : ℕ) → index_broken (has_sort sort.Resource) (sorts_of types) i ≡ [] → handle_of h types i ≡ Some (h (resource_id (resource_or_zero types i)))
  handle_there h i e =
      ap (option_map (λ n. h (resource_id n))) (resource_by (slice_get types i) (ap (found (λ s. unless (has_sort sort.Resource s) reason.WrongSort)) (sym (slice_get-map sort_of types i)) ∙ e))

  pub fields_there : (fs : List LabeledValType) → flat_map (λ f. value_broken (sorts_of types) f.ty) fs ≡ [] → fields_in types fs ≡ Some (fields_from (map (labeled_or_bool types) fs))
  fields_there [] e = refl
  fields_there (f ∷ fs) e =
      let now = value_there f.ty (nil_front (value_broken (sorts_of types) f.ty) (flat_map (λ g. value_broken (sorts_of types) g.ty) fs) e) in
      let rest = fields_there fs (nil_rest (value_broken (sorts_of types) f.ty) (flat_map (λ g. value_broken (sorts_of types) g.ty) fs) e) in
      rw (now, rest) refl

  parts_there : (ts : List ValType) → flat_map (value_broken (sorts_of types)) ts ≡ [] → parts_in types ts ≡ Some (parts_from (map (value_or_bool types) ts))
  parts_there [] e = refl
  parts_there (t ∷ ts) e =
      let now = value_there t (nil_front (value_broken (sorts_of types) t) (flat_map (value_broken (sorts_of types)) ts) e) in
      let rest = parts_there ts (nil_rest (value_broken (sorts_of types) t) (flat_map (value_broken (sorts_of types)) ts) e) in
      rw (now, rest) refl

  cases_there : (cs : List CaseType) → flat_map (λ c. payload_broken (sorts_of types) c.payload) cs ≡ [] → cases_in types cs ≡ Some (cases_from (map (case_or_bool types) cs))
  cases_there [] e = refl
  cases_there (c ∷ cs) e =
      let now = payload_there c.payload (nil_front (payload_broken (sorts_of types) c.payload) (flat_map (λ d. payload_broken (sorts_of types) d.payload) cs) e) in
      let rest = cases_there cs (nil_rest (payload_broken (sorts_of types) c.payload) (flat_map (λ d. payload_broken (sorts_of types) d.payload) cs) e) in
      rw (now, rest) refl

  result_there : (ok error : Option ValType) → payload_broken (sorts_of types) ok ≡ [] → payload_broken (sorts_of types) error ≡ [] → value_defined types (result_of ok error) ≡ Some (type_or_bool types (result_of ok error))
  result_there ok error e f = rw (payload_there ok e, payload_there error f) refl

  -- the first two of three lists, and the first of them
  front : (a b c : List ValidReason) → (a ++ b) ++ c ≡ [] → a ≡ []
  front a b c e = nil_front a b (nil_front (a ++ b) c e)

  pub defined_there : (v : DefValTypeTree) → parts_broken (sorts_of types) v ≡ [] → value_defined types v ≡ Some (type_or_bool types v)
  defined_there (primitive p) e = refl
  defined_there (record_of fs) e =
      ap (option_map (fields record_type)) (fields_there fs (front (flat_map (λ f. value_broken (sorts_of types) f.ty) fs) (emptiness_broken fs) (labels_broken (map (λ f. f.label) fs)) e))
  defined_there (variant_of cs) e =
      ap (option_map (cases variant_type)) (cases_there cs (front (flat_map (λ c. payload_broken (sorts_of types) c.payload) cs) (emptiness_broken cs) (labels_broken (map (λ c. c.label) cs)) e))
  defined_there (list_of t) e = ap (option_map list) (value_there t e)
  defined_there (fixed_list_of t n) e =
      ap (option_map (λ x. fixed_list x n)) (value_there t (nil_front (value_broken (sorts_of types) t) (unless (nat_lt 0 n) reason.EmptyType) e))
  defined_there (tuple_of ts) e = ap (option_map (fields tuple_type)) (parts_there ts (nil_front (flat_map (value_broken (sorts_of types)) ts) (emptiness_broken ts) e))
  defined_there (flags_of ls) e = refl
  defined_there (enum_of ls) e = refl
  defined_there (option_of t) e = ap (option_map (λ x. cases option_type (option_cases x))) (value_there t e)
  defined_there (result_of ok error) e =
      result_there ok error (nil_front (payload_broken (sorts_of types) ok) (payload_broken (sorts_of types) error) e) (nil_rest (payload_broken (sorts_of types) ok) (payload_broken (sorts_of types) error) e)
  defined_there (own_of i) e = handle_there own i e
  defined_there (borrow_of i) e = handle_there borrow i e

  pub func_there : (f : FuncTypeTree) → uses_broken (sorts_of types) f ≡ [] → func_defined types f ≡ Some (func_or_bool types f)
  func_there f e =
      let ps = fields_there f.params (nil_front (flat_map (λ p. value_broken (sorts_of types) p.ty) f.params) (payload_broken (sorts_of types) f.result) e) in
      let r = payload_there f.result (nil_rest (flat_map (λ p. value_broken (sorts_of types) p.ty) f.params) (payload_broken (sorts_of types) f.result) e) in
      rw (ps, r) refl
