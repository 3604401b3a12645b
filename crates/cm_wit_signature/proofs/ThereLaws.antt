-- Where each name leads to a type, and that of a borrow to a resource, texts stand for something.
use Rattle.std.proofs.Common.{◌≡◌, ℕ, List, [], ◌∷◌, Option, Some, None, unwrap_or, slice_get, slice_index_or, refl, ap, ◌∙◌, sym}
use Rattle.std.specs.List.{AllByRecursion}
use Rattle.std.specs.Option.{option_map, option_and_then}
use Rattle.std.proofs.lemmas.Option.{unwrap_or-slice_get}
use Rattle.cm_types.specs.declared.resource.ResourceId.{ResourceId}
use Rattle.cm_types.specs.Types as cm
use Rattle.cm_types.specs.TypeTrees.{fields_from}
use Rattle.cm_names.specs.Keys.{Key}
use Rattle.cm_wit_reading.specs.Types.{Ty, Tys, primitive, named, borrow, list, fixed_list, option, tuple, plain_result, ok_result, error_result, result, no_types, types}
use Rattle.cm_wit_reading.specs.Signatures.{Typed, Func}
use Rattle.cm_wit_reading.specs.Trees.{ResourceFunc, method, static, constructor}
use Rattle.cm_wit_meanings.specs.Scopes.{Meaning, Scope, resource, as_type, as_resource}
use Rattle.cm_wit_meanings.specs.Meanings as meant
use Rattle.cm_wit_meanings.specs.Meanings.{meaning, meanings, each_meaning, typed_meaning, payload_meaning, func_meaning, resource_func_meaning}
use Rattle.cm_wit_tables.specs.Declarations.{Declaration, names_in, names_in_all, names_in_payload, target}
use Rattle.cm_wit_tables.specs.Tables.{scope_of, IsWhole}
use Rattle.cm_wit_tables.specs.TypeFaults.{IsResource, LeadsToType, LeadsToResource, borrowed_in, borrowed_in_all, borrowed_in_payload}
use Rattle.cm_wit_signature.specs.Members.{Member, used, declared, of_resource, function, used_type, own_type, member_func, member_item, item_with, func_name}
use Rattle.cm_wit_signature.specs.Named.{Lead, FuncHasTypes, ResourceFuncHasTypes, MemberHasTypes, names_in_params, borrowed_in_params}
use Rattle.cm_types.specs.Signatures.{func_item}
use Rattle.cm_lemmas.proofs.Options.{Has, has_mapped}
use Rattle.cm_lemmas.proofs.Lists.{all_left, all_right}
use Rattle.cm_wit_tables.proofs.RankLaws.{target_below}

-- ---- what the names in a scope stand for

module _ (s : Scope) where
  abbrev pub IsThere : List ℕ → Type 0
  IsThere n = Has (s n)

  abbrev pub IsOne : List ℕ → Type 0
  IsOne n = (r : ResourceId) × (s n ≡ Some (resource r))

  mutual
    type_there : (t : Ty) → AllByRecursion IsThere (names_in t) → AllByRecursion IsOne (borrowed_in t) → Has (meaning s t)
    type_there (primitive p) h b = (meant.primitive_type p, refl)
    type_there (named n) h b = has_mapped as_type (s n) h.0
    type_there (borrow n) h b = (cm.borrow b.0.0, ap (λ (m : Option Meaning). option_map cm.borrow (option_and_then as_resource m)) b.0.1)
    type_there (list t) h b = has_mapped cm.list (meaning s t) (type_there t h b)
    type_there (fixed_list t n) h b = has_mapped (λ x. cm.fixed_list x n) (meaning s t) (type_there t h b)
    type_there (option t) h b = has_mapped meant.option_of (meaning s t) (type_there t h b)
    type_there (tuple ts) h b = has_mapped meant.tuple_of (meanings s ts) (types_there ts h b)
    type_there plain_result h b = (meant.result_of None None, refl)
    type_there (ok_result t) h b = has_mapped (λ x. meant.result_of (Some x) None) (meaning s t) (type_there t h b)
    type_there (error_result t) h b = has_mapped (λ x. meant.result_of None (Some x)) (meaning s t) (type_there t h b)
    type_there (result t v) h b =
        let p = type_there t (all_left IsThere (names_in t) (names_in v) h) (all_left IsOne (borrowed_in t) (borrowed_in v) b) in
        let q = type_there v (all_right IsThere (names_in t) (names_in v) h) (all_right IsOne (borrowed_in t) (borrowed_in v) b) in
        (meant.result_of (Some p.0) (Some q.0), rw (p.1, q.1) refl)

    types_there : (ts : Tys) → AllByRecursion IsThere (names_in_all ts) → AllByRecursion IsOne (borrowed_in_all ts) → Has (meanings s ts)
    types_there no_types h b = ([], refl)
    types_there (types t ts) h b =
        let p = type_there t (all_left IsThere (names_in t) (names_in_all ts) h) (all_left IsOne (borrowed_in t) (borrowed_in_all ts) b) in
        let q = types_there ts (all_right IsThere (names_in t) (names_in_all ts) h) (all_right IsOne (borrowed_in t) (borrowed_in_all ts) b) in
        (p.0 ∷ q.0, rw (p.1, q.1) refl)

  fields_there : (fs : List Typed) → AllByRecursion IsThere (names_in_params fs) → AllByRecursion IsOne (borrowed_in_params fs) → Has (each_meaning (typed_meaning s) fs)
  fields_there [] h b = ([], refl)
  fields_there (f ∷ fs) h b =
      let p = type_there f.1 (all_left IsThere (names_in f.1) (names_in_params fs) h) (all_left IsOne (borrowed_in f.1) (borrowed_in_params fs) b) in
      let q = fields_there fs (all_right IsThere (names_in f.1) (names_in_params fs) h) (all_right IsOne (borrowed_in f.1) (borrowed_in_params fs) b) in
      ((f.0, p.0) ∷ q.0, rw (p.1, q.1) refl)

  payload_there : (p : Option Ty) → AllByRecursion IsThere (names_in_payload p) → AllByRecursion IsOne (borrowed_in_payload p) → Has (payload_meaning s p)
  payload_there None h b = (None, refl)
  payload_there (Some t) h b = has_mapped Some (meaning s t) (type_there t h b)

  abbrev AreThere : List (List ℕ) → List (List ℕ) → Type 0
  AreThere names borrowed = AllByRecursion IsThere names × AllByRecursion IsOne borrowed

  func_there : (f : Func) → AreThere (names_in_params f.params) (borrowed_in_params f.params) → AreThere (names_in_payload f.result) (borrowed_in_payload f.result) → Has (func_meaning s f)
  func_there f h g =
      let p = fields_there f.params h.0 h.1 in
      let q = payload_there f.result g.0 g.1 in
      (record { params = fields_from p.0; result = q.0 }, rw (p.1, q.1) refl)

-- ---- what the names of a list lead to

at_got : (table : List (Option Meaning)) (k : ℕ) (m : Option Meaning) → slice_get table k ≡ Some m → slice_index_or table k None ≡ m
at_got table k m e = sym (unwrap_or-slice_get table k None) ∙ ap (λ o. unwrap_or o None) e

module _ (ds : List Declaration) (table : List (Option Meaning)) (whole : IsWhole ds table)
    (ones : (k : ℕ) → IsResource ds k → (r : ResourceId) × (slice_get table k ≡ Some (Some (resource r)))) where
  led : (key : Key) (j : ℕ) → target ds key ≡ Some j → scope_of ds table key.0 key.1 ≡ slice_index_or table j None
  led key j e = ap (option_and_then (λ i. slice_index_or table i None)) e

  name_there : (l : ℕ) (n : List ℕ) → LeadsToType ds (l, n) → IsThere (scope_of ds table l) n
  name_there l n h =
      let p = whole h.0 (target_below ds (l, n) h.0 h.1) in
      (p.0, led (l, n) h.0 h.1 ∙ at_got table h.0 (Some p.0) p.1)

  one_there : (l : ℕ) (n : List ℕ) → LeadsToResource ds (l, n) → IsOne (scope_of ds table l) n
  one_there l n h =
      let p = ones h.0 h.2 in
      (p.0, led (l, n) h.0 h.1 ∙ at_got table h.0 (Some (resource p.0)) p.1)

  each_there : {P Q : List ℕ → Type 0} (f : (n : List ℕ) → P n → Q n) (names : List (List ℕ)) → AllByRecursion P names → AllByRecursion Q names
  each_there f [] h = tt
  each_there f (n ∷ names) h = (f n h.0, each_there f names h.1)

  lead_there : (l : ℕ) (names borrowed : List (List ℕ)) → Lead ds l names borrowed → AreThere (scope_of ds table l) names borrowed
  lead_there l names borrowed h = (each_there (name_there l) names h.0, each_there (one_there l) borrowed h.1)

  pub typed_func : (l : ℕ) (f : Func) → FuncHasTypes ds l f → Has (func_meaning (scope_of ds table l) f)
  typed_func l f h = func_there (scope_of ds table l) f (lead_there l (names_in_params f.params) (borrowed_in_params f.params) h.0) (lead_there l (names_in_payload f.result) (borrowed_in_payload f.result) h.1)

  typed_resource_func : (l : ℕ) (r : ResourceId) (f : ResourceFunc) → ResourceFuncHasTypes ds l f → Has (resource_func_meaning (scope_of ds table l) r f)
  typed_resource_func l r (method n f) h = has_mapped (meant.with_self r) (func_meaning (scope_of ds table l) f) (typed_func l f h)
  typed_resource_func l r (static n f) h = typed_func l f h
  typed_resource_func l r (constructor ps) h =
      let g = lead_there l (names_in_params ps) (borrowed_in_params ps) h in
      has_mapped (λ ts. record { params = fields_from ts; result = Some (cm.own r) }) (each_meaning (typed_meaning (scope_of ds table l)) ps) (fields_there (scope_of ds table l) ps g.0 g.1)

  typed_of_resource : (l : ℕ) (n : List ℕ) (f : ResourceFunc) (m : Option Meaning) (r : ResourceId) → m ≡ Some (resource r) → ResourceFuncHasTypes ds l f → Has (option_and_then (λ x. resource_func_meaning (scope_of ds table l) x f) (option_and_then as_resource m))
  typed_of_resource l n f m r e h =
      let p = typed_resource_func l r f h in
      (p.0, ap (λ (o : Option Meaning). option_and_then (λ x. resource_func_meaning (scope_of ds table l) x f) (option_and_then as_resource o)) e ∙ p.1)

  pub typed_member : (l : ℕ) (m : Member) → MemberHasTypes ds l m → Has (member_item (scope_of ds table l) m)
  typed_member l (used n) h = has_mapped (λ x. item_with n (used_type x)) (scope_of ds table l n) (name_there l n h)
  typed_member l (declared n) h = has_mapped (λ x. item_with n (own_type x)) (scope_of ds table l n) (name_there l n h)
  typed_member l (of_resource n f) h =
      let p = one_there l n h.0 in
      has_mapped (λ t. item_with (func_name n f) (func_item t)) (member_func (scope_of ds table l) n f) (typed_of_resource l n f (scope_of ds table l n) p.0 p.1 h.1)
  typed_member l (function n f) h = has_mapped (λ t. item_with n (func_item t)) (func_meaning (scope_of ds table l) f) (typed_func l f h)

  pub typed_members : (l : ℕ) (ms : List Member) → AllByRecursion (MemberHasTypes ds l) ms → Has (each_meaning (member_item (scope_of ds table l)) ms)
  typed_members l [] h = ([], refl)
  typed_members l (m ∷ ms) h =
      let p = typed_member l m h.0 in
      let q = typed_members l ms h.1 in
      (p.0 ∷ q.0, rw (p.1, q.1) refl)
