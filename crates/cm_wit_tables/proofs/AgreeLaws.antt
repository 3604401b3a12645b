-- A text stands for the same in scopes that agree on its names.
use Rattle.std.proofs.Common.{◌≡◌, ℕ, List, [], ◌∷◌, Option, Some, None, refl, ap}
use Rattle.std.specs.List.{AllByRecursion, flat_map}
use Rattle.std.specs.Option.{option_map, option_and_then}
use Rattle.cm_types.specs.declared.resource.ResourceId.{ResourceId}
use Rattle.cm_types.specs.Types as cm
use Rattle.cm_wit_reading.specs.Types.{Ty, Tys, primitive, named, borrow, list, fixed_list, option, tuple, plain_result, ok_result, error_result, result, no_types, types}
use Rattle.cm_wit_reading.specs.Signatures.{Typed}
use Rattle.cm_wit_reading.specs.Trees.{Case, TypeDef, alias, record_of, variant, enum, flags, resource}
use Rattle.cm_wit_meanings.specs.Scopes as scopes
use Rattle.cm_wit_meanings.specs.Scopes.{Meaning, Scope, as_type, as_resource}
use Rattle.cm_wit_meanings.specs.Meanings as meant
use Rattle.cm_wit_meanings.specs.Meanings.{meaning, meanings, each_meaning, typed_meaning, case_meaning, payload_meaning, def_meaning}
use Rattle.cm_wit_tables.specs.Declarations.{names_in, names_in_all, names_in_payload, names_in_def}
use Rattle.cm_lemmas.proofs.Lists.{all_left, all_right}

-- two scopes agree on these names
abbrev pub Agree : Scope → Scope → List (List ℕ) → Type 0
Agree s u names = AllByRecursion (λ n. s n ≡ u n) names

module _ (s u : Scope) where
  mutual
    pub type_agrees : (t : Ty) → Agree s u (names_in t) → meaning s t ≡ meaning u t
    type_agrees (primitive p) h = refl
    type_agrees (named n) h = ap (option_map as_type) h.0
    type_agrees (borrow n) h = ap (λ (m : Option Meaning). option_map cm.borrow (option_and_then as_resource m)) h.0
    type_agrees (list t) h = ap (option_map cm.list) (type_agrees t h)
    type_agrees (fixed_list t n) h = ap (option_map (λ x. cm.fixed_list x n)) (type_agrees t h)
    type_agrees (option t) h = ap (option_map meant.option_of) (type_agrees t h)
    type_agrees (tuple ts) h = ap (option_map meant.tuple_of) (types_agree ts h)
    type_agrees plain_result h = refl
    type_agrees (ok_result t) h = ap (option_map (λ x. meant.result_of (Some x) None)) (type_agrees t h)
    type_agrees (error_result t) h = ap (option_map (λ x. meant.result_of None (Some x))) (type_agrees t h)
    type_agrees (result t v) h =
        rw (type_agrees t (all_left (λ n. s n ≡ u n) (names_in t) (names_in v) h), type_agrees v (all_right (λ n. s n ≡ u n) (names_in t) (names_in v) h)) refl

    types_agree : (ts : Tys) → Agree s u (names_in_all ts) → meanings s ts ≡ meanings u ts
    types_agree no_types h = refl
    types_agree (types t ts) h =
        rw (type_agrees t (all_left (λ n. s n ≡ u n) (names_in t) (names_in_all ts) h), types_agree ts (all_right (λ n. s n ≡ u n) (names_in t) (names_in_all ts) h)) refl

  fields_agree : (fs : List Typed) → Agree s u (flat_map (λ f. names_in f.1) fs) → each_meaning (typed_meaning s) fs ≡ each_meaning (typed_meaning u) fs
  fields_agree [] h = refl
  fields_agree (f ∷ fs) h =
      rw (type_agrees f.1 (all_left (λ n. s n ≡ u n) (names_in f.1) (flat_map (λ g. names_in g.1) fs) h), fields_agree fs (all_right (λ n. s n ≡ u n) (names_in f.1) (flat_map (λ g. names_in g.1) fs) h)) refl

  payload_agrees : (p : Option Ty) → Agree s u (names_in_payload p) → payload_meaning s p ≡ payload_meaning u p
  payload_agrees None h = refl
  payload_agrees (Some t) h = ap (option_map Some) (type_agrees t h)

  cases_agree : (cs : List Case) → Agree s u (flat_map (λ c. names_in_payload c.ty) cs) → each_meaning (case_meaning s) cs ≡ each_meaning (case_meaning u) cs
  cases_agree [] h = refl
  cases_agree (c ∷ cs) h =
      rw (payload_agrees c.ty (all_left (λ n. s n ≡ u n) (names_in_payload c.ty) (flat_map (λ d. names_in_payload d.ty) cs) h), cases_agree cs (all_right (λ n. s n ≡ u n) (names_in_payload c.ty) (flat_map (λ d. names_in_payload d.ty) cs) h)) refl

  pub def_agrees : (r : ResourceId) (t : TypeDef) → Agree s u (names_in_def t) → def_meaning s r t ≡ def_meaning u r t
  def_agrees r (alias t) h = ap (option_map scopes.value) (type_agrees t h)
  def_agrees r (record_of fs) h = ap (λ o. option_map scopes.value (option_map meant.record_of o)) (fields_agree fs h)
  def_agrees r (variant cs) h = ap (λ o. option_map scopes.value (option_map meant.variant_of o)) (cases_agree cs h)
  def_agrees r (enum names) h = refl
  def_agrees r (flags names) h = refl
  def_agrees r (resource fs) h = refl
