-- What a host sees has no handles.
use Rattle.std.proofs.Common.{◌≡◌, ℕ, zero, suc, List, [], ◌++◌, refl, ap, ◌∙◌}
use Rattle.cm_types.specs.Types.{Ty, Fields, Cases, bool, signed, unsigned, char, string, list, fixed_list, fields, cases, flags, own, borrow, no_fields, field, no_cases, plain, carrying, tuple_type}
use Rattle.cm_types.specs.Values.{Val, Vals, no_vals, val, elements, parts, bearing}
use Rattle.cm_abi_model.specs.Receives.{HandleLeaf, leaves_each, leaves_in, leaves_in_fields, leaves_in_payload}
use Rattle.cm_host_values.specs.Indexed.{indexed, indexed_fields, indexed_cases, host_types}

none_each : (L : Val → List HandleLeaf) → ((v : Val) → L v ≡ []) → (vs : Vals) → leaves_each L vs ≡ []
none_each L none no_vals = refl
none_each L none (val v vs) = ap (λ xs. xs ++ leaves_each L vs) (none v) ∙ none_each L none vs

mutual
  no_leaves : (t : Ty) (v : Val) → leaves_in (indexed t) v ≡ []
  no_leaves bool v = refl
  no_leaves (signed w) v = refl
  no_leaves (unsigned w) v = refl
  no_leaves char v = refl
  no_leaves string v = refl
  no_leaves (list t) (elements vs) = none_each (leaves_in (indexed t)) (no_leaves t) vs
  no_leaves (list t) v = refl
  no_leaves (fixed_list t n) (parts vs) = none_each (leaves_in (indexed t)) (no_leaves t) vs
  no_leaves (fixed_list t n) v = refl
  no_leaves (fields k fs) (parts vs) = no_leaves_fields fs vs
  no_leaves (fields k fs) v = refl
  no_leaves (cases k cs) (bearing i v) = no_leaves_payload cs i v
  no_leaves (cases k cs) v = refl
  no_leaves (flags ls) v = refl
  no_leaves (own r) v = refl
  no_leaves (borrow r) v = refl

  no_leaves_fields : (fs : Fields) (vs : Vals) → leaves_in_fields (indexed_fields fs) vs ≡ []
  no_leaves_fields no_fields vs = refl
  no_leaves_fields (field l t fs) no_vals = refl
  no_leaves_fields (field l t fs) (val v vs) = ap (λ xs. xs ++ leaves_in_fields (indexed_fields fs) vs) (no_leaves t v) ∙ no_leaves_fields fs vs

  no_leaves_payload : (cs : Cases) (i : ℕ) (v : Val) → leaves_in_payload (indexed_cases cs) i v ≡ []
  no_leaves_payload no_cases i v = refl
  no_leaves_payload (plain l cs) zero v = refl
  no_leaves_payload (plain l cs) (suc i) v = no_leaves_payload cs i v
  no_leaves_payload (carrying l t cs) zero v = no_leaves t v
  no_leaves_payload (carrying l t cs) (suc i) v = no_leaves_payload cs i v

no_row_leaves : (fs : Fields) (vs : Vals) → leaves_in_fields (host_types fs) vs ≡ []
no_row_leaves no_fields vs = refl
no_row_leaves (field l t fs) no_vals = refl
no_row_leaves (field l t fs) (val v vs) = ap (λ xs. xs ++ leaves_in_fields (host_types fs) vs) (no_leaves t v) ∙ no_row_leaves fs vs

pub no_call_leaves : (fs : Fields) (v : Val) → leaves_in (fields tuple_type (host_types fs)) v ≡ []
no_call_leaves fs (parts vs) = no_row_leaves fs vs
no_call_leaves fs v = refl
