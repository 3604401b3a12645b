-- A value of which nothing is kept has no parts and no handles.
use Rattle.std.proofs.Common.{◌≡◌, ℕ, zero, suc, ◌+◌, ◌<◌, Bool, true, false, List, [], ◌∷◌, ◌++◌, refl, ap, ◌∙◌, arith}
use Rattle.std.specs.Prelude.{if◌then◌else◌}
use Rattle.cm_types.specs.Types.{Ty, Fields, Cases, list, fixed_list, fields, cases, no_fields, field, no_cases, plain, carrying}
use Rattle.cm_types.specs.Values.{Val, Vals, no_vals, val, text, elements, parts, bearing, handle}
use Rattle.cm_abi_model.specs.Parts.{Part, handle_count, handle_count_each, part_count, part_count_each, parts_each, parts_in, parts_in_fields, parts_in_payload}
use Rattle.cm_abi_model.specs.Receives.{HandleLeaf, leaves_each, leaves_in, leaves_in_fields, leaves_in_payload}
use Rattle.cm_abi_model.specs.Requests.{call_parts, is_spilled, parts_of, tuple_of}
use Rattle.cm_abi_model.specs.Views.{Way}

pub lent_is_some : (way : Way) (types : Fields) (v : Val) (owns lends : ℕ) → owns + lends ≡ handle_count v → 0 < lends → 0 < parts_of way types v
lent_is_some way types v owns lends shared some = omega (arith, shared, some)

-- ---- no parts

no_parts_each : (P : Val → List Part) → ((v : Val) → part_count v ≡ 0 → P v ≡ []) → (vs : Vals) → part_count_each vs ≡ 0 → parts_each P vs ≡ []
no_parts_each P one no_vals none = refl
no_parts_each P one (val v vs) none =
    ap (λ (xs : List Part). xs ++ parts_each P vs) (one v (omega (arith, none))) ∙ no_parts_each P one vs (omega (arith, none))

mutual
  no_parts : (t : Ty) (v : Val) → part_count v ≡ 0 → parts_in t v ≡ []
  no_parts (list t) (elements vs) none = absurd (omega (arith, none))
  no_parts (fixed_list t n) (parts vs) none = no_parts_each (parts_in t) (no_parts t) vs none
  no_parts (fields k fs) (parts vs) none = no_parts_fields fs vs none
  no_parts (cases k cs) (bearing i v) none = no_parts_payload cs i v none
  no_parts t (text xs) none = absurd (omega (arith, none))
  no_parts t v none = refl

  no_parts_fields : (fs : Fields) (vs : Vals) → part_count_each vs ≡ 0 → parts_in_fields fs vs ≡ []
  no_parts_fields no_fields vs none = refl
  no_parts_fields (field l t fs) no_vals none = refl
  no_parts_fields (field l t fs) (val v vs) none =
      ap (λ (xs : List Part). xs ++ parts_in_fields fs vs) (no_parts t v (omega (arith, none))) ∙ no_parts_fields fs vs (omega (arith, none))

  no_parts_payload : (cs : Cases) (i : ℕ) (v : Val) → part_count v ≡ 0 → parts_in_payload cs i v ≡ []
  no_parts_payload no_cases i v none = refl
  no_parts_payload (plain l cs) zero v none = refl
  no_parts_payload (plain l cs) (suc i) v none = no_parts_payload cs i v none
  no_parts_payload (carrying l t cs) zero v none = no_parts t v none
  no_parts_payload (carrying l t cs) (suc i) v none = no_parts_payload cs i v none

-- ---- no handles

no_leaves_each : (L : Val → List HandleLeaf) → ((v : Val) → handle_count v ≡ 0 → L v ≡ []) → (vs : Vals) → handle_count_each vs ≡ 0 → leaves_each L vs ≡ []
no_leaves_each L one no_vals none = refl
no_leaves_each L one (val v vs) none =
    ap (λ (xs : List HandleLeaf). xs ++ leaves_each L vs) (one v (omega (arith, none))) ∙ no_leaves_each L one vs (omega (arith, none))

mutual
  no_leaves : (t : Ty) (v : Val) → handle_count v ≡ 0 → leaves_in t v ≡ []
  no_leaves (list t) (elements vs) none = no_leaves_each (leaves_in t) (no_leaves t) vs none
  no_leaves (fixed_list t n) (parts vs) none = no_leaves_each (leaves_in t) (no_leaves t) vs none
  no_leaves (fields k fs) (parts vs) none = no_leaves_fields fs vs none
  no_leaves (cases k cs) (bearing i v) none = no_leaves_payload cs i v none
  no_leaves t (handle h) none = absurd (omega (arith, none))
  no_leaves t v none = refl

  no_leaves_fields : (fs : Fields) (vs : Vals) → handle_count_each vs ≡ 0 → leaves_in_fields fs vs ≡ []
  no_leaves_fields no_fields vs none = refl
  no_leaves_fields (field l t fs) no_vals none = refl
  no_leaves_fields (field l t fs) (val v vs) none =
      ap (λ (xs : List HandleLeaf). xs ++ leaves_in_fields fs vs) (no_leaves t v (omega (arith, none))) ∙ no_leaves_fields fs vs (omega (arith, none))

  no_leaves_payload : (cs : Cases) (i : ℕ) (v : Val) → handle_count v ≡ 0 → leaves_in_payload cs i v ≡ []
  no_leaves_payload no_cases i v none = refl
  no_leaves_payload (plain l cs) zero v none = refl
  no_leaves_payload (plain l cs) (suc i) v none = no_leaves_payload cs i v none
  no_leaves_payload (carrying l t cs) zero v none = no_leaves t v none
  no_leaves_payload (carrying l t cs) (suc i) v none = no_leaves_payload cs i v none

-- ---- nothing is kept

no_call_parts : (b : Bool) (part : Part) (ps : List Part) (more : ℕ) → (if b then 1 else 0) + more ≡ 0 → ps ≡ [] → (if b then part ∷ ps else ps) ≡ []
no_call_parts true part ps more none is = absurd (omega (arith, none))
no_call_parts false part ps more none is = is

behind_flag : (b : Bool) (m n : ℕ) → (if b then 1 else 0) + m + n ≡ 0 → ((if b then 1 else 0) + 0 ≡ 0) × (m ≡ 0) × (n ≡ 0)
behind_flag true m n none = absurd (omega (arith, none))
behind_flag false m n none = (refl, omega (arith, none), omega (arith, none))

pub nothing_is_none : (way : Way) (types : Fields) (v : Val) → parts_of way types v ≡ 0 → (call_parts way types v ≡ []) × (leaves_in (tuple_of types) v ≡ [])
nothing_is_none way types v none =
    let each = behind_flag (is_spilled way types) (part_count v) (handle_count v) none in
    (no_call_parts (is_spilled way types) _ (parts_in (tuple_of types) v) 0 each.0 (no_parts (tuple_of types) v each.1), no_leaves (tuple_of types) v each.2)
