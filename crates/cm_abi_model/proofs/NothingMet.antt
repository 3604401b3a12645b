-- Where a value has no part and no handle, nothing is met in it.
use Rattle.std.proofs.Common.{◌≡◌, ℕ, zero, suc, ◌+◌, Bool, true, false, List, [], ◌∷◌, ◌++◌, refl, ap, ◌∙◌}
use Rattle.std.specs.Prelude.{if◌then◌else◌}
use Rattle.cm_types.specs.declared.core_value.CoreValue.{CoreValue}
use Rattle.cm_types.specs.Types.{Ty, Fields, Cases, bool, signed, unsigned, char}
use Rattle.cm_types.specs.Types.{string, list, fixed_list, fields, cases, flags, own, borrow}
use Rattle.cm_types.specs.Types.{no_fields, field, no_cases, plain, carrying}
use Rattle.cm_types.specs.Values.{Val, Vals, no_vals, val, truth, signed_number, number, scalar}
use Rattle.cm_types.specs.Values.{text, elements, parts, bare, bearing, flag_set, handle}
use Rattle.cm_layout.specs.Alignment.{align_to}
use Rattle.cm_layout.specs.Sizes.{align_of, payload_offset, size_of}
use Rattle.cm_abi_model.specs.FlatShows.{width_of}
use Rattle.cm_abi_model.specs.Numbers.{wrapped_at}
use Rattle.cm_abi_model.specs.Parts.{Part, parts_each, parts_in, parts_in_fields, parts_in_payload}
use Rattle.cm_abi_model.specs.Receives.{HandleLeaf, leaves_each, leaves_in, leaves_in_fields, leaves_in_payload}
use Rattle.cm_abi_model.specs.Requests.{call_parts, is_spilled, tuple_of}
use Rattle.cm_abi_model.specs.Taken.{Met, met, met_at, met_each, met_flat, met_flat_fields, met_flat_payload}
use Rattle.cm_abi_model.specs.Taken.{met_in_fields, met_in_payload}
use Rattle.cm_abi_model.specs.Views.{View, Way}
use Rattle.cm_lemmas.proofs.Lists.{nil_front, nil_rest}

both_none : (xs ys : List Met) → xs ≡ [] → ys ≡ [] → xs ++ ys ≡ []
both_none xs ys front rest = ap (λ (m : List Met). m ++ ys) front ∙ rest

each_none : (M : ℕ → Val → List Met) (P : Val → List Part) (L : Val → List HandleLeaf)
    → ((at : ℕ) (v : Val) → P v ≡ [] → L v ≡ [] → M at v ≡ [])
    → (size at : ℕ) (vs : Vals) → parts_each P vs ≡ [] → leaves_each L vs ≡ [] → met_each M size at vs ≡ []
each_none M P L one size at no_vals p l = refl
each_none M P L one size at (val v vs) p l =
    both_none (M at v) (met_each M size (at + size) vs) (one at v (nil_front (P v) (parts_each P vs) p) (nil_front (L v) (leaves_each L vs) l))
    (each_none M P L one size (at + size) vs (nil_rest (P v) (parts_each P vs) p) (nil_rest (L v) (leaves_each L vs) l))

module _ (w : View) where
  mutual
    at_none : (t : Ty) (at : ℕ) (v : Val) → parts_in t v ≡ [] → leaves_in t v ≡ [] → met_at w t at v ≡ []
    at_none bool at (truth b) p l = refl
    at_none bool at (signed_number z) p l = refl
    at_none bool at (number m) p l = refl
    at_none bool at (scalar c) p l = refl
    at_none bool at (text us) p l = absurd (cc)
    at_none bool at (elements vs) p l = refl
    at_none bool at (parts vs) p l = refl
    at_none bool at (bare i) p l = refl
    at_none bool at (bearing i v) p l = refl
    at_none bool at (flag_set m) p l = refl
    at_none bool at (handle h) p l = refl
    at_none (signed k) at (truth b) p l = refl
    at_none (signed k) at (signed_number z) p l = refl
    at_none (signed k) at (number m) p l = refl
    at_none (signed k) at (scalar c) p l = refl
    at_none (signed k) at (text us) p l = absurd (cc)
    at_none (signed k) at (elements vs) p l = refl
    at_none (signed k) at (parts vs) p l = refl
    at_none (signed k) at (bare i) p l = refl
    at_none (signed k) at (bearing i v) p l = refl
    at_none (signed k) at (flag_set m) p l = refl
    at_none (signed k) at (handle h) p l = refl
    at_none (unsigned k) at (truth b) p l = refl
    at_none (unsigned k) at (signed_number z) p l = refl
    at_none (unsigned k) at (number m) p l = refl
    at_none (unsigned k) at (scalar c) p l = refl
    at_none (unsigned k) at (text us) p l = absurd (cc)
    at_none (unsigned k) at (elements vs) p l = refl
    at_none (unsigned k) at (parts vs) p l = refl
    at_none (unsigned k) at (bare i) p l = refl
    at_none (unsigned k) at (bearing i v) p l = refl
    at_none (unsigned k) at (flag_set m) p l = refl
    at_none (unsigned k) at (handle h) p l = refl
    at_none char at (truth b) p l = refl
    at_none char at (signed_number z) p l = refl
    at_none char at (number m) p l = refl
    at_none char at (scalar c) p l = refl
    at_none char at (text us) p l = absurd (cc)
    at_none char at (elements vs) p l = refl
    at_none char at (parts vs) p l = refl
    at_none char at (bare i) p l = refl
    at_none char at (bearing i v) p l = refl
    at_none char at (flag_set m) p l = refl
    at_none char at (handle h) p l = refl
    at_none string at (truth b) p l = refl
    at_none string at (signed_number z) p l = refl
    at_none string at (number m) p l = refl
    at_none string at (scalar c) p l = refl
    at_none string at (text us) p l = absurd (cc)
    at_none string at (elements vs) p l = refl
    at_none string at (parts vs) p l = refl
    at_none string at (bare i) p l = refl
    at_none string at (bearing i v) p l = refl
    at_none string at (flag_set m) p l = refl
    at_none string at (handle h) p l = refl
    at_none (list t) at (truth b) p l = refl
    at_none (list t) at (signed_number z) p l = refl
    at_none (list t) at (number m) p l = refl
    at_none (list t) at (scalar c) p l = refl
    at_none (list t) at (text us) p l = absurd (cc)
    at_none (list t) at (elements vs) p l = absurd (cc)
    at_none (list t) at (parts vs) p l = refl
    at_none (list t) at (bare i) p l = refl
    at_none (list t) at (bearing i v) p l = refl
    at_none (list t) at (flag_set m) p l = refl
    at_none (list t) at (handle h) p l = refl
    at_none (fixed_list t n) at (truth b) p l = refl
    at_none (fixed_list t n) at (signed_number z) p l = refl
    at_none (fixed_list t n) at (number m) p l = refl
    at_none (fixed_list t n) at (scalar c) p l = refl
    at_none (fixed_list t n) at (text us) p l = absurd (cc)
    at_none (fixed_list t n) at (elements vs) p l = refl
    at_none (fixed_list t n) at (parts vs) p l = each_none (met_at w t) (parts_in t) (leaves_in t) (at_none t) (size_of t) at vs p l
    at_none (fixed_list t n) at (bare i) p l = refl
    at_none (fixed_list t n) at (bearing i v) p l = refl
    at_none (fixed_list t n) at (flag_set m) p l = refl
    at_none (fixed_list t n) at (handle h) p l = refl
    at_none (fields k fs) at (truth b) p l = refl
    at_none (fields k fs) at (signed_number z) p l = refl
    at_none (fields k fs) at (number m) p l = refl
    at_none (fields k fs) at (scalar c) p l = refl
    at_none (fields k fs) at (text us) p l = absurd (cc)
    at_none (fields k fs) at (elements vs) p l = refl
    at_none (fields k fs) at (parts vs) p l = fields_none fs at 0 vs p l
    at_none (fields k fs) at (bare i) p l = refl
    at_none (fields k fs) at (bearing i v) p l = refl
    at_none (fields k fs) at (flag_set m) p l = refl
    at_none (fields k fs) at (handle h) p l = refl
    at_none (cases k cs) at (truth b) p l = refl
    at_none (cases k cs) at (signed_number z) p l = refl
    at_none (cases k cs) at (number m) p l = refl
    at_none (cases k cs) at (scalar c) p l = refl
    at_none (cases k cs) at (text us) p l = absurd (cc)
    at_none (cases k cs) at (elements vs) p l = refl
    at_none (cases k cs) at (parts vs) p l = refl
    at_none (cases k cs) at (bare i) p l = refl
    at_none (cases k cs) at (bearing i v) p l = payload_none cs _ i v p l
    at_none (cases k cs) at (flag_set m) p l = refl
    at_none (cases k cs) at (handle h) p l = refl
    at_none (flags ls) at (truth b) p l = refl
    at_none (flags ls) at (signed_number z) p l = refl
    at_none (flags ls) at (number m) p l = refl
    at_none (flags ls) at (scalar c) p l = refl
    at_none (flags ls) at (text us) p l = absurd (cc)
    at_none (flags ls) at (elements vs) p l = refl
    at_none (flags ls) at (parts vs) p l = refl
    at_none (flags ls) at (bare i) p l = refl
    at_none (flags ls) at (bearing i v) p l = refl
    at_none (flags ls) at (flag_set m) p l = refl
    at_none (flags ls) at (handle h) p l = refl
    at_none (own r) at (truth b) p l = refl
    at_none (own r) at (signed_number z) p l = refl
    at_none (own r) at (number m) p l = refl
    at_none (own r) at (scalar c) p l = refl
    at_none (own r) at (text us) p l = absurd (cc)
    at_none (own r) at (elements vs) p l = refl
    at_none (own r) at (parts vs) p l = refl
    at_none (own r) at (bare i) p l = refl
    at_none (own r) at (bearing i v) p l = refl
    at_none (own r) at (flag_set m) p l = refl
    at_none (own r) at (handle h) p l = absurd (cc)
    at_none (borrow r) at (truth b) p l = refl
    at_none (borrow r) at (signed_number z) p l = refl
    at_none (borrow r) at (number m) p l = refl
    at_none (borrow r) at (scalar c) p l = refl
    at_none (borrow r) at (text us) p l = absurd (cc)
    at_none (borrow r) at (elements vs) p l = refl
    at_none (borrow r) at (parts vs) p l = refl
    at_none (borrow r) at (bare i) p l = refl
    at_none (borrow r) at (bearing i v) p l = refl
    at_none (borrow r) at (flag_set m) p l = refl
    at_none (borrow r) at (handle h) p l = absurd (cc)

    fields_none : (fs : Fields) (at end : ℕ) (vs : Vals) → parts_in_fields fs vs ≡ [] → leaves_in_fields fs vs ≡ [] → met_in_fields w fs at end vs ≡ []
    fields_none no_fields at end no_vals p l = refl
    fields_none no_fields at end (val v vs) p l = refl
    fields_none (field n t fs) at end no_vals p l = refl
    fields_none (field n t fs) at end (val v vs) p l =
        both_none (met_at w t (at + align_to (align_of t) end) v) (met_in_fields w fs at (align_to (align_of t) end + size_of t) vs)
        (at_none t (at + align_to (align_of t) end) v (nil_front (parts_in t v) (parts_in_fields fs vs) p) (nil_front (leaves_in t v) (leaves_in_fields fs vs) l))
        (fields_none fs at (align_to (align_of t) end + size_of t) vs (nil_rest (parts_in t v) (parts_in_fields fs vs) p) (nil_rest (leaves_in t v) (leaves_in_fields fs vs) l))

    payload_none : (cs : Cases) (at i : ℕ) (v : Val) → parts_in_payload cs i v ≡ [] → leaves_in_payload cs i v ≡ [] → met_in_payload w cs at i v ≡ []
    payload_none no_cases at i v p l = refl
    payload_none (plain n cs) at zero v p l = refl
    payload_none (plain n cs) at (suc i) v p l = payload_none cs at i v p l
    payload_none (carrying n t cs) at zero v p l = at_none t at v p l
    payload_none (carrying n t cs) at (suc i) v p l = payload_none cs at i v p l

  module _ (s : List CoreValue) where
    mutual
      flat_none : (t : Ty) (at : ℕ) (v : Val) → parts_in t v ≡ [] → leaves_in t v ≡ [] → met_flat w s t at v ≡ []
      flat_none bool at (truth b) p l = refl
      flat_none bool at (signed_number z) p l = refl
      flat_none bool at (number m) p l = refl
      flat_none bool at (scalar c) p l = refl
      flat_none bool at (text us) p l = absurd (cc)
      flat_none bool at (elements vs) p l = refl
      flat_none bool at (parts vs) p l = refl
      flat_none bool at (bare i) p l = refl
      flat_none bool at (bearing i v) p l = refl
      flat_none bool at (flag_set m) p l = refl
      flat_none bool at (handle h) p l = refl
      flat_none (signed k) at (truth b) p l = refl
      flat_none (signed k) at (signed_number z) p l = refl
      flat_none (signed k) at (number m) p l = refl
      flat_none (signed k) at (scalar c) p l = refl
      flat_none (signed k) at (text us) p l = absurd (cc)
      flat_none (signed k) at (elements vs) p l = refl
      flat_none (signed k) at (parts vs) p l = refl
      flat_none (signed k) at (bare i) p l = refl
      flat_none (signed k) at (bearing i v) p l = refl
      flat_none (signed k) at (flag_set m) p l = refl
      flat_none (signed k) at (handle h) p l = refl
      flat_none (unsigned k) at (truth b) p l = refl
      flat_none (unsigned k) at (signed_number z) p l = refl
      flat_none (unsigned k) at (number m) p l = refl
      flat_none (unsigned k) at (scalar c) p l = refl
      flat_none (unsigned k) at (text us) p l = absurd (cc)
      flat_none (unsigned k) at (elements vs) p l = refl
      flat_none (unsigned k) at (parts vs) p l = refl
      flat_none (unsigned k) at (bare i) p l = refl
      flat_none (unsigned k) at (bearing i v) p l = refl
      flat_none (unsigned k) at (flag_set m) p l = refl
      flat_none (unsigned k) at (handle h) p l = refl
      flat_none char at (truth b) p l = refl
      flat_none char at (signed_number z) p l = refl
      flat_none char at (number m) p l = refl
      flat_none char at (scalar c) p l = refl
      flat_none char at (text us) p l = absurd (cc)
      flat_none char at (elements vs) p l = refl
      flat_none char at (parts vs) p l = refl
      flat_none char at (bare i) p l = refl
      flat_none char at (bearing i v) p l = refl
      flat_none char at (flag_set m) p l = refl
      flat_none char at (handle h) p l = refl
      flat_none string at (truth b) p l = refl
      flat_none string at (signed_number z) p l = refl
      flat_none string at (number m) p l = refl
      flat_none string at (scalar c) p l = refl
      flat_none string at (text us) p l = absurd (cc)
      flat_none string at (elements vs) p l = refl
      flat_none string at (parts vs) p l = refl
      flat_none string at (bare i) p l = refl
      flat_none string at (bearing i v) p l = refl
      flat_none string at (flag_set m) p l = refl
      flat_none string at (handle h) p l = refl
      flat_none (list t) at (truth b) p l = refl
      flat_none (list t) at (signed_number z) p l = refl
      flat_none (list t) at (number m) p l = refl
      flat_none (list t) at (scalar c) p l = refl
      flat_none (list t) at (text us) p l = absurd (cc)
      flat_none (list t) at (elements vs) p l = absurd (cc)
      flat_none (list t) at (parts vs) p l = refl
      flat_none (list t) at (bare i) p l = refl
      flat_none (list t) at (bearing i v) p l = refl
      flat_none (list t) at (flag_set m) p l = refl
      flat_none (list t) at (handle h) p l = refl
      flat_none (fixed_list t n) at (truth b) p l = refl
      flat_none (fixed_list t n) at (signed_number z) p l = refl
      flat_none (fixed_list t n) at (number m) p l = refl
      flat_none (fixed_list t n) at (scalar c) p l = refl
      flat_none (fixed_list t n) at (text us) p l = absurd (cc)
      flat_none (fixed_list t n) at (elements vs) p l = refl
      flat_none (fixed_list t n) at (parts vs) p l = each_none (met_flat w s t) (parts_in t) (leaves_in t) (flat_none t) (width_of t) at vs p l
      flat_none (fixed_list t n) at (bare i) p l = refl
      flat_none (fixed_list t n) at (bearing i v) p l = refl
      flat_none (fixed_list t n) at (flag_set m) p l = refl
      flat_none (fixed_list t n) at (handle h) p l = refl
      flat_none (fields k fs) at (truth b) p l = refl
      flat_none (fields k fs) at (signed_number z) p l = refl
      flat_none (fields k fs) at (number m) p l = refl
      flat_none (fields k fs) at (scalar c) p l = refl
      flat_none (fields k fs) at (text us) p l = absurd (cc)
      flat_none (fields k fs) at (elements vs) p l = refl
      flat_none (fields k fs) at (parts vs) p l = flat_fields_none fs at vs p l
      flat_none (fields k fs) at (bare i) p l = refl
      flat_none (fields k fs) at (bearing i v) p l = refl
      flat_none (fields k fs) at (flag_set m) p l = refl
      flat_none (fields k fs) at (handle h) p l = refl
      flat_none (cases k cs) at (truth b) p l = refl
      flat_none (cases k cs) at (signed_number z) p l = refl
      flat_none (cases k cs) at (number m) p l = refl
      flat_none (cases k cs) at (scalar c) p l = refl
      flat_none (cases k cs) at (text us) p l = absurd (cc)
      flat_none (cases k cs) at (elements vs) p l = refl
      flat_none (cases k cs) at (parts vs) p l = refl
      flat_none (cases k cs) at (bare i) p l = refl
      flat_none (cases k cs) at (bearing i v) p l = flat_payload_none cs _ i v p l
      flat_none (cases k cs) at (flag_set m) p l = refl
      flat_none (cases k cs) at (handle h) p l = refl
      flat_none (flags ls) at (truth b) p l = refl
      flat_none (flags ls) at (signed_number z) p l = refl
      flat_none (flags ls) at (number m) p l = refl
      flat_none (flags ls) at (scalar c) p l = refl
      flat_none (flags ls) at (text us) p l = absurd (cc)
      flat_none (flags ls) at (elements vs) p l = refl
      flat_none (flags ls) at (parts vs) p l = refl
      flat_none (flags ls) at (bare i) p l = refl
      flat_none (flags ls) at (bearing i v) p l = refl
      flat_none (flags ls) at (flag_set m) p l = refl
      flat_none (flags ls) at (handle h) p l = refl
      flat_none (own r) at (truth b) p l = refl
      flat_none (own r) at (signed_number z) p l = refl
      flat_none (own r) at (number m) p l = refl
      flat_none (own r) at (scalar c) p l = refl
      flat_none (own r) at (text us) p l = absurd (cc)
      flat_none (own r) at (elements vs) p l = refl
      flat_none (own r) at (parts vs) p l = refl
      flat_none (own r) at (bare i) p l = refl
      flat_none (own r) at (bearing i v) p l = refl
      flat_none (own r) at (flag_set m) p l = refl
      flat_none (own r) at (handle h) p l = absurd (cc)
      flat_none (borrow r) at (truth b) p l = refl
      flat_none (borrow r) at (signed_number z) p l = refl
      flat_none (borrow r) at (number m) p l = refl
      flat_none (borrow r) at (scalar c) p l = refl
      flat_none (borrow r) at (text us) p l = absurd (cc)
      flat_none (borrow r) at (elements vs) p l = refl
      flat_none (borrow r) at (parts vs) p l = refl
      flat_none (borrow r) at (bare i) p l = refl
      flat_none (borrow r) at (bearing i v) p l = refl
      flat_none (borrow r) at (flag_set m) p l = refl
      flat_none (borrow r) at (handle h) p l = absurd (cc)

      flat_fields_none : (fs : Fields) (at : ℕ) (vs : Vals) → parts_in_fields fs vs ≡ [] → leaves_in_fields fs vs ≡ [] → met_flat_fields w s fs at vs ≡ []
      flat_fields_none no_fields at no_vals p l = refl
      flat_fields_none no_fields at (val v vs) p l = refl
      flat_fields_none (field n t fs) at no_vals p l = refl
      flat_fields_none (field n t fs) at (val v vs) p l =
          both_none (met_flat w s t at v) (met_flat_fields w s fs (at + width_of t) vs)
          (flat_none t at v (nil_front (parts_in t v) (parts_in_fields fs vs) p) (nil_front (leaves_in t v) (leaves_in_fields fs vs) l))
          (flat_fields_none fs (at + width_of t) vs (nil_rest (parts_in t v) (parts_in_fields fs vs) p) (nil_rest (leaves_in t v) (leaves_in_fields fs vs) l))

      flat_payload_none : (cs : Cases) (at i : ℕ) (v : Val) → parts_in_payload cs i v ≡ [] → leaves_in_payload cs i v ≡ [] → met_flat_payload w s cs at i v ≡ []
      flat_payload_none no_cases at i v p l = refl
      flat_payload_none (plain n cs) at zero v p l = refl
      flat_payload_none (plain n cs) at (suc i) v p l = flat_payload_none cs at i v p l
      flat_payload_none (carrying n t cs) at zero v p l = flat_none t at v p l
      flat_payload_none (carrying n t cs) at (suc i) v p l = flat_payload_none cs at i v p l

spilled_some : (b : Bool) (x : Part) (xs ys : List Part) → b ≡ true → (if b then x ∷ xs else ys) ≡ [] → ⊥
spilled_some true x xs ys is none = absurd (cc)
spilled_some false x xs ys is none = absurd (cc)

others_none : (b : Bool) (x : Part) (xs ys : List Part) → b ≡ false → (if b then x ∷ xs else ys) ≡ [] → ys ≡ []
others_none true x xs ys is none = absurd (cc)
others_none false x xs ys is none = none

nothing_by : (w : View) (way : Way) (types : Fields) (slots : List CoreValue) (v : Val) (spilled : Bool) → is_spilled way types ≡ spilled
    → call_parts way types v ≡ [] → leaves_in (tuple_of types) v ≡ [] → met w way types slots v ≡ []
nothing_by w way types slots v true is p l = absurd (spilled_some (is_spilled way types) _ _ _ is p)
nothing_by w way types slots v false is p l =
    ap (λ b. if b then met_at w (tuple_of types) (wrapped_at 4 slots 0) v else met_flat w slots (tuple_of types) 0 v) is ∙ flat_none w slots (tuple_of types) 0 v (others_none (is_spilled way types) _ _ _ is p) l

pub nothing_met : (w : View) (way : Way) (types : Fields) (slots : List CoreValue) (v : Val)
    → call_parts way types v ≡ [] → leaves_in (tuple_of types) v ≡ [] → met w way types slots v ≡ []
nothing_met w way types slots v = nothing_by w way types slots v (is_spilled way types) refl
