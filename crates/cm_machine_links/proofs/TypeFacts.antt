-- What types without strings, lists or borrows pass.
use Rattle.std.proofs.Common.{◌≡◌, ℕ, zero, suc, List, [], ◌∷◌, ◌++◌, false, refl}
use Rattle.cm_types.specs.Holds.{cases_hold, fields_hold, holds, is_borrow, is_string}
use Rattle.cm_types.specs.Types.{Ty, Fields, Cases, bool, signed, unsigned, char, string, list, fixed_list, fields, cases, flags, own, borrow, no_fields, field, no_cases, plain, carrying}
use Rattle.cm_types.specs.Values.{AllVals, HasType, HaveTypes, IsCarriedCase, Val, Vals, no_vals, val, truth, signed_number, number, scalar, text, elements, parts, bare, bearing, flag_set, handle}
use Rattle.cm_abi_model.specs.Parts.{Part, parts_each, parts_in, parts_in_fields, parts_in_payload}
use Rattle.cm_abi_model.specs.Receives.{HandleLeaf, borrowed_leaf, leaves_each, leaves_in, leaves_in_fields, leaves_in_payload, owned_leaf}
use Rattle.cm_abi_model.specs.Requests.{CarryNoString, HasNoString, HaveNoString}
use Rattle.cm_validate_model.specs.Options.{is_pointer}
use Rattle.cm_machine_model.specs.Plans.{NoneBorrowed}
use Rattle.cm_lemmas.proofs.Bools.{or_left, or_right}

nothing_both : {A : Type 0} (xs ys : List A) → xs ≡ [] → ys ≡ [] → xs ++ ys ≡ []
nothing_both [] ys e f = f
nothing_both (x ∷ xs) ys e f = cc e

-- ---- a value without strings and lists has no parts

no_each : (P : Val → List Part) (Q : Val → Type 0) → ((v : Val) → Q v → P v ≡ []) → (vs : Vals) → AllVals Q vs → parts_each P vs ≡ []
no_each P Q one no_vals h = refl
no_each P Q one (val v vs) h = nothing_both (P v) (parts_each P vs) (one v h.0) (no_each P Q one vs h.1)

mutual
  pub no_parts : (t : Ty) (v : Val) → HasType t v → holds is_pointer t ≡ false → parts_in t v ≡ []
  no_parts bool (truth b) h p = refl
  no_parts bool (signed_number z) h p = refl
  no_parts bool (number n) h p = refl
  no_parts bool (scalar c) h p = refl
  no_parts bool (text cs) h p = absurd h
  no_parts bool (elements vs) h p = refl
  no_parts bool (parts vs) h p = refl
  no_parts bool (bare i) h p = refl
  no_parts bool (bearing i v) h p = refl
  no_parts bool (flag_set m) h p = refl
  no_parts bool (handle x) h p = refl
  no_parts (signed w) (truth b) h p = refl
  no_parts (signed w) (signed_number z) h p = refl
  no_parts (signed w) (number n) h p = refl
  no_parts (signed w) (scalar c) h p = refl
  no_parts (signed w) (text cs) h p = absurd h
  no_parts (signed w) (elements vs) h p = refl
  no_parts (signed w) (parts vs) h p = refl
  no_parts (signed w) (bare i) h p = refl
  no_parts (signed w) (bearing i v) h p = refl
  no_parts (signed w) (flag_set m) h p = refl
  no_parts (signed w) (handle x) h p = refl
  no_parts (unsigned w) (truth b) h p = refl
  no_parts (unsigned w) (signed_number z) h p = refl
  no_parts (unsigned w) (number n) h p = refl
  no_parts (unsigned w) (scalar c) h p = refl
  no_parts (unsigned w) (text cs) h p = absurd h
  no_parts (unsigned w) (elements vs) h p = refl
  no_parts (unsigned w) (parts vs) h p = refl
  no_parts (unsigned w) (bare i) h p = refl
  no_parts (unsigned w) (bearing i v) h p = refl
  no_parts (unsigned w) (flag_set m) h p = refl
  no_parts (unsigned w) (handle x) h p = refl
  no_parts char (truth b) h p = refl
  no_parts char (signed_number z) h p = refl
  no_parts char (number n) h p = refl
  no_parts char (scalar c) h p = refl
  no_parts char (text cs) h p = absurd h
  no_parts char (elements vs) h p = refl
  no_parts char (parts vs) h p = refl
  no_parts char (bare i) h p = refl
  no_parts char (bearing i v) h p = refl
  no_parts char (flag_set m) h p = refl
  no_parts char (handle x) h p = refl
  no_parts (flags ls) (truth b) h p = refl
  no_parts (flags ls) (signed_number z) h p = refl
  no_parts (flags ls) (number n) h p = refl
  no_parts (flags ls) (scalar c) h p = refl
  no_parts (flags ls) (text cs) h p = absurd h
  no_parts (flags ls) (elements vs) h p = refl
  no_parts (flags ls) (parts vs) h p = refl
  no_parts (flags ls) (bare i) h p = refl
  no_parts (flags ls) (bearing i v) h p = refl
  no_parts (flags ls) (flag_set m) h p = refl
  no_parts (flags ls) (handle x) h p = refl
  no_parts (own r) (truth b) h p = refl
  no_parts (own r) (signed_number z) h p = refl
  no_parts (own r) (number n) h p = refl
  no_parts (own r) (scalar c) h p = refl
  no_parts (own r) (text cs) h p = absurd h
  no_parts (own r) (elements vs) h p = refl
  no_parts (own r) (parts vs) h p = refl
  no_parts (own r) (bare i) h p = refl
  no_parts (own r) (bearing i v) h p = refl
  no_parts (own r) (flag_set m) h p = refl
  no_parts (own r) (handle x) h p = refl
  no_parts (borrow r) (truth b) h p = refl
  no_parts (borrow r) (signed_number z) h p = refl
  no_parts (borrow r) (number n) h p = refl
  no_parts (borrow r) (scalar c) h p = refl
  no_parts (borrow r) (text cs) h p = absurd h
  no_parts (borrow r) (elements vs) h p = refl
  no_parts (borrow r) (parts vs) h p = refl
  no_parts (borrow r) (bare i) h p = refl
  no_parts (borrow r) (bearing i v) h p = refl
  no_parts (borrow r) (flag_set m) h p = refl
  no_parts (borrow r) (handle x) h p = refl
  no_parts string v h p = cc p
  no_parts (list t) v h p = cc p
  no_parts (fixed_list t k) (truth b) h p = refl
  no_parts (fixed_list t k) (signed_number z) h p = refl
  no_parts (fixed_list t k) (number n) h p = refl
  no_parts (fixed_list t k) (scalar c) h p = refl
  no_parts (fixed_list t k) (text cs) h p = absurd h
  no_parts (fixed_list t k) (elements vs) h p = refl
  no_parts (fixed_list t k) (parts vs) h p = no_each (parts_in t) (HasType t) (λ v k. no_parts t v k p) vs h.1
  no_parts (fixed_list t k) (bare i) h p = refl
  no_parts (fixed_list t k) (bearing i v) h p = refl
  no_parts (fixed_list t k) (flag_set m) h p = refl
  no_parts (fixed_list t k) (handle x) h p = refl
  no_parts (fields k fs) (truth b) h p = refl
  no_parts (fields k fs) (signed_number z) h p = refl
  no_parts (fields k fs) (number n) h p = refl
  no_parts (fields k fs) (scalar c) h p = refl
  no_parts (fields k fs) (text cs) h p = absurd h
  no_parts (fields k fs) (elements vs) h p = refl
  no_parts (fields k fs) (parts vs) h p = no_field_parts fs vs h p
  no_parts (fields k fs) (bare i) h p = refl
  no_parts (fields k fs) (bearing i v) h p = refl
  no_parts (fields k fs) (flag_set m) h p = refl
  no_parts (fields k fs) (handle x) h p = refl
  no_parts (cases k cs) (truth b) h p = refl
  no_parts (cases k cs) (signed_number z) h p = refl
  no_parts (cases k cs) (number n) h p = refl
  no_parts (cases k cs) (scalar c) h p = refl
  no_parts (cases k cs) (text xs) h p = absurd h
  no_parts (cases k cs) (elements vs) h p = refl
  no_parts (cases k cs) (parts vs) h p = refl
  no_parts (cases k cs) (bare i) h p = refl
  no_parts (cases k cs) (bearing i v) h p = no_payload_parts cs i v h p
  no_parts (cases k cs) (flag_set m) h p = refl
  no_parts (cases k cs) (handle x) h p = refl

  pub no_field_parts : (fs : Fields) (vs : Vals) → HaveTypes fs vs → fields_hold is_pointer fs ≡ false → parts_in_fields fs vs ≡ []
  no_field_parts no_fields vs h p = refl
  no_field_parts (field l t fs) no_vals h p = refl
  no_field_parts (field l t fs) (val v vs) h p =
      nothing_both (parts_in t v) (parts_in_fields fs vs) (no_parts t v h.0 (or_left (holds is_pointer t) (fields_hold is_pointer fs) p)) (no_field_parts fs vs h.1 (or_right (holds is_pointer t) (fields_hold is_pointer fs) p))

  no_payload_parts : (cs : Cases) (i : ℕ) (v : Val) → IsCarriedCase cs i v → cases_hold is_pointer cs ≡ false → parts_in_payload cs i v ≡ []
  no_payload_parts no_cases i v h p = refl
  no_payload_parts (plain l cs) zero v h p = refl
  no_payload_parts (plain l cs) (suc i) v h p = no_payload_parts cs i v h p
  no_payload_parts (carrying l t cs) zero v h p = no_parts t v h (or_left (holds is_pointer t) (cases_hold is_pointer cs) p)
  no_payload_parts (carrying l t cs) (suc i) v h p = no_payload_parts cs i v h (or_right (holds is_pointer t) (cases_hold is_pointer cs) p)

-- ---- no handle of a value without borrows is borrowed

none_both : (ls ms : List HandleLeaf) → NoneBorrowed ls → NoneBorrowed ms → NoneBorrowed (ls ++ ms)
none_both [] ms a b = b
none_both (owned_leaf h ∷ ls) ms a b = none_both ls ms a b
none_both (borrowed_leaf h ∷ ls) ms a b = a

none_each : (L : Val → List HandleLeaf) → ((v : Val) → NoneBorrowed (L v)) → (vs : Vals) → NoneBorrowed (leaves_each L vs)
none_each L one no_vals = tt
none_each L one (val v vs) = none_both (L v) (leaves_each L vs) (one v) (none_each L one vs)

mutual
  pub none_borrowed : (t : Ty) (v : Val) → holds is_borrow t ≡ false → NoneBorrowed (leaves_in t v)
  none_borrowed (list t) (elements vs) p = none_each (leaves_in t) (λ v. none_borrowed t v p) vs
  none_borrowed (list t) v p = tt
  none_borrowed (fixed_list t n) (parts vs) p = none_each (leaves_in t) (λ v. none_borrowed t v p) vs
  none_borrowed (fixed_list t n) v p = tt
  none_borrowed (fields k fs) (parts vs) p = none_in_fields fs vs p
  none_borrowed (fields k fs) v p = tt
  none_borrowed (cases k cs) (bearing i v) p = none_in_cases cs i v p
  none_borrowed (cases k cs) v p = tt
  none_borrowed (own r) (handle h) p = tt
  none_borrowed (own r) v p = tt
  none_borrowed (borrow r) v p = cc p
  none_borrowed bool v p = tt
  none_borrowed (signed k) v p = tt
  none_borrowed (unsigned k) v p = tt
  none_borrowed char v p = tt
  none_borrowed string v p = tt
  none_borrowed (flags ls) v p = tt

  none_in_fields : (fs : Fields) (vs : Vals) → fields_hold is_borrow fs ≡ false → NoneBorrowed (leaves_in_fields fs vs)
  none_in_fields no_fields vs p = tt
  none_in_fields (field l t fs) no_vals p = tt
  none_in_fields (field l t fs) (val v vs) p =
      none_both (leaves_in t v) (leaves_in_fields fs vs) (none_borrowed t v (or_left (holds is_borrow t) (fields_hold is_borrow fs) p)) (none_in_fields fs vs (or_right (holds is_borrow t) (fields_hold is_borrow fs) p))

  none_in_cases : (cs : Cases) (i : ℕ) (v : Val) → cases_hold is_borrow cs ≡ false → NoneBorrowed (leaves_in_payload cs i v)
  none_in_cases no_cases i v p = tt
  none_in_cases (plain l cs) zero v p = tt
  none_in_cases (plain l cs) (suc i) v p = none_in_cases cs i v p
  none_in_cases (carrying l t cs) zero v p = none_borrowed t v (or_left (holds is_borrow t) (cases_hold is_borrow cs) p)
  none_in_cases (carrying l t cs) (suc i) v p = none_in_cases cs i v (or_right (holds is_borrow t) (cases_hold is_borrow cs) p)

-- ---- no string

mutual
  no_string : (t : Ty) → holds is_string t ≡ false → HasNoString t
  no_string bool p = tt
  no_string (signed w) p = tt
  no_string (unsigned w) p = tt
  no_string char p = tt
  no_string string p = cc p
  no_string (list t) p = no_string t p
  no_string (fixed_list t n) p = no_string t p
  no_string (fields k fs) p = no_strings fs p
  no_string (cases k cs) p = no_case_strings cs p
  no_string (flags ls) p = tt
  no_string (own r) p = tt
  no_string (borrow r) p = tt

  pub no_strings : (fs : Fields) → fields_hold is_string fs ≡ false → HaveNoString fs
  no_strings no_fields p = tt
  no_strings (field l t fs) p = (no_string t (or_left (holds is_string t) (fields_hold is_string fs) p), no_strings fs (or_right (holds is_string t) (fields_hold is_string fs) p))

  no_case_strings : (cs : Cases) → cases_hold is_string cs ≡ false → CarryNoString cs
  no_case_strings no_cases p = tt
  no_case_strings (plain l cs) p = no_case_strings cs p
  no_case_strings (carrying l t cs) p = (no_string t (or_left (holds is_string t) (cases_hold is_string cs) p), no_case_strings cs (or_right (holds is_string t) (cases_hold is_string cs) p))
